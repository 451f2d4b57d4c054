-- Which rows belong together, and so the numbers of the groups, does not depend on the numbers of the bodies. Assumes nothing.
use Prim.Native.Nat.{ℕ, ◌<◌}
use mathlib.Core.Path.{◌≡◌, sym, ap, subst, ◌∙◌}
use mathlib.Core.Bool.{Bool}
use mathlib.Core.List.{List}
use mathlib.Core.Logic.{inl, inr}
use lib.ListN.{get_or}
use Rattle.groups.specs.Together.{Links, Has, Linked, Together, Grouped, Member, Apart}
use Rattle.groups.specs.Together.Together.{itself, shared, through}
use Rattle.groups.proofs.Only.{grouped_only, grouped_count}
use Rattle.renumbered.specs.Renumber.{Renumbering}

-- the rows of m are those of l with their bodies by p, and the bodies that join are the same
pub record Renamed (p : ℕ → ℕ) (bodies rows : ℕ) (l m : Links) (j k : ℕ → Bool) : Type 0 where
  pub linked : Linked l rows bodies
  pub a : (i : ℕ) → i < rows → m.a i ≡ p (l.a i)
  pub b : (i : ℕ) → i < rows → m.b i ≡ p (l.b i)
  pub joins : (b : ℕ) → b < bodies → k (p b) ≡ j b

-- and back
pub renamed_back : (p q : ℕ → ℕ) (bodies rows : ℕ) (l m : Links) (j k : ℕ → Bool) → Renumbering bodies p q → Renamed p bodies rows l m j k → Renamed q bodies rows m l k j
renamed_back p q bodies rows l m j k r w = record {
  linked = record { a = λ i h. rw (w.a i h) (r.new_below (l.a i) (w.linked.a i h)); b = λ i h. rw (w.b i h) (r.new_below (l.b i) (w.linked.b i h)) };
  a = λ i h. sym (r.back (l.a i) (w.linked.a i h)) ∙ ap q (sym (w.a i h));
  b = λ i h. sym (r.back (l.b i) (w.linked.b i h)) ∙ ap q (sym (w.b i h));
  joins = λ b h. sym (w.joins (q b) (r.old_below b h)) ∙ ap k (r.forth b h);
}

module _ (p : ℕ → ℕ) (bodies rows : ℕ) (l m : Links) (j k : ℕ → Bool) (w : Renamed p bodies rows l m j k) where
  has_below : (i b : ℕ) → i < rows → Has l i b → b < bodies
  has_below i b h (inl e) = subst (λ x. x < bodies) e (w.linked.a i h)
  has_below i b h (inr e) = subst (λ x. x < bodies) e (w.linked.b i h)

  pub has_moved : (i b : ℕ) → i < rows → Has l i b → Has m i (p b)
  has_moved i b h (inl e) = inl (w.a i h ∙ ap p e)
  has_moved i b h (inr e) = inr (w.b i h ∙ ap p e)

  together_moved : (x y : ℕ) → Together l j rows x y → Together m k rows x y
  together_moved x y (itself i) = itself i
  together_moved x y (shared i o b h n u v t) = shared i o (p b) h n (has_moved i b h u) (has_moved o b n v) (w.joins b (has_below i b h u) ∙ t)
  together_moved x y (through i o n u v) = through i o n (together_moved i o u) (together_moved o n v)

module _ (p q : ℕ → ℕ) (bodies rows : ℕ) (l m : Links) (j k : ℕ → Bool) (r : Renumbering bodies p q) (w : Renamed p bodies rows l m j k) where
  back : Renamed q bodies rows m l k j
  back = renamed_back p q bodies rows l m j k r w

  -- what numbers the groups of one numbers those of the other
  pub grouped_moved : (groups : List ℕ) (count : ℕ) → Grouped m k rows groups count → Grouped l j rows groups count
  grouped_moved groups count g = record {
    together = λ x y h n. (λ e. together_moved q bodies rows m l k j back x y ((g.together x y h n).0 e), λ t. (g.together x y h n).1 (together_moved p bodies rows l m j k w x y t));
    below = g.below;
    first = g.first;
    ordered = g.ordered;
  }

  -- so both have the same numbers (`grouped_only`)
  module _ (u v : List ℕ) (c d : ℕ) (x : Grouped l j rows u c) (y : Grouped m k rows v d) where
    pub same_groups : (i : ℕ) → i < rows → get_or v i 0 ≡ get_or u i 0
    same_groups = grouped_only l j rows v u d c (grouped_moved v d y) x

    pub same_count : d ≡ c
    same_count = grouped_count l j rows v u d c (grouped_moved v d y) x

    -- and the same bodies, under their new numbers
    pub member_moved : (g b : ℕ) → b < bodies → Member l j rows u g b → Member m k rows v g (p b)
    member_moved g b h n = record { row = n.row; within = n.within; group = same_groups n.row n.within ∙ n.group; has = has_moved p bodies rows l m j k w n.row b n.within n.has; joins = w.joins b h ∙ n.joins }

  pub apart_moved : (b : ℕ) → b < bodies → Apart l j rows b → Apart m k rows (p b)
  apart_moved b h (inl e) = inl (w.joins b h ∙ e)
  apart_moved b h (inr n) = inr (λ i t u. n i t (subst (λ x. Has l i x) (r.back b h) (has_moved q bodies rows m l k j back i (p b) t u)))
