-- Numbers by lowest row: the two ways through `number_row`, and what they come to at the end. Assumes nothing.
use Prim.Native.Nat.{ℕ, ◌+◌, ◌-◌, ◌<◌, ◌≤◌}
use mathlib.Core.Path.{◌≡◌, refl, sym, ap, ◌∙◌}
use mathlib.Core.Bool.{Bool}
use mathlib.Core.List.{List}
use native.Mathlib.Omega.{arith}
use native.Mathlib.Nat.{ne_of_lt}
use native.Mathlib.Decide.{ℕ_discrete, dec_lt}
use borrow.Author.Count.{below_more}
use lib.ListN.{length, get_or, set, length-set, replicate, get_or-replicate, length-replicate, get_or-eq_default}
use lib.Seq.{get_or-set_same, get_or-set_other}
use Rattle.groups.specs.Together.{Links, Linked, First, Grouped}
use Rattle.groups.specs.Steps.{Part, RowNumbered, Numbered, Front, key_of, Labels, KeysBelow, Zeros, Zeroed, Unchanged}
use Rattle.groups.proofs.Join.{keys_iff, keys_low}

pub part_none : (keys table : List ℕ) → ((x : ℕ) → get_or table x 0 ≡ 0) → Part keys 0 keys table 0
part_none keys table z = record {
  few = omega arith;
  rest = λ r h. refl;
  seen = λ r h. absurd (omega arith);
  apart = λ x y h e. absurd (omega (arith, z x));
  top = λ x. omega (arith, z x);
  first = λ g h. absurd (omega arith);
}

-- the firsts of the numbers in use stay, where row i is written
firsts_stay : (i v : ℕ) (groups : List ℕ) (g r : ℕ) → r < i → get_or groups r 0 ≡ g → ((j : ℕ) → j < r → get_or groups j 0 < g) → (r : ℕ) × (r < i + 1) × (get_or (set groups i v) r 0 ≡ g) × ((j : ℕ) → j < r → get_or (set groups i v) j 0 < g)
firsts_stay i v groups g r l e m = (r, omega arith, get_or-set_other groups i r v 0 (ne_of_lt l) ∙ e, λ j h. omega (arith, get_or-set_other groups i j v 0 (λ q. omega arith), m j h))

module _ (i : ℕ) (groups table : List ℕ) (count at : ℕ) (ea : at ≡ get_or groups i 0) (hi : i < length groups) (ha : get_or groups i 0 < length table) where
  -- the key has a number
  pub number_old : (get_or table at 0 ≡ 0 → ⊥) → RowNumbered i groups table count (set groups i (get_or table at 0 - 1)) table count
  number_old z = record { long_groups = length-set groups i _; long_table = refl; more = more }
    where
      more : (keys : List ℕ) → Part keys i groups table count → Part keys (i + 1) (set groups i (get_or table at 0 - 1)) table count
      more keys f = record {
        few = omega (arith, f.few);
        rest = λ r h. get_or-set_other groups i r _ 0 (λ q. omega arith) ∙ f.rest r (omega arith);
        seen = below_more _ _ (λ r h. f.seen r h ∙ ap (λ x. x + 1) (sym (get_or-set_other groups i r _ 0 (ne_of_lt h)))) here;
        apart = f.apart;
        top = f.top;
        first = λ g h. let (r, l, e, m) = f.first g h in firsts_stay i _ groups g r l e m;
      }
        where
          here : get_or table (get_or keys i 0) 0 ≡ get_or (set groups i (get_or table at 0 - 1)) i 0 + 1
          here = omega (arith, ap (λ x. get_or table x 0) (ea ∙ f.rest i (omega arith)), get_or-set_same groups i (get_or table at 0 - 1) 0 hi, z)

  -- the key has none yet
  pub number_new : get_or table at 0 ≡ 0 → RowNumbered i groups table count (set groups i count) (set table at (count + 1)) (count + 1)
  number_new z = record { long_groups = length-set groups i count; long_table = length-set table at (count + 1); more = more }
    where
      there : get_or (set table at (count + 1)) at 0 ≡ count + 1
      there = get_or-set_same table at (count + 1) 0 (omega arith)

      else : (x : ℕ) → (x ≡ at → ⊥) → get_or (set table at (count + 1)) x 0 ≡ get_or table x 0
      else x n = get_or-set_other table at x (count + 1) 0 n

      more : (keys : List ℕ) → Part keys i groups table count → Part keys (i + 1) (set groups i count) (set table at (count + 1)) (count + 1)
      more keys f = record {
        few = omega (arith, f.few);
        rest = λ r h. get_or-set_other groups i r _ 0 (λ q. omega arith) ∙ f.rest r (omega arith);
        seen = below_more _ _ before here;
        apart = λ x y h e. apart x y (ℕ_discrete x at) (ℕ_discrete y at) h e;
        top = λ x. top x (ℕ_discrete x at);
        first = below_more _ _ (λ g h. let (r, l, e, m) = f.first g h in firsts_stay i _ groups g r l e m) new;
      }
        where
          key : at ≡ get_or keys i 0
          key = ea ∙ f.rest i (omega arith)

          before : (r : ℕ) → r < i → get_or (set table at (count + 1)) (get_or keys r 0) 0 ≡ get_or (set groups i count) r 0 + 1
          before r h = omega (arith, else (get_or keys r 0) (λ q. omega (arith, ap (λ x. get_or table x 0) q, f.seen r h)), f.seen r h, get_or-set_other groups i r count 0 (ne_of_lt h))

          here : get_or (set table at (count + 1)) (get_or keys i 0) 0 ≡ get_or (set groups i count) i 0 + 1
          here = ap (λ x. get_or (set table at (count + 1)) x 0) (sym key) ∙ omega (arith, there, get_or-set_same groups i count 0 hi)

          apart : (x y : ℕ) → Dec (x ≡ at) → Dec (y ≡ at) → 0 < get_or (set table at (count + 1)) x 0 → get_or (set table at (count + 1)) x 0 ≡ get_or (set table at (count + 1)) y 0 → x ≡ y
          apart x y (yes p) (yes q) h e = p ∙ sym q
          apart x y (yes p) (no q) h e = absurd (omega (arith, ap (λ x. get_or (set table at (count + 1)) x 0) p, there, else y q, f.top y))
          apart x y (no p) (yes q) h e = absurd (omega (arith, ap (λ x. get_or (set table at (count + 1)) x 0) q, there, else x p, f.top x))
          apart x y (no p) (no q) h e = f.apart x y (omega (arith, else x p)) (sym (else x p) ∙ e ∙ else y q)

          top : (x : ℕ) → Dec (x ≡ at) → get_or (set table at (count + 1)) x 0 ≤ count + 1
          top x (yes p) = omega (arith, ap (λ x. get_or (set table at (count + 1)) x 0) p, there)
          top x (no p) = omega (arith, else x p, f.top x)

          new : (r : ℕ) × (r < i + 1) × (get_or (set groups i count) r 0 ≡ count) × ((j : ℕ) → j < r → get_or (set groups i count) j 0 < count)
          new = (i, omega arith, get_or-set_same groups i count 0 hi, λ j h. omega (arith, get_or-set_other groups i j count 0 (ne_of_lt h), f.seen j h, f.top (get_or keys j 0)))

-- the loop's invariant, and what it comes to
pub record Numbering (keys table₀ : List ℕ) (n i : ℕ) (groups table : List ℕ) (count : ℕ) : Type 0 where
  pub within : i ≤ n
  pub long_groups : length groups ≡ length keys
  pub long_table : length table ≡ length table₀
  pub part : Part keys i groups table count

pub numbering_none : (keys table : List ℕ) (n : ℕ) → Zeros table → Numbering keys table n 0 keys table 0
numbering_none keys table n z = record { within = omega arith; long_groups = refl; long_table = refl; part = part_none keys table z.at }

pub numbering_more : {keys table₀ : List ℕ} {n i : ℕ} {groups table groups' table' : List ℕ} {count count' : ℕ} → Numbering keys table₀ n i groups table count → i < n → RowNumbered i groups table count groups' table' count'
    → Numbering keys table₀ n (i + 1) groups' table' count'
numbering_more {keys} h l r = record { within = omega arith; long_groups = r.long_groups ∙ h.long_groups; long_table = r.long_table ∙ h.long_table; part = r.more keys h.part }

pub numbering_key : {keys table₀ : List ℕ} {n i : ℕ} {groups table : List ℕ} {count : ℕ} → Numbering keys table₀ n i groups table count → i < n → KeysBelow keys n (length table₀) → get_or groups i 0 < length table
numbering_key {i = i} h l k = omega (arith, h.part.rest i (omega arith), k.at i l, h.long_table)

module _ (keys table₀ : List ℕ) (n : ℕ) (groups table : List ℕ) (count : ℕ) (h : Numbering keys table₀ n n groups table count) where
  numbered_below : (i : ℕ) → i < n → get_or groups i 0 < count
  numbered_below i l = omega (arith, h.part.seen i l, h.part.top (get_or keys i 0))

  numbered_first : (g : ℕ) → g < count → (i : ℕ) × First groups n g i
  numbered_first g l = let (r, b, e, m) = h.part.first g l in (r, record { within = b; here = e; none = λ j k q. omega (arith, m j k) })

  numbered_ordered : (g k i j : ℕ) → g < k → First groups n g i → First groups n k j → i < j
  numbered_ordered g k i j l p q = let (r, b, e, m) = h.part.first g (omega (arith, p.here, numbered_below i p.within)) in go r e m (dec_lt i j) (dec_lt r i) (dec_lt j r)
    where
      go : (r : ℕ) → get_or groups r 0 ≡ g → ((j : ℕ) → j < r → get_or groups j 0 < g) → Dec (i < j) → Dec (r < i) → Dec (j < r) → i < j
      go r e m (yes a) b c = a
      go r e m (no a) (yes b) c = absurd (p.none r b e)
      go r e m (no a) (no b) (yes c) = absurd (omega (arith, m j c, q.here))
      go r e m (no a) (no b) (no c) = let s : r ≡ j = omega arith in absurd (omega (arith, ap (λ x. get_or groups x 0) s, q.here))

  numbered : Numbered keys groups n count
  numbered = record {
    few = h.part.few;
    long = h.long_groups;
    rest = h.part.rest;
    same = λ i j hi hj. (λ e. h.part.apart (get_or keys i 0) (get_or keys j 0) (omega (arith, h.part.seen i hi)) (omega (arith, h.part.seen i hi, h.part.seen j hj)), λ e. omega (arith, ap (λ x. get_or table x 0) e, h.part.seen i hi, h.part.seen j hj));
    below = numbered_below;
    first = numbered_first;
    ordered = numbered_ordered;
  }

pub numbering_end : {keys table₀ : List ℕ} {n i : ℕ} {groups table : List ℕ} {count : ℕ} → Numbering keys table₀ n i groups table count → n ≤ i → Numbered keys groups n count
numbering_end {keys} {table₀} {n} {i} {groups} {table} {count} h l = let e : i ≡ n = omega (arith, h.within) in numbered keys table₀ n groups table count (rw e at h)

-- ---- the parts of `group_rows`
module _ {l₀ l : List ℕ} (z : Zeroed l₀ l) where
  pub zeroed_long : length l ≡ length l₀
  zeroed_long = ap length z.all ∙ length-replicate {A = ℕ} (length l₀) 0

  pub zeroed_zeros : Zeros l
  zeroed_zeros = rw z.all (record { at = λ x. go x (dec_lt x (length l₀)) })
    where
      go : (x : ℕ) → Dec (x < length l₀) → get_or {A = ℕ} (replicate (length l₀) 0) x 0 ≡ 0
      go x (yes h) = get_or-replicate (length l₀) x 0 0 h
      go x (no h) = get_or-eq_default (replicate (length l₀) 0) 0 (omega (arith, length-replicate {A = ℕ} (length l₀) 0))

  pub zeroed_all : (k : List ℕ) → length l₀ ≡ length k → l ≡ replicate (length k) 0
  zeroed_all k e = z.all ∙ ap (λ n. replicate n 0) e

module _ (links : Links) (joining : ℕ → Bool) (rows bodies : ℕ) (linked : Linked links rows bodies) (labels : List ℕ) (f : Labels links joining rows bodies rows labels) (groups₀ keys : List ℕ)
    (k : Front (key_of links joining bodies labels) rows groups₀ keys) where
  pub group_keys : (m : ℕ) → bodies + rows ≤ m → KeysBelow keys rows m
  group_keys m l = record { at = λ i h. omega (arith, k.done i h, keys_low links joining rows bodies labels linked f i h) }

  module _ (groups : List ℕ) (count : ℕ) (n : Numbered keys groups rows count) where
    pub grouped : Grouped links joining rows groups count
    grouped = record {
      together = λ i j hi hj. let (p, q) = n.same i j hi hj in let (s, t) = keys_iff links joining rows bodies labels linked f i j hi hj in
          (λ e. s (sym (k.done i hi) ∙ p e ∙ k.done j hj), λ e. q (k.done i hi ∙ t e ∙ sym (k.done j hj)));
      below = n.below;
      first = n.first;
      ordered = n.ordered;
    }

    pub group_rest : Unchanged rows groups₀ groups
    group_rest = record { long = n.long ∙ k.long; rest = λ i h. n.rest i h ∙ k.rest i h }
