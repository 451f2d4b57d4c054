-- The marks of a row, and the ways through the functions that make the factor. Assumes nothing.
use Prim.Native.Nat.{ℕ, ◌+◌, ◌-◌, ◌<◌, ◌≤◌}
use mathlib.Core.Path.{◌≡◌, refl, ap, sym, ◌∙◌, fun_ext}
use mathlib.Core.Bool.{Bool, true, false, not, cond}
use mathlib.Core.List.{List}
use mathlib.Core.Option.{Option, none, some}
use native.Mathlib.Decide.{dec_le, ℕ_discrete}
use native.Mathlib.Omega.{arith}
use lib.Dec.{ltb}
use lib.ListN.{get_or, set, length, length-set}
use lib.Seq.{get_or-set_same, get_or-set_other}
use lib.Ieee.{Float, nan, binary64, sub, mul, div}
use lib.Ieee.Scale.{finite}
use borrow.Author.Tests.{lt-ltb, le-ltb, eq-eqb, ne_eqb}
use Rattle.std.specs.Prelude.{Result, Ok, Err}
use Rattle.loops.specs.Run.{Run, going, ended, on}
use Rattle.loops.proofs.Loop.{check_pass, check_fail, on_going, on_ended}
use Rattle.binary64.specs.Answer.{root_of}
use Rattle.sparse.specs.Triangle.{Sparse, put}
use Rattle.sparse.specs.Count.{count}
use Rattle.sparse.specs.Cholesky.{less, less_turn, reduced_of, quotient_of, factored, column_of, column_turn, factors_run, squares_of, reduced_run, fit, root_value, Factor, pivot_of, row_turn}
use Rattle.sparse.specs.Kept.{start, Row, numbers}
use Rattle.sparse.specs.Marks.{AtMost, Marked, less_at}
use Rattle.sparse.specs.Answers.{column_out, reduced_out, factor_out}
use Rattle.sparse.specs.declared.cholesky.Unfit.{Unfit}
use Rattle.sparse.proofs.Hop.{plain, Skips, Hops, rising_le, hop_more, turns_same}
use Rattle.sparse.proofs.Rows.{numbers_some, numbers_none, numbers_set}

pub marked_none : (columns marks : List ℕ) (a : ℕ) → AtMost marks a → Marked columns a a marks
marked_none columns marks a h = record {
  most = h.most;
  hit = λ k l. absurd (omega (arith, h.most k));
  miss = λ k _ l. record { nowhere = λ q p1 p2 e. omega arith };
}

pub at_most : (columns marks : List ℕ) (a p b : ℕ) → Marked columns a p marks → p ≤ b → AtMost marks b
at_most columns marks a p b h l = record { most = λ k. omega (arith, h.most k) }

pub marked_more : (columns marks marks' : List ℕ) (a p j m : ℕ) → Marked columns a p marks → a ≤ p → j ≡ get_or columns p 0 → m ≡ p + 1 → j < length marks
    → marks' ≡ set marks j m → Marked columns a (p + 1) marks'
marked_more columns marks marks' a p j m h l ej em lt e = rw (e, em) (record {
  most = λ k. most' k (ℕ_discrete k j);
  hit = λ k. hit' k (ℕ_discrete k j);
  miss = λ k b g. record { nowhere = λ q p1 p2 eq. miss' k (ℕ_discrete k j) (rw length-set at b) g q p1 p2 eq };
})
  where
    new : List ℕ
    new = set marks j (p + 1)

    here : (k : ℕ) → k ≡ j → get_or new k 0 ≡ p + 1
    here k e = rw e (get_or-set_same marks j (p + 1) 0 lt)

    most' : (k : ℕ) → Dec (k ≡ j) → get_or new k 0 ≤ p + 1
    most' k (yes e) = omega (arith, here k e)
    most' k (no e) = omega (arith, get_or-set_other marks j k (p + 1) 0 e, h.most k)

    hit' : (k : ℕ) → Dec (k ≡ j) → a < get_or new k 0 → get_or columns (get_or new k 0 - 1) 0 ≡ k
    hit' k (yes e) g = let u : get_or new k 0 - 1 ≡ p = omega (arith, here k e) in rw u (sym (e ∙ ej))
    hit' k (no e) g = let u = get_or-set_other marks j k (p + 1) 0 e in rw u (h.hit k (rw u at g))

    miss' : (k : ℕ) → Dec (k ≡ j) → k < length marks → get_or new k 0 ≤ a → (q : ℕ) → a ≤ q → q < p + 1 → get_or columns q 0 ≡ k → ⊥
    miss' k (yes e) b g q p1 p2 eq = omega (arith, here k e)
    miss' k (no e) b g q p1 p2 eq = by_place (ℕ_discrete q p)
      where
        by_place : Dec (q ≡ p) → ⊥
        by_place (yes u) = e (sym eq ∙ rw u (sym ej))
        by_place (no u) = (h.miss k b (omega (arith, get_or-set_other marks j k (p + 1) 0 e))).nowhere q p1 (omega arith) eq

less_none : (x : Option Float) (v : Float) → less x none v ≡ v
unfolding less
less_none none v = refl
less_none (some x) v = refl

-- ---- a row of the pattern
module _ {starts columns : List ℕ} {i a b : ℕ} (row : Row starts columns i a b) where
  -- a column that the row lacks is passed over
  pub less_skip : (values : List Float) (h : ℕ) (v : Float) → Skips (plain (less_turn (numbers starts columns values) h i)) columns a b v
  unfolding plain less_turn
  less_skip values h v = record { skip = λ k m. rw (numbers_none row values k m) (ap going (less_none (numbers starts columns values h k) v)) }

  pub squares_way : (values : List Float) (p : ℕ) (v x : Float) → a ≤ p → p < b → x ≡ get_or values p nan
      → plain (less_turn (numbers starts columns values) i i) (get_or columns p 0) v ≡ going (sub binary64 v (mul binary64 x x))
  unfolding plain less_turn less
  squares_way values p v x p1 p2 e = rw (numbers_some row values p p1 p2, e)

  -- a number written at p changes nothing in the columns before
  kept_before : (values : List Float) (p : ℕ) (x : Float) → a ≤ p → p < b → length values ≡ length columns → (k : ℕ) → k < get_or columns p 0
      → numbers starts columns (set values p x) i k ≡ numbers starts columns values i k
  unfolding put
  kept_before values p x p1 p2 l k h =
      rw (numbers_set row values p x p1 p2 (omega (arith, row.inside)), ne_eqb k (get_or columns p 0) (λ e. omega arith), eq-eqb i i refl)

  same_before : (values values' : List Float) (p : ℕ) → a ≤ p → p < b → length values ≡ length columns → values' ≡ set values p (get_or values' p nan) → (k : ℕ) → k < get_or columns p 0
      → plain (less_turn (numbers starts columns values') i i) k ≡ plain (less_turn (numbers starts columns values) i i) k
  unfolding plain less_turn
  same_before values values' p p1 p2 l e k lk =
      let w : numbers starts columns values' i k ≡ numbers starts columns values i k = ap (λ (v : List Float). numbers starts columns v i k) e ∙ kept_before values p (get_or values' p nan) p1 p2 l k lk in
      fun_ext (λ v. rw w)

  -- the factor at p is written, and its square subtracted
  pub squares_more : (values values' : List Float) (d v x : Float) (p : ℕ) → Hops (plain (less_turn (numbers starts columns values) i i)) d columns a b i p v → p < b
      → length values ≡ length columns → values' ≡ set values p (get_or values' p nan) → x ≡ get_or values' p nan
      → Hops (plain (less_turn (numbers starts columns values') i i)) d columns a b i (p + 1) (sub binary64 v (mul binary64 x x))
  squares_more values values' d v x p h l long e ex =
      hop_more
      (record {
        from = h.from;
        to = h.to;
        row = h.row;
        led = λ m le before after. turns_same _ _ d m (λ k lk. same_before values values' p h.from l long e k (omega (arith, after p (omega arith) l))) ∙ h.led m le before after;
      })
      l (squares_way values' p v x h.from l ex) (less_skip values' i (sub binary64 v (mul binary64 x x)))

-- a turn of `reduced`: row i is marked up to the place p of column j, and row j has the column at q
module _ (starts columns : List ℕ) (values : List Float) (marks : List ℕ) (i a b j c d p q : ℕ) (v r : Float) where
  pub less_way : Row starts columns i a b → Row starts columns j c d → Marked columns a p marks → length starts ≡ length marks + 1 → a ≤ p → p < b
      → j ≡ get_or columns p 0 → c ≤ q → q < d → r ≡ less_at v columns values marks a q
      → plain (less_turn (numbers starts columns values) i j) (get_or columns q 0) v ≡ going r
  unfolding plain less_turn less_at less
  less_way row other m long p1 p2 ej q1 q2 e = rw (e, numbers_some other values q q1 q2) (ap going (by_mark (dec_le (get_or marks k 0) a)))
    where
      k : ℕ
      k = get_or columns q 0

      w : ℕ
      w = get_or marks k 0

      before : k < get_or columns p 0
      before = rw ej at (other.rising.below q q1 q2)

      inside : k < length marks
      inside = omega (arith, before, row.rising.below p p1 p2, row.one)

      absent : w ≤ a → (x : ℕ) → Dec (p ≤ x) → a ≤ x → x < b → get_or columns x 0 ≡ k → ⊥
      absent g x (yes h) x1 x2 ex = omega (arith, before, rising_le row.rising p x p1 h x2)
      absent g x (no h) x1 x2 ex = (m.miss k inside g).nowhere x x1 (omega arith) ex

      known : a < w → numbers starts columns values i k ≡ some (get_or values (w - 1) nan)
      known g = rw (m.hit k g) at (numbers_some row values (w - 1) (omega arith) (omega (arith, m.most k)))

      by_mark : Dec (w ≤ a) → less (numbers starts columns values i k) (some (get_or values q nan)) v
          ≡ cond (ltb a w) (sub binary64 v (mul binary64 (get_or values (w - 1) nan) (get_or values q nan))) v
      by_mark (yes g) = rw (le-ltb a w g, numbers_none row values k (record { nowhere = λ x x1 x2 ex. absent g x (dec_le p x) x1 x2 ex }))
      by_mark (no g) = rw (lt-ltb a w (omega arith), known (omega arith))

-- ---- a row
module _ {starts columns : List ℕ} {i a b : ℕ} (row : Row starts columns i a b) where
  pub less_inside : (marks : List ℕ) (j c d q : ℕ) → Row starts columns j c d → length starts ≡ length marks + 1 → j < i → c ≤ q → q < d → get_or columns q 0 < length marks
  less_inside marks j c d q other l h q1 q2 = omega (arith, other.rising.below q q1 q2, row.one)

  pub less_most : (values : List Float) (marks : List ℕ) (p : ℕ) → Marked columns a p marks → p < b → length values ≡ length columns → AtMost marks (length values)
  less_most values marks p m h l = record { most = λ k. omega (arith, m.most k, row.inside) }

  pub row_marked : (marks : List ℕ) → AtMost marks (start starts i) → Marked columns a a marks
  row_marked marks h = rw row.from (marked_none columns marks (start starts i) h)

  pub row_most : (marks : List ℕ) (p : ℕ) → Marked columns a p marks → p ≤ b → AtMost marks (start starts (i + 1))
  row_most marks p m h = record { most = λ k. omega (arith, m.most k, row.to) }

  pub row_most_out : (marks : List ℕ) (p : ℕ) → Marked columns a (p + 1) marks → p < b → AtMost marks (start starts (i + 1))
  row_most_out marks p m h = record { most = λ k. omega (arith, m.most k, row.to) }

  pub column_skip : (values pivots : List Float) → Skips (column_turn pivots i) columns a b (numbers starts columns values)
  unfolding column_turn column_of
  column_skip values pivots = record { skip = λ k m. rw (numbers_none row values k m) }

  pub row_marks : (marks : List ℕ) (p j m : ℕ) → Marked columns a p marks → a ≤ p → p < b → j ≡ get_or columns p 0 → length starts ≡ length marks + 1
      → m ≡ p + 1 → Marked columns a (p + 1) (set marks j m)
  row_marks marks p j m h p1 p2 ej l em = marked_more columns marks (set marks j m) a p j m h p1 ej em (omega (arith, row.one, row.rising.below p p1 p2)) refl

  -- the two ways through `factor_at`
  module _ (values pivots : List Float) (p j : ℕ) (u v : Float) (t : Bool) (et : t ≡ finite (div binary64 v (get_or pivots j nan))) where
    pub column_on : (values' : List Float) → not t ≡ false → v ≡ reduced_of (numbers starts columns values) i j u → u ≡ get_or values p nan → j ≡ get_or columns p 0
        → a ≤ p → p < b → length values ≡ length columns → values' ≡ set values p (div binary64 v (get_or pivots j nan))
        → column_turn pivots i (get_or columns p 0) (numbers starts columns values) ≡ going (numbers starts columns values')
    unfolding column_turn column_of quotient_of factored
    column_on values' h ev eu ej p1 p2 l ew =
        rw (numbers_some row values p p1 p2, ← eu, ew, numbers_set row values p (div binary64 v (get_or pivots j nan)) p1 p2 (omega (arith, row.inside)), ← ej, ← ev)
        (check_pass _ _ _ et h refl)

    pub column_out_lem : (values' : List Float) → not t ≡ true → v ≡ reduced_of (numbers starts columns values) i j u → u ≡ get_or values p nan → j ≡ get_or columns p 0
        → a ≤ p → p < b → length values ≡ length columns → values' ≡ set values p (div binary64 v (get_or pivots j nan))
        → column_turn pivots i (get_or columns p 0) (numbers starts columns values) ≡ ended (numbers starts columns values')
    unfolding column_turn column_of quotient_of factored
    column_out_lem values' h ev eu ej p1 p2 l ew =
        rw (numbers_some row values p p1 p2, ← eu, ew, numbers_set row values p (div binary64 v (get_or pivots j nan)) p1 p2 (omega (arith, row.inside)), ← ej, ← ev)
        (check_fail _ _ _ et h refl)

-- what `factor_at` writes, read back
pub written_there : {starts columns : List ℕ} {i a b : ℕ} → Row starts columns i a b → (values values' : List Float) (p : ℕ) (x : Float) → a ≤ p → p < b → length values ≡ length columns
    → values' ≡ set values p x → values' ≡ set values p (get_or values' p nan)
written_there row values values' p x p1 p2 l e = let h : get_or values' p nan ≡ x = rw e (get_or-set_same values p x nan (omega (arith, row.inside))) in rw h e

-- the ways through a turn of `factor_row`
module _ {f : Run Sparse Sparse} (r : Result Unit Unfit) (L : Sparse) (called : f ≡ column_out r L) where
  pub turn_on : {x : Unit} → r ≡ Ok x → f ≡ going L
  turn_on told = called ∙ rw told

  pub turn_out : {u : Unfit} → r ≡ Err u → f ≡ ended L
  turn_out told = called ∙ rw told

-- the ways through `factor_row`
module _ (pivots : List Float) (i : ℕ) (L L' : Sparse) where
  pub reduced_out_lem : factors_run pivots i L ≡ ended L' → reduced_run pivots i L ≡ ended L'
  unfolding reduced_run
  reduced_out_lem e = rw e (on_ended _ _ _ refl)

  pub reduced_end : (x : Float) → factors_run pivots i L ≡ going L' → x ≡ count (less_turn L' i i) (get_or pivots i nan) i → reduced_run pivots i L ≡ going (L', x)
  unfolding reduced_run squares_of reduced_of
  reduced_end x e h = rw (e, h) (on_going _ _ _ refl)

-- the ways through `row_at`
row_reduced : (pivots : List Float) (i : ℕ) (L : Sparse) → row_turn i (L, pivots) ≡ on (reduced_run pivots i L) (λ s. pivot_of pivots i s.0 s.1) (λ M. ended (M, pivots))
unfolding row_turn reduced_run on
row_reduced pivots i L = go (factors_run pivots i L)
  where
    go : (r : Run Sparse Sparse)
        → on r (λ M. pivot_of pivots i M (squares_of M i (get_or pivots i nan))) (λ M. ended (M, pivots))
        ≡ on {S = Sparse × Float} (on r (λ M. going (M, squares_of M i (get_or pivots i nan))) ended) (λ s. pivot_of pivots i s.0 s.1) (λ M. ended (M, pivots))
    go (going M) = refl
    go (ended M) = refl

module _ (pivots : List Float) (i : ℕ) (L L' : Sparse) (r : Result Float Unfit) (called : reduced_run pivots i L ≡ reduced_out r L') where
  pub row_refused : {u : Unfit} → r ≡ Err u → row_turn i (L, pivots) ≡ ended (L', pivots)
  unfolding on
  row_refused told = row_reduced pivots i L ∙ rw (called, told)

  module _ (x : Float) (t : Bool) (told : r ≡ Ok x) (et : t ≡ fit x) where
    pub row_unfit : not t ≡ true → row_turn i (L, pivots) ≡ ended (L', pivots)
    unfolding on pivot_of
    row_unfit h = row_reduced pivots i L ∙ rw (called, told) (check_fail _ _ _ et h refl)

    pub row_on : (y : Float) → not t ≡ false → y ≡ root_value (root_of x) → row_turn i (L, pivots) ≡ going (L', set pivots i y)
    unfolding on pivot_of
    row_on y h ey = row_reduced pivots i L ∙ rw (called, told, ← ey) (check_pass _ _ _ et h refl)

-- the ways through a turn of `factor`
module _ {f : Run Factor Factor} (r : Result Unit Unfit) (L : Sparse) (pivots : List Float) (called : f ≡ factor_out r L pivots) where
  pub rows_on : {x : Unit} → r ≡ Ok x → f ≡ going (L, pivots)
  rows_on told = called ∙ rw told

  pub rows_out : {u : Unfit} → r ≡ Err u → f ≡ ended (L, pivots)
  rows_out told = called ∙ rw told

pub most_clear : (marks : List ℕ) (b : ℕ) → AtMost marks 0 → AtMost marks b
most_clear marks b h = record { most = λ k. omega (arith, h.most k) }
