-- A pivot that passes is above zero: it has a root, refusal 19 is never met there, and the root is above zero too. Assumes nothing.
use Prim.Native.Nat.{ℕ, zero, suc, ◌+◌, ◌*◌, ◌<◌}
use mathlib.Core.Path.{◌≡◌, refl, sym, ap, ◌∙◌, subst}
use mathlib.Core.Bool.{Bool, true, false, not, ◌&&◌, ◌||◌, true≢false, false≢true}
use native.Mathlib.Nat.{mul-pos, zero-mul, zero-lt-suc}
use native.Mathlib.Omega.{arith}
use borrow.Author.Tests.{lt-ltb, not-true, not-false}
use lib.Dec.{T, ltb, eqb, lt→ltb}
use lib.IntN.{ℤ, pos, negsuc}
use lib.Pow.{pow_pos}
use lib.Ieee.{Float, nan, inf, fin, Format, binary64, low, up, down, le, lt, eq, fits, of_bits}
use lib.Ieee.Positive.{positive}
use lib.Ieee.Scale.{finite}
use Rattle.std.specs.Prelude.{Option, Result, Ok, Err, Some, None}
use Rattle.loops.specs.Run.{Run, going, ended}
use Rattle.loops.specs.Cleared.{plus_zero}
use Rattle.loops.proofs.Loop.{on_going, on_ended}
use Rattle.loops.proofs.Inverse.{apart}
use Rattle.loops.proofs.Judge.{test_going, test_ended}
use Rattle.std.specs.Result.{result_ok}
use Rattle.std.proofs.lemmas.Option.{none-some}
use Rattle.inertia.specs.Answers.{accepted_out}
use Rattle.refusals.specs.Told.{told}
use Rattle.refusals.specs.declared.Refusal.{Refusal}
use Rattle.binary64.specs.Units.{units_of}
use Rattle.binary64.specs.SquareRoot.{radicand, unsigned, NearestRoot, square_root}
use Rattle.binary64.specs.Answer.{root_of, RootMeaning}
use Rattle.binary64.proofs.Units.{units_of_lem, units_pos}
use Rattle.inertia.specs.Triangle.{passes_pivot, pivot_run}
use Rattle.inertia.specs.Meaning.{PivotTells}

-- ---- finite and not at most zero: above zero
nought_is : plus_zero ≡ fin false 0 (pos 0)
unfolding of_bits
nought_is = refl

minus_low : (a b : ℕ) → b ≡ 0 → (ltb 0 (a + b) || (eqb a b && (false || eqb a 0))) ≡ true
minus_low zero b e = rw e
minus_low (suc a) b e = rw (lt-ltb 0 (suc a + b) (omega arith))

zero_low : (a b : ℕ) → a ≡ 0 → b ≡ 0 → (ltb a b || (eqb a b && (true || eqb a 0))) ≡ true
zero_low a b e h = rw (e, h)

pub above_positive : (x : Float) → finite x ≡ true → le x plus_zero ≡ false → T (positive x)
unfolding le lt eq
above_positive x t h = go x t (subst (λ (z : Float). le x z ≡ false) nought_is h)
  where
    go : (x : Float) → finite x ≡ true → le x (fin false 0 (pos 0)) ≡ false → T (positive x)
    go nan t h = absurd (false≢true t)
    go (inf s) t h = absurd (false≢true t)
    go (fin true m e) t h = absurd (true≢false (sym (minus_low (m * up e * 1) (0 * 1 * down e) (zero-mul (down e))) ∙ h))
    go (fin false zero e) t h = absurd (true≢false (sym (zero_low (0 * up e * 1) (0 * 1 * down e) (omega arith) (zero-mul (down e))) ∙ h))
    go (fin false (suc m) e) t h = lt→ltb 0 (suc m) (zero-lt-suc m)

-- ---- its root
root_value_lem : (x : Float) → T (positive x) → root_of x ≡ going (square_root binary64 x)
unfolding root_of
root_value_lem nan p = absurd p
root_value_lem (inf s) p = absurd p
root_value_lem (fin true m e) p = absurd p
root_value_lem (fin false zero e) p = absurd p
root_value_lem (fin false (suc m) e) p = refl

zero_units : (f : Format) (e : ℤ) → units_of f (fin false 0 e) ≡ 0
zero_units f e = units_of_lem f false 0 e 0 (omega arith)

-- the smallest number, 2 ^ -1074, is one unit: a root of zero would lie farther off than it
smallest : Float
smallest = fin false 1 (negsuc 1073)

not_nought : (v r z : ℕ) → r ≡ 0 → z ≡ 1 → (r < z → 4 * v < (r + z) * (r + z)) → 0 < v → ⊥
not_nought v r z e h near some = let k : 4 * v < 1 = subst (λ (n : ℕ). 4 * v < n) (squared r z e h) (near (omega arith)) in omega arith
  where
    squared : (r z : ℕ) → r ≡ 0 → z ≡ 1 → (r + z) * (r + z) ≡ 1
    squared r z e h = rw (e, h)

nearest_positive : (x r : Float) → 0 < radicand binary64 x → NearestRoot binary64 x r → T (positive r)
unfolding unsigned smallest fits
nearest_positive x nan h n = n.good
nearest_positive x (inf s) h n = n.good
nearest_positive x (fin true m e) h n = absurd n.good
nearest_positive x (fin false (suc m) e) h n = lt→ltb 0 (suc m) (zero-lt-suc m)
nearest_positive x (fin false zero e) h n =
    let one : units_of binary64 smallest ≡ 1 = units_of_lem binary64 false 1 (negsuc 1073) 1 refl in
    absurd (not_nought (radicand binary64 x) (units_of binary64 (fin false 0 e)) (units_of binary64 smallest) (zero_units binary64 e) one (n.nearer smallest tt tt).over h)

radicand_positive : (x : Float) → T (fits binary64 x) → T (positive x) → 0 < radicand binary64 x
unfolding radicand
radicand_positive nan t p = absurd p
radicand_positive (inf s) t p = absurd p
radicand_positive (fin true m e) t p = absurd p
radicand_positive (fin false zero e) t p = absurd p
radicand_positive (fin false (suc m) e) t p = mul-pos (units_pos binary64 false m e t) (pow_pos (low binary64))

inside : {a b : Float} → ◌≡◌ {A = Run Float ℕ} (going a) (going b) → a ≡ b
inside k = cc

root_positive : (x : Float) {a : Run Float ℕ} {y : Float} → T (fits binary64 x) → T (positive x) → RootMeaning x a → a ≡ going y → T (positive y)
root_positive x t p m v =
    let (z, e) = m.nearest p in
    subst (λ (y : Float). T (positive y)) (inside (sym e.0 ∙ v)) (nearest_positive x z (radicand_positive x t p) e.1)

-- ---- the ways of `pivot`
off : (x : Float) → passes_pivot x ≡ false → pivot_run x ≡ ended 23
unfolding pivot_run
off x h = on_ended _ _ _ ((test_ended (passes_pivot x) 23 23).1 (h, refl))

well : (x : Float) → passes_pivot x ≡ true → pivot_run x ≡ going (square_root binary64 x)
unfolding pivot_run
well x h = on_going _ _ _ ((test_going (passes_pivot x) 23).1 h)

module _ (x : Float) {r : Bool} (e : r ≡ finite x) where
  pub pivot_not_finite : not r ≡ true → pivot_run x ≡ ended 23
  unfolding passes_pivot
  pivot_not_finite h = off x (rw (← e, not-true r h))

  pub pivot_low : not r ≡ false → le x plus_zero ≡ true → pivot_run x ≡ ended 23
  unfolding passes_pivot
  pivot_low h l = off x (rw (← e, not-false r h, l))

  module _ (h : not r ≡ false) (l : le x plus_zero ≡ false) where
    known : root_of x ≡ going (square_root binary64 x)
    known = root_value_lem x (above_positive x (sym e ∙ not-false r h) l)

    -- refusal 19 is never met
    pub pivot_root : (a : Result Float Refusal) {o : Option Float} → told a ≡ root_of x → o ≡ result_ok a → pivot_run x ≡ accepted_out o
    unfolding passes_pivot
    pivot_root (Ok y) q v = well x (rw (← e, not-false r h, l)) ∙ ap going (inside (sym (q ∙ known))) ∙ sym (ap accepted_out v)
    pivot_root (Err n) q v = absurd (apart _ known (sym q))

-- ---- what an accepted pivot tells
held : {b : Bool} → b ≡ true → T b
held e = rw e tt

pub pivot_tells : (x : Float) {r : Bool} (a : Result Float Refusal) {o : Option Float} → T (fits binary64 x) → r ≡ finite x → not r ≡ false → le x plus_zero ≡ false → RootMeaning x (told a) → o ≡ result_ok a → PivotTells x o
pivot_tells x {r = r} a t e h l m v =
    let f = sym e ∙ not-false r h in
    record { accepted = λ p k. (held f, root_positive x t (above_positive x f l) m (ap told (was a (sym v ∙ k)))) }
  where
    was : (a : Result Float Refusal) {p : Float} → result_ok a ≡ Some p → a ≡ Ok p
    was (Ok y) k = let e : y ≡ _ = cc in ap Ok e
    was (Err n) k = absurd (none-some _ k)

pub pivot_none : (x : Float) → PivotTells x None
pivot_none x = record { accepted = λ p k. absurd (none k) }
  where
    none : {p : Float} → None ≡ Some p → ⊥
    none k = let z : ◌≡◌ {A = ℕ} 0 1 = cc in omega arith
