-- The ways of the functions that judge a run. Assumes nothing.
use Prim.Native.Nat.{ℕ, zero, suc, ◌+◌, ◌-◌, ◌*◌, ◌<◌, ◌≤◌}
use mathlib.Core.Path.{◌≡◌, refl, sym, ◌∙◌}
use mathlib.Core.Bool.{Bool, true, false, not, ◌&&◌}
use mathlib.Core.List.{List}
use mathlib.Core.Logic.{◌≢◌}
use native.Mathlib.Omega.{arith}
use lib.Dec.{leb, eqb}
use lib.ListN.{get_or}
use borrow.Author.Tests.{not-true, not-false, eq-eqb, ne_eqb}
use Rattle.loops.specs.Every.{every}
use Rattle.loops.proofs.Inverse.{check_true, check_false}
use Rattle.block_jacobi.specs.Runs.{begins, leading, run_length}
use Rattle.block_jacobi.proofs.RunsOf.{run_within}
use Rattle.first_refusal.specs.Run.{owner_at, pair_at, run_in}

-- `run_length` counts rows - start of them
pub run_is : (words : List ℕ) (start rows : ℕ) {r : ℕ} → r ≡ leading (λ k. eqb (owner_at words (start + k)) (owner_at words start)) (rows - start) → r ≡ run_length (owner_at words) start rows
unfolding run_length
run_is words start rows e = e

pub owner_same : (words : List ℕ) (start k : ℕ) → get_or words (8 * (start + k) + 6) 0 ≡ get_or words (8 * start + 6) 0 → true ≡ eqb (owner_at words (start + k)) (owner_at words start)
owner_same words start k e = sym (eq-eqb _ _ e)

pub owner_other : (words : List ℕ) (start k : ℕ) → get_or words (8 * (start + k) + 6) 0 ≢ get_or words (8 * start + 6) 0 → false ≡ eqb (owner_at words (start + k)) (owner_at words start)
owner_other words start k n = sym (ne_eqb _ _ n)

-- `run_begins`
pub begins_first : (words : List ℕ) {i : ℕ} → i ≡ 0 → true ≡ begins (owner_at words) i
unfolding begins
begins_first words e = rw e

pub begins_later : (words : List ℕ) (i : ℕ) → i ≢ 0 → not (eqb (owner_at words i) (owner_at words (i - 1))) ≡ begins (owner_at words) i
unfolding begins
begins_later words zero n = absurd (n refl)
begins_later words (suc i) n = let e : suc i - 1 ≡ i = omega arith in rw e

-- `run_fits`
module _ (words : List ℕ) (rows i : ℕ) {b : Bool} (e : b ≡ begins (owner_at words) i) where
  pub run_none : not b ≡ true → true ≡ run_in words rows i
  unfolding run_in
  run_none h = sym (check_false _ _ _ (sym e ∙ not-true b h))

  pub run_some_fits : not b ≡ false → {len : ℕ} {p : Bool} → len ≡ run_length (owner_at words) i rows → p ≡ every (pair_at words i) len → (leb len 6 && p) ≡ run_in words rows i
  unfolding run_in
  run_some_fits h {len} l q = rw (q, l) (sym (check_true _ _ _ (sym e ∙ not-false b h)))

-- the rows of the run are there
pub run_inside : (words : List ℕ) (rows i : ℕ) {len : ℕ} → i < rows → len ≡ run_length (owner_at words) i rows → i + len ≤ rows
run_inside words rows i l e = rw e (run_within (owner_at words) i rows (omega arith))
