-- Mode 0's pass over the rows makes what the definitions make one after the other: the step's solution and residual, its z, and s. Assumes nothing.
use Prim.Native.Nat.{ℕ, zero, suc, ◌+◌, ◌*◌, ◌<◌, ◌≤◌}
use mathlib.Core.Path.{◌≡◌, refl, sym, subst, ap, ◌∙◌}
use mathlib.Core.Bool.{Bool, true, false}
use mathlib.Core.List.{List}
use native.Mathlib.Numerals.{add-one}
use native.Mathlib.Omega.{arith}
use lib.ListN.{length, get_or}
use lib.Ieee.{Float, nan, binary64, sub, mul, div}
use Rattle.loops.specs.Run.{Run, going, ended, on, next, check}
use Rattle.loops.specs.Judge.{test}
use Rattle.loops.specs.Cleared.{plus_zero}
use Rattle.loops.specs.Tabulate.{tabulate}
use Rattle.loops.proofs.Loop.{on_going, on_ended}
use Rattle.loops.proofs.Inverse.{apart, going_inj, ended_inj}
use Rattle.loops.proofs.Tabulate.{length_tabulate, get_d_tabulate, tabulate_same}
use Rattle.sparse.specs.Count.{count}
use Rattle.preconditioner.specs.Apply.{diagonal_solve_of}
use Rattle.preconditioner.proofs.InPlace.{Changes, changes_none, changes_more, changes_end}
use Rattle.recurrence.specs.Vectors.{dot_to, dot_product_of, plus_scaled, less_scaled}
use Rattle.recurrence.specs.Step.{Iterate}
use Rattle.recurrence.specs.Parts.{moved_of, with_diagonal}
use Rattle.recurrence.specs.Pass.{Pass, row_of}
use Rattle.recurrence.specs.Answers.{diagonal_out}
use Rattle.refusals.specs.Told.{told}
use Rattle.refusals.specs.declared.Refusal.{Refusal}
use Rattle.std.specs.Prelude.{Result, Ok, Err}
use Rattle.recurrence.proofs.Tested.{Tested, tested_none, tested_more, tested_end}
use Rattle.recurrence.proofs.Sums.{gains, loses, gained, lost}
use Rattle.recurrence.proofs.Turns.{advance_bad, advance_is}

-- ---- the loop: of n rows i are passed
pub record Passing (a : Float) (y d : List Float) (first : Pass) (n i : ℕ) (p : Pass) : Type 0 where
  pub within : i ≤ n
  pub led : count (row_of a y d) first i ≡ p

module _ {a : Float} {y d : List Float} {first : Pass} {n : ℕ} where
  pub passing_none : Passing a y d first n 0 first
  unfolding count
  passing_none = record { within = omega arith; led = refl }

  pub passing_one : {i : ℕ} {p q : Pass} → Passing a y d first n i p → i < n → row_of a y d i p ≡ q → Passing a y d first n (i + 1) q
  unfolding count
  passing_one {i} h l e = record { within = omega arith; led = rw (add-one, h.led) e }

  pub passing_pair : (k : ℕ) {p q : Pass} → Passing a y d first n (2 * k) p → 2 * k + 1 < n → row_of a y d (2 * k + 1) (row_of a y d (2 * k) p) ≡ q → Passing a y d first n (2 * (k + 1)) q
  passing_pair k {p} {q} h l e =
      let two : (2 * k + 1) + 1 ≡ 2 * (k + 1) = omega arith in
      subst (λ (i : ℕ). Passing a y d first n i q) two (passing_one (passing_one h (omega arith) refl) l e)

  -- the last of an odd number of rows
  pub passing_last : {i j : ℕ} {p q : Pass} → Passing a y d first n i p → i ≡ j × j < n → row_of a y d j p ≡ q → Passing a y d first n (j + 1) q
  passing_last {i} {j} {p} h l e = passing_one (subst (λ (k : ℕ). Passing a y d first n k p) l.0 h) l.1 e

-- ---- what it leaves: a step of length a along y, from solution x₀ and residual r₀ with product p₀, by the diagonal d
-- what a turn makes of the product that stands at k: z
abbrev divided : Float → List Float → List Float → ℕ → Float → Float
divided a r d k v = div binary64 (sub binary64 (get_or r k nan) (mul binary64 a v)) (get_or d k nan)

module _ (a : Float) (y d x₀ r₀ p₀ : List Float) (er : length r₀ ≡ length x₀) (ep : length p₀ ≡ length x₀) where
  abbrev residual : List Float
  residual = less_scaled r₀ a p₀

  abbrev z : List Float
  z = diagonal_solve_of residual d

  residual_long : length residual ≡ length x₀
  unfolding less_scaled
  residual_long = length_tabulate _ (length r₀) ∙ er

  residual_at : (k : ℕ) → k < length x₀ → get_or residual k nan ≡ sub binary64 (get_or r₀ k nan) (mul binary64 a (get_or p₀ k nan))
  unfolding less_scaled
  residual_at k h = get_d_tabulate _ (length r₀) k nan (omega arith)

  z_at : (k : ℕ) → k < length x₀ → get_or z k nan ≡ divided a r₀ d k (get_or p₀ k nan)
  unfolding diagonal_solve_of
  z_at k h = get_d_tabulate _ (length residual) k nan (omega (arith, residual_long)) ∙ ap (λ (v : Float). div binary64 v (get_or d k nan)) (residual_at k h)

  -- of each list and of the sum i rows are made
  record Made (i : ℕ) (p : Pass) : Type 0 where
    solution_made : Tested (gains a y) x₀ i p.solution p.all
    residual_made : Changes nan (loses a p₀) r₀ i p.residual
    z_made : Changes nan (divided a r₀ d) p₀ i p.product
    summed : p.sum ≡ dot_to residual z i

  abbrev first : Pass
  first = record { solution = x₀; residual = r₀; product = p₀; all = true; sum = plus_zero }

  made_none : Made 0 first
  unfolding dot_to
  made_none = record { solution_made = tested_none; residual_made = changes_none; z_made = changes_none; summed = refl }

  made_more : (i : ℕ) (p : Pass) → Made i p → i < length x₀ → Made (i + 1) (row_of a y d i p)
  unfolding row_of dot_to
  made_more i p m h =
      let at-r : get_or p.residual i nan ≡ get_or r₀ i nan = m.residual_made.rest i (omega arith) in
      let at_p : get_or p.product i nan ≡ get_or p₀ i nan = m.z_made.rest i (omega arith) in
      record {
        solution_made = tested_more m.solution_made h refl refl;
        residual_made = changes_more m.residual_made (omega arith) (rw at_p);
        z_made = changes_more m.z_made (omega arith) (rw at-r);
        summed = rw (add-one, residual_at i h, z_at i h, m.summed, at-r, at_p);
      }

  made_to : (k : ℕ) → k ≤ length x₀ → Made k (count (row_of a y d) first k)
  unfolding count
  made_to zero h = made_none
  made_to (suc k) h = rw add-one at (made_more k (count (row_of a y d) first k) (made_to k (omega arith)) (omega arith))

  -- once all rows are passed
  module _ (p : Pass) (m : Made (length x₀) p) where
    made_r : p.residual ≡ residual
    made_r = lost r₀ p₀ p.residual a (length x₀) m.residual_made (omega arith)

    made_z : p.product ≡ diagonal_solve_of p.residual d
    unfolding diagonal_solve_of
    made_z =
        changes_end m.z_made (omega arith)
        ∙ tabulate_same _ (λ k. div binary64 (get_or residual k nan) (get_or d k nan)) (length p₀) (λ k q. ap (λ (v : Float). div binary64 v (get_or d k nan)) (sym (residual_at k (omega arith))))
        ∙ ap (tabulate (λ k. div binary64 (get_or residual k nan) (get_or d k nan))) (ep ∙ sym residual_long)
        ∙ ap (λ (l : List Float). diagonal_solve_of l d) (sym made_r)

    made_s : p.sum ≡ dot_product_of p.residual (diagonal_solve_of p.residual d)
    unfolding dot_product_of
    made_s = m.summed ∙ ap (dot_to residual z) (sym residual_long) ∙ ap (λ (l : List Float). dot_product_of l (diagonal_solve_of l d)) (sym made_r)

    abbrev step : Run (Iterate × List Float × Float) ℕ
    step = next (moved_of record { solution = x₀; residual = r₀ } y p₀ a) (with_diagonal d)

    solved : p.solution ≡ plus_scaled x₀ a y
    solved = gained x₀ y p.solution a (length x₀) p.all m.solution_made (omega arith)

    passed_bad : p.all ≡ false → step ≡ ended 16
    passed_bad t = on_ended _ _ _ (advance_bad x₀ r₀ y p₀ a p.solution p.all solved (tested_end m.solution_made (omega arith)) (rw t))

    passed_is : p.all ≡ true → step ≡ going (record { solution = p.solution; residual = p.residual }, p.product, p.sum)
    passed_is t = on_going _ _ _ (advance_is x₀ r₀ y p₀ a p.solution p.all solved (tested_end m.solution_made (omega arith)) p.residual made_r (rw t)) ∙ rw (made_s, made_z)

    passed_told : (q : Result Float Refusal) → next (test p.all 16) (λ _. going p.sum) ≡ told q → step ≡ diagonal_out q p.solution p.residual p.product
    unfolding test check on
    passed_told q h = by p.all refl q h
      where
        by : (b : Bool) → p.all ≡ b → (q : Result Float Refusal) → next (test b 16) (λ _. going p.sum) ≡ told q → step ≡ diagonal_out q p.solution p.residual p.product
        by true e (Ok s) g = passed_is e ∙ ap (λ (v : Float). going (record { solution = p.solution; residual = p.residual }, p.product, v)) (going_inj g)
        by true e (Err n) g = absurd (apart _ refl g)
        by false e (Ok s) g = absurd (apart _ g refl)
        by false e (Err n) g = passed_bad e ∙ ap ended (ended_inj g)

  pub one_pass : (i : ℕ) (p : Pass) (q : Result Float Refusal) → Passing a y d first (length x₀) i p → length x₀ ≤ i → next (test p.all 16) (λ _. going p.sum) ≡ told q
      → next (moved_of record { solution = x₀; residual = r₀ } y p₀ a) (with_diagonal d) ≡ diagonal_out q p.solution p.residual p.product
  one_pass i p q l h g =
      let e : i ≡ length x₀ = omega (arith, l.within) in
      let all : count (row_of a y d) first (length x₀) ≡ p = rw e at l.led in
      passed_told p (rw all at (made_to (length x₀) (omega arith))) q g
