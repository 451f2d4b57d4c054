-- Steps by another z and other tolerances are the same where both agree: z on residuals of n rows, tolerances below n. Assumes nothing.
use Prim.Native.Nat.{ℕ, zero, suc, ◌+◌, ◌<◌}
use mathlib.Core.Path.{◌≡◌, refl, sym, ap, ◌∙◌}
use mathlib.Core.Bool.{Bool, true, false}
use mathlib.Core.List.{List}
use native.Mathlib.Omega.{arith}
use lib.ListN.{length, get_or}
use lib.Ieee.{Float, nan, le}
use Rattle.loops.specs.Run.{Run, going, ended, on, next, check, turns}
use Rattle.loops.specs.Judge.{test}
use Rattle.loops.proofs.Inverse.{next_going}
use Rattle.loops.proofs.Every.{every_same}
use Rattle.loops.proofs.Tabulate.{length_tabulate}
use Rattle.loops.proofs.Turned.{turned, unlike}
use Rattle.binary64.specs.Order.{absolute}
use Rattle.mass_operator.specs.System.{System}
use Rattle.mass_operator.specs.Flat.{coefficients, product_of}
use Rattle.recurrence.specs.Vectors.{dot_product_of, less_scaled}
use Rattle.recurrence.specs.Step.{Iterate, Carried, alpha_of, updated_of, advance_of, renew_from}
use Rattle.position.specs.Residual.{meets_of}
use Rattle.steps.specs.Solve.{turn}
use Rattle.solve_method.specs.Method.{steps_by}

-- ---- a step's residual is as long as the one before it
updated_long : (v w : Iterate) (direction product : List Float) (alpha : Float) → updated_of v direction product alpha ≡ going w → length w.residual ≡ length v.residual
unfolding updated_of less_scaled
updated_long v w direction product alpha e =
    let (_, _, q) = (next_going (test _ 16) _ w).0 e in
    let z : less_scaled v.residual alpha product ≡ w.residual = cc in
    ap length (sym z) ∙ length_tabulate _ (length v.residual)

pub advance_long : (s : System) (v w : Iterate) (c : Carried) → advance_of s v c ≡ going w → length w.residual ≡ length v.residual
unfolding advance_of
advance_long s v w c e =
    let (_, _, q) = (next_going (test _ 16) _ w).0 e in
    let (alpha, _, u) = (next_going (alpha_of c.s (dot_product_of c.direction (product_of s (coefficients c.direction)))) _ w).0 q in
    updated_long v w c.direction (product_of s (coefficients c.direction)) alpha u

abbrev Turn : Type 0
Turn = Run (Iterate × Carried) (Run (ℕ × Iterate) ℕ)

module _ (s : System) (z z' : List Float → Run (List Float) ℕ) (f g : ℕ → Float) (agree : (r : List Float) → length r ≡ s.rows → z r ≡ z' r) (same : (i : ℕ) → i < s.rows → f i ≡ g i) where
  pub meets_same : (r : List Float) → meets_of f r s.rows ≡ meets_of g r s.rows
  unfolding meets_of
  meets_same r = every_same (λ i. le (absolute (get_or r i nan)) (f i)) (λ i. le (absolute (get_or r i nan)) (g i)) s.rows (λ i h. rw (same i h))

  same_turn : (k : ℕ) (t : Iterate × Carried) → length t.0.residual ≡ s.rows → turn (steps_by z (advance_of s) s.rows f) k t ≡ turn (steps_by z' (advance_of s) s.rows g) k t
  unfolding turn on
  same_turn k t long = by (advance_of s t.0 t.1) refl
    where
      on_step : (v : Iterate) → length v.residual ≡ s.rows
          → check (meets_of f v.residual s.rows) (ended (going (k + 1, v))) (on {R = Turn} (renew_from (z v.residual) v.residual t.1) (λ c. going (v, c)) (λ n. ended (ended n)))
          ≡ check (meets_of g v.residual s.rows) (ended (going (k + 1, v))) (on {R = Turn} (renew_from (z' v.residual) v.residual t.1) (λ c. going (v, c)) (λ n. ended (ended n)))
      on_step v l = rw (meets_same v.residual, agree v.residual l)

      by : (r : Run Iterate ℕ) → advance_of s t.0 t.1 ≡ r
          → on {R = Turn} r (λ v. check (meets_of f v.residual s.rows) (ended (going (k + 1, v))) (on (renew_from (z v.residual) v.residual t.1) (λ c. going (v, c)) (λ n. ended (ended n)))) (λ n. ended (ended n))
          ≡ on r (λ v. check (meets_of g v.residual s.rows) (ended (going (k + 1, v))) (on (renew_from (z' v.residual) v.residual t.1) (λ c. going (v, c)) (λ n. ended (ended n)))) (λ n. ended (ended n))
      by (going v) e = on_step v (advance_long s t.0 v t.1 e ∙ long)
      by (ended n) e = refl

  long_turn : (k : ℕ) (t u : Iterate × Carried) → length t.0.residual ≡ s.rows → turn (steps_by z' (advance_of s) s.rows g) k t ≡ going u → length u.0.residual ≡ s.rows
  unfolding turn on check
  long_turn k t u long = by (advance_of s t.0 t.1) refl
    where
      renewed : (v : Iterate) (r : Run Carried ℕ) → length v.residual ≡ s.rows → on {R = Turn} r (λ c. going (v, c)) (λ n. ended (ended n)) ≡ going u → length u.0.residual ≡ s.rows
      renewed v (going c) l e = let q : v ≡ u.0 = cc in rw (← q) l
      renewed v (ended n) l e = unlike (ended n) u e

      tested : (v : Iterate) (b : Bool) (r : Run Carried ℕ) → length v.residual ≡ s.rows → check b (ended (going (k + 1, v))) (on {R = Turn} r (λ c. going (v, c)) (λ n. ended (ended n))) ≡ going u → length u.0.residual ≡ s.rows
      tested v true r l e = unlike (going (k + 1, v)) u e
      tested v false r l e = renewed v r l e

      by : (r : Run Iterate ℕ) → advance_of s t.0 t.1 ≡ r
          → on {R = Turn} r (λ v. check (meets_of g v.residual s.rows) (ended (going (k + 1, v))) (on (renew_from (z' v.residual) v.residual t.1) (λ c. going (v, c)) (λ n. ended (ended n)))) (λ n. ended (ended n)) ≡ going u
          → length u.0.residual ≡ s.rows
      by (going v) e q = tested v (meets_of g v.residual s.rows) (renew_from (z' v.residual) v.residual t.1) (advance_long s t.0 v t.1 e ∙ long) q
      by (ended n) e q = unlike (ended n) u q

  pub same_turns : (v : Iterate) (c : Carried) → length v.residual ≡ s.rows → (k : ℕ) → turns (turn (steps_by z (advance_of s) s.rows f)) (v, c) k ≡ turns (turn (steps_by z' (advance_of s) s.rows g)) (v, c) k
  unfolding turns on
  same_turns v c long zero = refl
  same_turns v c long (suc k) = ap (λ (r : Turn). next r (turn (steps_by z (advance_of s) s.rows f) k)) (same_turns v c long k) ∙ by (turns (turn (steps_by z' (advance_of s) s.rows g)) (v, c) k) refl
    where
      by : (r : Turn) → turns (turn (steps_by z' (advance_of s) s.rows g)) (v, c) k ≡ r → next r (turn (steps_by z (advance_of s) s.rows f) k) ≡ next r (turn (steps_by z' (advance_of s) s.rows g) k)
      by (going t) e = same_turn k t (turned (turn (steps_by z' (advance_of s) s.rows g)) (v, c) k (λ _ u. length u.0.residual ≡ s.rows) long (λ i t u _ l q. long_turn i t u l q) k (omega arith) t e)
      by (ended a) e = refl
