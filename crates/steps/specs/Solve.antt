-- What the code computes: document 01, "Flag, count and residuals", in the order of pcg.rs.
use Rattle.std.specs.Prelude.{ℕ, ◌+◌, Bool, true, false}
use Rattle.loops.specs.Run.{Run, going, ended, on, next, check, turns}
use Rattle.steps.specs.Method.{Recurrence, Method}

-- A turn of the loop. "Convergence is tested after each update": the loop ends where the step made meets, with its count, and where a part is refused.
-- A step that misses is renewed, the last one too: "a last step that misses tolerance can still meet 14 or 16".
unfoldable pub turn : {S C : Type 0} → Recurrence S C → ℕ → S × C → Run (S × C) (Run (ℕ × S) ℕ)
turn m k t =
    on (m.advance t.0 t.1)
    (λ v. check (m.meets v) (ended (going (k + 1, v))) (on (m.renew v t.1) (λ c. going (v, c)) (λ n. ended (ended n))))
    (λ n. ended (ended n))

-- Flag, count and step after the loop: "the limit ends the loop with the flag 0".
abbrev pub after_loop : {S C : Type 0} → ℕ → Run (S × C) (Run (ℕ × S) ℕ) → Run (Bool × ℕ × S) ℕ
after_loop limit r = on r (λ t. going (false, limit, t.0)) (λ e. next e (λ w. going (true, w.0, w.1)))

module _ {S C F : Type 0} (m : Method S C F) where
  -- flag, count and the step counted. "If every |residual| ≤ its row's tolerance: accepted with count 0, before any factor is built. Then the recurrence".
  unfoldable pub counting : ℕ → Run (Bool × ℕ × S) ℕ
  counting limit =
      next m.begin
      (λ v. check (m.steps.meets v) (going (true, 0, v)) (next (m.first v) (λ c. after_loop limit (turns (turn m.steps) (v, c) limit))))

  -- with what is delivered of the step counted, flag 0 or 1: "the impulses still delivered"
  abbrev pub deliver : Bool × ℕ × S → Run ((Bool × ℕ × S) × F) ℕ
  deliver a = next (m.finish a.1 a.2) (λ f. going (a, f))

  -- the answer at a limit: flag, count, step and delivery, or the number of a refusal
  unfoldable pub solve : ℕ → Run ((Bool × ℕ × S) × F) ℕ
  solve limit = next (m.opening limit) (λ _. next (counting limit) deliver)
