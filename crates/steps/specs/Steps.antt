-- The steps of document 01: "Every step's residual is worked from what the solve is given, the limit left unread, and from nothing in its answer".
use Rattle.std.specs.Prelude.{ℕ, zero, suc, ◌<◌, ◌≡◌, Bool, true, false, not}
use Rattle.loops.specs.Run.{Run, going, on, next}
use Rattle.steps.specs.Method.{Method}

module _ {S C F : Type 0} (m : Method S C F) where
  -- step k with z, s and direction made anew from it: all that step k + 1 is worked from
  unfoldable pub ready : ℕ → Run (S × C) ℕ
  ready zero = next m.begin (λ v. next (m.first v) (λ c. going (v, c)))
  ready (suc k) = next (ready k) (λ t. next (m.steps.advance t.0 t.1) (λ v. next (m.steps.renew v t.1) (λ c. going (v, c))))

  -- step k's solution and residual; "a refusal on the way leaves no later step"
  unfoldable pub step_at : ℕ → Run S ℕ
  step_at zero = m.begin
  step_at (suc k) = next (ready k) (λ t. m.steps.advance t.0 t.1)

  -- there is a step k, and its residual meets every row's tolerance
  unfoldable pub meets_at : ℕ → Bool
  meets_at k = on (step_at k) m.steps.meets (λ _. false)

  -- there is a step k, and its residual misses
  unfoldable pub misses_at : ℕ → Bool
  misses_at k = on (step_at k) (λ v. not (m.steps.meets v)) (λ _. false)

  -- there are steps 0 .. k - 1, and each of them misses
  abbrev pub AllMiss : ℕ → Type 0
  AllMiss k = (j : ℕ) → j < k → misses_at j ≡ true
