-- What is judged before step 0, as the code answers it.
use Rattle.std.specs.Prelude.{ℕ, ◌+◌, ◌*◌, ◌≡◌, Bool, true, List, Float, Result, Ok}
use Rattle.kapitsa_joint.specs.Row.{scalars_of, words_of}
use Rattle.joint_refusals.specs.Refusals.{opens_of, velocity_opens_of, passes20}
use Rattle.rules.specs.Rules.{Rules}
use Rattle.rules.specs.Rows.{rows_ruled}
use Rattle.mass_operator.specs.Flat.{coefficients}
use Rattle.kapitsa_joint.specs.Kind.{by_kind}
use Rattle.kapitsa_joint.specs.declared.kind.Kind.{Kind}
use Rattle.refusals.specs.declared.Refusal.{Refusal}

-- 28 has passed where nothing was refused: each row has a tolerance
pub record OpenedRuled (answer : Result Unit Refusal) (rules : Rules) (words : List ℕ) (rows : ℕ) : Type 0 where
  pub ruled : answer ≡ Ok tt → rows_ruled rules words rows ≡ true

-- ---- over the lent lists, by kind

-- row i opens
abbrev pub opens_in : Kind → List Float → List ℕ → ℕ → Bool
opens_in kind numbers words = by_kind kind (λ i. opens_of (scalars_of numbers (27 * i + 15)) (words_of words (8 * i))) (λ i. velocity_opens_of (scalars_of numbers (27 * i + 15)) (words_of words (8 * i)))

-- 20, of velocities alone
abbrev pub given_fits : Kind → List Float → ℕ → Bool
given_fits kind given rows = by_kind kind true (passes20 (coefficients given) rows)
