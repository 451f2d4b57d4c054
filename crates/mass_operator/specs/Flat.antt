-- The numbers of the operator as the lent slices hold them: six doubles a body, one a row.
use Rattle.std.specs.Prelude.{ℕ, zero, suc, ◌≡◌, List, [], ◌∷◌, ◌++◌, get_or, Result, Float}
use Rattle.std.specs.Float.{nan}
use Rattle.loops.specs.Judge.{test}
use Rattle.loops.specs.Tabulate.{tabulate}
use Rattle.kapitsa_joint.specs.declared.row.RowJacobian.{RowJacobian}
use Rattle.kapitsa_joint.specs.declared.impulse.GeneralizedImpulse.{GeneralizedImpulse}
use Rattle.mass_operator.specs.Applied.{all_finite_of, applied_of, applied_out}
use Rattle.mass_operator.specs.declared.finite.NotFinite.{NotFinite}
use Rattle.mass_operator.specs.Dot.{dot_product_of}
use Rattle.mass_operator.specs.System.{System}
use Rattle.mass_operator.specs.Operator.{impulse_at, response_at, value_at}
use Rattle.mass_operator.specs.Lent.{Paired, Summing}

-- a lent list as a function of the row
abbrev pub coefficients : List Float → ℕ → Float
coefficients l i = get_or l i nan

-- as document 01 delivers them: of each body linear x, y, z, then angular x, y, z
unfoldable pub flat_impulses : (ℕ → GeneralizedImpulse) → ℕ → List Float
flat_impulses g zero = []
flat_impulses g (suc b) = flat_impulses g b ++ ((g b).linear.x ∷ (g b).linear.y ∷ (g b).linear.z ∷ (g b).angular.x ∷ (g b).angular.y ∷ (g b).angular.z ∷ [])

unfoldable pub impulses_of : (ℕ → RowJacobian) → (ℕ → Float) → ℕ → ℕ → List Float
impulses_of j x rows bodies = flat_impulses (λ b. impulse_at j x b rows) bodies

unfoldable pub product_of : System → (ℕ → Float) → List Float
product_of s x = tabulate (value_at s x) s.rows

-- document 01, refusal 17, "A final impulse ... is not finite": the number is the caller's. The impulses stand in work memory, in its order.
pub record Summed (j : ℕ → RowJacobian) (x : ℕ → Float) (rows bodies : ℕ) (answer : Result Unit NotFinite) (impulses : List Float) : Type 0 where
  pub summed : Summing j x bodies rows impulses
  pub answered : answer ≡ applied_of (impulses_of j x rows bodies)
  pub told : (number : ℕ) → test (all_finite_of (impulses_of j x rows bodies)) number ≡ applied_out number answer

-- The answer is vector · product: "alpha = s / (direction · product)". Document 01, refusal 16, "A number in the recurrence is not finite": of the operator's numbers,
-- testing the product tests all (proofs/Overflow.antt), and testing the answer tests the product (proofs/Dots.antt).
-- The responses stand where the impulses stood.
pub record Multiplied (s : System) (vector : List Float) (answer : Float) (responses product : List Float) : Type 0 where
  pub responded : Paired (response_at s (coefficients vector)) s.bodies responses
  pub multiplied : product ≡ product_of s (coefficients vector)
  pub answered : answer ≡ dot_product_of vector (product_of s (coefficients vector))
