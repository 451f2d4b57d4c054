-- Systems that agree on their rows and masses have the same impulses, responses and values. Assumes nothing.
use Prim.Native.Nat.{ℕ, zero, suc, ◌<◌}
use mathlib.Core.Path.{◌≡◌, refl, ap, ◌∙◌}
use native.Mathlib.Omega.{arith}
use lib.Ieee.{Float}
use Rattle.kapitsa_joint.specs.declared.row.RowJacobian.{RowJacobian}
use Rattle.mass_operator.specs.System.{System}
use Rattle.mass_operator.specs.Operator.{add_row_of, impulse_at, response_at, value_at}

pub impulse_same : (j h : ℕ → RowJacobian) (x y : ℕ → Float) (b n : ℕ) → ((i : ℕ) → i < n → j i ≡ h i) → ((i : ℕ) → i < n → x i ≡ y i) → impulse_at j x b n ≡ impulse_at h y b n
unfolding impulse_at
impulse_same j h x y b zero p q = refl
impulse_same j h x y b (suc n) p q = ap (λ (k : RowJacobian). add_row_of k (x n) b (impulse_at j x b n)) (p n (omega arith)) ∙ ap (λ (c : Float). add_row_of (h n) c b (impulse_at j x b n)) (q n (omega arith))
    ∙ ap (add_row_of (h n) (y n) b) (impulse_same j h x y b n (λ i t. p i (omega arith)) (λ i t. q i (omega arith)))

-- two systems and two lists of coefficients that agree
pub record Agree (s r : System) (x y : ℕ → Float) : Type 0 where
  pub rows : s.rows ≡ r.rows
  pub jacobian : (i : ℕ) → i < r.rows → s.jacobian i ≡ r.jacobian i
  pub mass : (b : ℕ) → s.mass b ≡ r.mass b
  pub coefficient : (i : ℕ) → i < r.rows → x i ≡ y i

module _ (s r : System) (x y : ℕ → Float) (a : Agree s r x y) where
  response_same : (b : ℕ) → response_at s x b ≡ response_at r y b
  unfolding response_at
  response_same b = rw (a.rows, a.mass b, impulse_same s.jacobian r.jacobian x y b r.rows a.jacobian a.coefficient)

  pub value_same : (i : ℕ) → i < r.rows → value_at s x i ≡ value_at r y i
  unfolding value_at
  value_same i h = rw (a.jacobian i h, response_same (r.jacobian i).body_a, response_same (r.jacobian i).body_b)
