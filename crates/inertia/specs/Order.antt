-- Document 02 c: "Errors: 21 …; 22 …; 23 …; judged in this order", and 12 "after all others": where `inverse_spd` gives each number, and that it gives no other.
use Rattle.std.specs.Prelude.{ℕ, ◌≡◌, true, false, ◌⊎◌, ◌↔◌}
use Rattle.loops.specs.Run.{going, ended, Goes}
use Rattle.kapitsa_math.specs.Matrix.{finite_columns_of}
use Rattle.kapitsa_math.specs.declared.matrix.Mat3.{Mat3}
use Rattle.inertia.specs.Divided.{scale_of, divided_of, symmetric_of}
use Rattle.inertia.specs.Triangle.{triangle_run}
use Rattle.inertia.specs.Factor.{has_scale, factor_run}
use Rattle.inertia.specs.Inverse.{inverse_run}

-- a number of the nine is not finite
unfoldable pub Met21 : Mat3 → Type 0
Met21 m = finite_columns_of m ≡ false

-- all are, and the divided ones are not symmetric
unfoldable pub Met22 : Mat3 → Type 0
Met22 m = (finite_columns_of m ≡ true) × (symmetric_of (divided_of m (scale_of m)) ≡ false)

-- all are, these are symmetric, and there is no scale or a pivot is refused
unfoldable pub Met23 : Mat3 → Type 0
Met23 m =
    (finite_columns_of m ≡ true) × (symmetric_of (divided_of m (scale_of m)) ≡ true)
    × ((has_scale (scale_of m) ≡ false) ⊎ ((has_scale (scale_of m) ≡ true) × (triangle_run (divided_of m (scale_of m)) (scale_of m) ≡ ended 23)))

-- there is a factor, and a column by it is out of range
unfoldable pub Met12 : Mat3 → Type 0
Met12 m = Goes (factor_run m) × ((i : Mat3) → inverse_run m ≡ going i → ⊥)

pub record InPlace (m : Mat3) : Type 0 where
  pub at_21 : (inverse_run m ≡ ended 21) ↔ Met21 m
  pub at_22 : (inverse_run m ≡ ended 22) ↔ Met22 m
  pub at_23 : (inverse_run m ≡ ended 23) ↔ Met23 m
  pub at_12 : (inverse_run m ≡ ended 12) ↔ Met12 m
  pub no_other : (n : ℕ) → inverse_run m ≡ ended n → (n ≡ 21) ⊎ (n ≡ 22) ⊎ (n ≡ 23) ⊎ (n ≡ 12)
