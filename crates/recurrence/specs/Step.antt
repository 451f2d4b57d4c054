-- Document 01, "What a step is"; Hestenes and Stiefel 1952, section 3, with a preconditioner. Rounding and order are those of pcg.rs, solve_position_pcg_prepared.
-- A part that is refused ends with document 01's number.
use Rattle.std.specs.Prelude.{ℕ, not, ◌&&◌, List, Float}
use Rattle.std.specs.Float.{binary64}
use Rattle.std.specs.Float.Ieee.{div, le}
use Rattle.std.specs.Float.Ieee.Scale.{finite}
use Rattle.loops.specs.Run.{Run, going, next}
use Rattle.loops.specs.Judge.{test}
use Rattle.binary64.specs.Order.{min_positive}
use Rattle.mass_operator.specs.System.{System}
use Rattle.mass_operator.specs.Flat.{coefficients, product_of}
use Rattle.mass_operator.specs.Applied.{all_finite_of}
use Rattle.recurrence.specs.Vectors.{dot_product_of, plus_scaled, less_scaled}

-- "the state is solution (0 at first), residual": what a step delivers
pub record Iterate : Type 0 where
  pub solution : List Float
  pub residual : List Float

-- "direction (z at first) and s = residual · z": what is carried to the next step
pub record Carried : Type 0 where
  pub direction : List Float
  pub s : Float

-- "alpha = s / (direction · product)"; a of Hestenes and Stiefel (3:1b): "15. Direction times product is at most MIN", and 16
unfoldable pub alpha_of : Float → Float → Run Float ℕ
alpha_of s d = next (test (finite d) 16) (λ _. next (test (not (le d min_positive)) 15) (λ _. next (test (finite (div binary64 s d)) 16) (λ _. going (div binary64 s d))))

-- "solution gains alpha × direction and residual loses alpha × product" (3:1c, 3:1d): 16
unfoldable pub updated_of : Iterate → List Float → List Float → Float → Run Iterate ℕ
updated_of v direction product alpha =
    let x = plus_scaled v.solution alpha direction in
    let r = less_scaled v.residual alpha product in
    next (test (all_finite_of x && all_finite_of r) 16) (λ _. going (record { solution = x; residual = r }))

-- "Product is the operator on direction": 16. A step's solution and residual
unfoldable pub advance_of : System → Iterate → Carried → Run Iterate ℕ
advance_of s v c =
    let product = product_of s (coefficients c.direction) in
    next (test (all_finite_of product) 16) (λ _. next (alpha_of c.s (dot_product_of c.direction product)) (updated_of v c.direction product))

-- "14. Residual times preconditioned residual is at most MIN", and 16
unfoldable pub product_fit : Float → Run Float ℕ
product_fit s = next (test (finite s) 16) (λ _. next (test (not (le s min_positive)) 14) (λ _. going s))

-- "direction (z at first)": z is the preconditioned residual, or refused
unfoldable pub first_from : Run (List Float) ℕ → List Float → Run Carried ℕ
first_from z residual = next z (λ z. next (product_fit (dot_product_of residual z)) (λ s. going (record { direction = z; s = s })))

-- "new s / old s" (3:1e): 16
unfoldable pub beta_of : Float → Float → Run Float ℕ
beta_of new old = next (test (finite (div binary64 new old)) 16) (λ _. going (div binary64 new old))

-- "direction becomes z + (new s / old s) × direction" (3:1f): 16
unfoldable pub turned_of : List Float → List Float → Float → Float → Run Carried ℕ
turned_of z direction s beta = let d = plus_scaled z beta direction in next (test (all_finite_of d) 16) (λ _. going (record { direction = d; s = s }))

-- "Where it is missed, z and s are made anew, and direction becomes z + (new s / old s) × direction"
unfoldable pub renew_from : Run (List Float) ℕ → List Float → Carried → Run Carried ℕ
renew_from z residual c =
    next z (λ z. next (product_fit (dot_product_of residual z)) (λ s. next (beta_of s c.s) (turned_of z c.direction s)))
