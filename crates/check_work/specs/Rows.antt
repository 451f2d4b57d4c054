-- The rows that the closing check measures, as they are lent, and what it measures of them.
use Rattle.std.specs.Prelude.{ℕ, ◌<◌, ◌≡◌, List, length, Float}
use Rattle.binary64.specs.Order.{absolute}
use Rattle.kapitsa_math.specs.declared.vector.Vec3.{Vec3}
use Rattle.kapitsa_joint.specs.Impulse.{paired_of, put_paired_of}
use Rattle.kapitsa_joint.specs.Row.{row_of, jacobian_of}
use Rattle.kapitsa_joint.specs.Table.{table_of}
use Rattle.kapitsa_joint.specs.declared.row.RowJacobian.{RowJacobian}
use Rattle.mass_operator.specs.System.{system_of}
use Rattle.mass_operator.specs.Operator.{add_impulse_of}
use Rattle.mass_operator.specs.Flat.{coefficients, product_of}
use Rattle.check_measure.specs.Verdict.{size_of_row, sizes_of}

-- ---- what the operator reads of the lent rows and of the list, and the sizes of it
abbrev pub rows_in : List Float → List ℕ → ℕ → RowJacobian
rows_in numbers words i = jacobian_of (row_of numbers words i)

abbrev pub row_sizes_in : List Float → List ℕ → ℕ → RowJacobian
row_sizes_in numbers words i = size_of_row (rows_in numbers words i)

abbrev pub sizes_in : List Float → ℕ → Float
sizes_in list i = absolute (coefficients list i)

-- every row's bodies are below the body count: what refusal 7 has passed
pub record Valid (rows bodies : ℕ) (numbers : List Float) (words : List ℕ) : Type 0 where
  pub a : (i : ℕ) → i < rows → (row_of numbers words i).words.body_a < bodies
  pub b : (i : ℕ) → i < rows → (row_of numbers words i).words.body_b < bodies

-- ---- one body's impulse with one more term, and those of a row's two bodies
unfoldable pub added_at : List Float → ℕ → Vec3 → Vec3 → Float → List Float
added_at l b linear angular c = put_paired_of l b (add_impulse_of (paired_of l b) linear angular c)

unfoldable pub added_row : List Float → RowJacobian → Float → List Float
added_row l j c = added_at (added_at l j.body_a j.linear_a j.angular_a c) j.body_b j.linear_b j.angular_b c

-- v is every row's value, and w its value on sizes
pub record Measured (bodies : ℕ) (numbers : List Float) (words : List ℕ) (masses multipliers v w : List Float) : Type 0 where
  pub values : v ≡ product_of (system_of (table_of (length multipliers) bodies numbers words masses)) (coefficients multipliers)
  pub sizes : w ≡ product_of (sizes_of (system_of (table_of (length multipliers) bodies numbers words masses))) (λ i. absolute (coefficients multipliers i))
