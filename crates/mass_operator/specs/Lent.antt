-- What the functions of src/ hand to one another about the lent slices.
use Rattle.std.specs.Prelude.{ℕ, ◌*◌, ◌<◌, ◌≡◌, List, length, Float}
use Rattle.kapitsa_joint.specs.Impulse.{impulse_of, paired_of}
use Rattle.kapitsa_joint.specs.declared.row.RowJacobian.{RowJacobian}
use Rattle.kapitsa_joint.specs.declared.impulse.GeneralizedImpulse.{GeneralizedImpulse}
use Rattle.mass_operator.specs.Operator.{impulse_at, row_value_of}

-- the slice l holds the impulses g 0 .. g (bodies - 1), in the order of document 01
pub record Impulses (g : ℕ → GeneralizedImpulse) (bodies : ℕ) (l : List Float) : Type 0 where
  pub long : length l ≡ 6 * bodies
  pub at : (b : ℕ) → b < bodies → impulse_of l b ≡ g b

-- the same in the order of work memory
pub record Paired (g : ℕ → GeneralizedImpulse) (bodies : ℕ) (l : List Float) : Type 0 where
  pub long : length l ≡ 6 * bodies
  pub at : (b : ℕ) → b < bodies → paired_of l b ≡ g b

-- the slice l of work memory holds the impulses of the rows 0 .. i - 1
pub record Summing (j : ℕ → RowJacobian) (x : ℕ → Float) (bodies i : ℕ) (l : List Float) : Type 0 where
  pub long : length l ≡ 6 * bodies
  pub at : (b : ℕ) → b < bodies → paired_of l b ≡ impulse_at j x b i

-- a row's value by the responses that a slice of work memory holds
unfoldable pub value_in : RowJacobian → List Float → Float
value_in j l = row_value_of j (paired_of l j.body_a) (paired_of l j.body_b)
