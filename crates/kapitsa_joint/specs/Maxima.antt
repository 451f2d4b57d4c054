-- The largest number of each dimension, "from +0.0 upward": document 01 of the residuals (pcg.rs, position_pcg_result), document 02, h, of the measured gaps.
use Rattle.std.specs.Prelude.{ℕ, zero, suc, Float}
use Rattle.loops.specs.Cleared.{plus_zero}
use Rattle.binary64.specs.Order.{larger}
use Rattle.kapitsa_joint.specs.declared.tolerance.RowDimension.{RowDimension}
use Rattle.kapitsa_joint.specs.declared.tolerance.RowDimension.TheVariants.{Linear, Angular}
use Rattle.kapitsa_joint.specs.declared.maxima.Maxima.{Maxima}

abbrev pub no_maxima : Maxima
no_maxima = record { linear = plus_zero; angular = plus_zero }

-- with one more row of this dimension
unfoldable pub raised_by : RowDimension → Float → Maxima → Maxima
raised_by Linear size m = record { linear = larger m.linear size; angular = m.angular }
raised_by Angular size m = record { linear = m.linear; angular = larger m.angular size }

-- over the first k rows
unfoldable pub maxima_by : (ℕ → RowDimension) → (ℕ → Float) → ℕ → Maxima
maxima_by dimension size zero = no_maxima
maxima_by dimension size (suc k) = raised_by (dimension k) (size k) (maxima_by dimension size k)

unfoldable pub maximum_of : RowDimension → Maxima → Float
maximum_of Linear m = m.linear
maximum_of Angular m = m.angular
