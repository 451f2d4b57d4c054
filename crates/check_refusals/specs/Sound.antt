-- What 4, 7 and 18 ask of a row, asked at once. Each number is tested once: one that 18 lets pass is finite, so 7 is not asked of the twelve Jacobian numbers, nor 6 of the masses.
use Rattle.std.specs.Prelude.{ℕ, Bool, ◌&&◌, Float}
use Rattle.kapitsa_math.specs.Vector.{is_finite_of}
use Rattle.kapitsa_joint.specs.Row.{jacobian_of}
use Rattle.kapitsa_joint.specs.declared.row.ConstraintRow.{ConstraintRow}
use Rattle.joint_refusals.specs.Refusals.{words_fit_of, bodies_below_of, scalars_finite_of, scalars_in_range_of}
use Rattle.check_range.specs.Range.{row_in_range}

unfoldable pub row_sound : ℕ → ConstraintRow → Float → Float → Bool
row_sound bodies r error multiplier =
    ((((words_fit_of r.words && bodies_below_of bodies r.words) && is_finite_of r.position_angular_a) && scalars_finite_of r.scalars) && scalars_in_range_of r.scalars) && row_in_range (jacobian_of r) error multiplier
