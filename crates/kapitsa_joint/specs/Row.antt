-- Document 01, "What a job is made of": "A row is 27 doubles: linear_a, angular_a, position_angular_a, linear_b, angular_b (three each), then error through cached_velocity_effective_mass in row.rs order with the two flags taken out;
-- and eight u32: key, dimension, body_a, body_b, force_driven, position_enabled, owner, spare". Row i has the doubles from 27 i on and the words from 8 i on.
use Rattle.std.specs.Prelude.{ℕ, ◌+◌, ◌*◌, List, get_or, Float}
use Rattle.std.specs.Float.{nan}
use Rattle.kapitsa_math.specs.Lent.{vec_of}
use Rattle.kapitsa_joint.specs.declared.row.RowScalars.{RowScalars}
use Rattle.kapitsa_joint.specs.declared.row.RowWords.{RowWords}
use Rattle.kapitsa_joint.specs.declared.row.ConstraintRow.{ConstraintRow}
use Rattle.kapitsa_joint.specs.declared.row.RowJacobian.{RowJacobian}

unfoldable pub scalars_of : List Float → ℕ → RowScalars
scalars_of l at = record {
  error = get_or l at nan;
  target_velocity = get_or l (at + 1) nan;
  force_bias = get_or l (at + 2) nan;
  compliance = get_or l (at + 3) nan;
  damping = get_or l (at + 4) nan;
  min_multiplier = get_or l (at + 5) nan;
  max_multiplier = get_or l (at + 6) nan;
  min_impulse = get_or l (at + 7) nan;
  max_impulse = get_or l (at + 8) nan;
  accumulated_multiplier = get_or l (at + 9) nan;
  accumulated_impulse = get_or l (at + 10) nan;
  cached_velocity_effective_mass = get_or l (at + 11) nan;
}

unfoldable pub words_of : List ℕ → ℕ → RowWords
words_of l at = record {
  key = get_or l at 0;
  dimension = get_or l (at + 1) 0;
  body_a = get_or l (at + 2) 0;
  body_b = get_or l (at + 3) 0;
  force_driven = get_or l (at + 4) 0;
  position_enabled = get_or l (at + 5) 0;
  owner = get_or l (at + 6) 0;
  spare = get_or l (at + 7) 0;
}

unfoldable pub row_of : List Float → List ℕ → ℕ → ConstraintRow
row_of numbers words i = record {
  linear_a = vec_of numbers (27 * i);
  angular_a = vec_of numbers (27 * i + 3);
  position_angular_a = vec_of numbers (27 * i + 6);
  linear_b = vec_of numbers (27 * i + 9);
  angular_b = vec_of numbers (27 * i + 12);
  scalars = scalars_of numbers (27 * i + 15);
  words = words_of words (8 * i);
}

-- what the mass operator and the factors read of a row
unfoldable pub jacobian_of : ConstraintRow → RowJacobian
jacobian_of r = record { linear_a = r.linear_a; angular_a = r.angular_a; linear_b = r.linear_b; angular_b = r.angular_b; body_a = r.words.body_a; body_b = r.words.body_b }
