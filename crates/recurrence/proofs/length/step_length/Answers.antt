-- `recurrence::length::step_length` meets its contract. Assumes nothing.
use mathlib.Core.Path.{refl}
use Rattle.recurrence.proofs.Turns.{length_is}
use Rattle.recurrence.proofs.length.step_length.Goals as goal

pub returns-clause-residual_product_value : goal.returns-clause-residual_product_value
returns-clause-residual_product_value c =
    length_is _ _ _ _ _ _ c.global_velocity_matrix_vector-denominator.ensures refl c.alpha.ensures
