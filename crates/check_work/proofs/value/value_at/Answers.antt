-- `check_work::value::value_at` meets its contract. Assumes nothing.
use Rattle.check_work.proofs.Bodies.{read, size_read}
use Rattle.check_work.proofs.value.value_at.Goals as goal

pub value_of-value-requires : goal.value_of-value-requires
value_of-value-requires c =
    read c.jacobian_at-j.ensures c.requires.body_a_in_bounds

pub value_of-size-requires : goal.value_of-size-requires
value_of-size-requires c =
    size_read c.jacobian_at-j.ensures c.requires.body_a_in_bounds_2 c.row_size.ensures

pub returns : goal.returns
returns c =
    record {
      value_value = rw (c.value_of-value.ensures, c.jacobian_at-j.ensures);
      size_value = rw (c.value_of-size.ensures, c.row_size.ensures, c.jacobian_at-j.ensures);
    }
