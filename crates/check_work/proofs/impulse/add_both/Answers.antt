-- `check_work::impulse::add_both` meets its contract. Assumes nothing.
use Rattle.check_work.proofs.Bodies.{read, size_read}
use Rattle.check_work.proofs.impulse.add_both.Goals as goal

pub add_row-requires : goal.add_row-requires
add_row-requires c =
    read c.jacobian_at-j.ensures c.requires.body_a_in_bounds

pub add_row-requires-2 : goal.add_row-requires-2
add_row-requires-2 c =
    size_read c.jacobian_at-j.ensures c.requires.body_a_in_bounds_2 c.row_size.ensures

pub returns : goal.returns
returns c =
    record {
      impulses_after = rw (c.add_row.ensures, c.jacobian_at-j.ensures);
      size_impulses_after = rw (c.add_row-2.ensures, c.abs.ensures, c.row_size.ensures, c.jacobian_at-j.ensures);
    }
