-- `check_work::response::turn_both` meets its contract. Assumes nothing.
use Rattle.check_measure.proofs.SizesOf.{mass_size}
use Rattle.check_work.proofs.response.turn_both.Goals as goal

pub returns : goal.returns
returns c =
    record {
      impulses_after = rw (c.turn.ensures, c.mass_at-mass.ensures);
      size_impulses_after = rw (c.turn-2.ensures, c.mass_size.ensures, c.mass_at-mass.ensures, mass_size c.args.masses.now c.args.b);
    }
