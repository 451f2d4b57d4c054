-- `check_alone::memory::with_memory` meets its contract. Assumes nothing.
use native.Mathlib.Omega.{arith}
use lib.ListN.{length-replicate}
use Rattle.check_alone.proofs.Alone.{taken_within, alone}
use Rattle.check_alone.proofs.memory.with_memory.Goals as goal

pub whole_as_front-check_prepared : goal.whole_as_front-check_prepared
whole_as_front-check_prepared g c = (c.requires.room.1, omega (arith, c.requires.memory.1))

pub whole_as_front-check_prepared-2 : goal.whole_as_front-check_prepared-2
whole_as_front-check_prepared-2 g c = (c.requires.room.1, omega (arith, c.requires.memory.1))

pub whole_as_front-check_prepared-3 : goal.whole_as_front-check_prepared-3
whole_as_front-check_prepared-3 g c = (c.requires.room.0, omega (arith, c.requires.memory.0))

pub whole_as_front-check_prepared-4 : goal.whole_as_front-check_prepared-4
whole_as_front-check_prepared-4 g c = (c.requires.room.0, omega (arith, c.requires.memory.0))

pub returns : goal.returns
returns g c =
    alone c.args.kind _ c.requires.fits
    (taken_within g.row.ROWS g.row.BODY_NUMBERS _ _ _ _ c.requires.room.0 c.requires.room.1
    (length-replicate _ _) (length-replicate _ _) (length-replicate _ _) (length-replicate _ _))
    c.check_prepared.ensures
