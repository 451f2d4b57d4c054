-- `first_refusal::tests::opens_at` meets its contract. Assumes nothing.
use native.Mathlib.Omega.{arith}
use Rattle.first_refusal.proofs.Judged.{opens_position, opens_velocity}
use Rattle.first_refusal.proofs.tests.opens_at.Goals as goal

pub scalars_at-scalars-requires : goal.scalars_at-scalars-requires
scalars_at-scalars-requires c =
    omega (arith, c.requires.0)

pub words_at-row-requires : goal.words_at-row-requires
words_at-row-requires c =
    c.requires.1

pub returns-in-Position : goal.returns-in-Position
returns-in-Position c =
    opens_position c.args.numbers.now c.args.words.now c.args.i c.scalars_at-scalars.ensures c.words_at-row.ensures c.in-Position.is c.row_opens.ensures

pub returns-in-Velocity : goal.returns-in-Velocity
returns-in-Velocity c =
    opens_velocity c.args.numbers.now c.args.words.now c.args.i c.scalars_at-scalars.ensures c.words_at-row.ensures c.in-Velocity.is c.velocity_row_opens.ensures
