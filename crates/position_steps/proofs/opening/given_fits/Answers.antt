-- `position_steps::opening::given_fits` meets its contract. Assumes nothing.
use native.Mathlib.Omega.{arith}
use Rattle.position_steps.proofs.Openings.{given_none, given_rows}
use Rattle.position_steps.proofs.opening.given_fits.Goals as goal

pub residuals_finite-requires : goal.residuals_finite-requires
residuals_finite-requires c =
    omega (arith, c.requires.long c.in-Velocity.is, c.wide.ensures)

pub returns-in-Position : goal.returns-in-Position
returns-in-Position c =
    given_none c.args.kind c.args.given.now c.args.rows c.in-Position.is

pub returns-in-Velocity : goal.returns-in-Velocity
returns-in-Velocity c =
    given_rows c.args.kind c.args.given.now c.args.rows _ _ c.in-Velocity.is c.wide.ensures c.residuals_finite.ensures
