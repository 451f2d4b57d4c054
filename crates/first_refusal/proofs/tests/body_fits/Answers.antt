-- `first_refusal::tests::body_fits` meets its contract. Assumes nothing.
use borrow.Author.Rules.{rules}
use native.Mathlib.Omega.{arith}
use Rattle.first_refusal.proofs.Judged.{body_position, body_velocity}
use Rattle.first_refusal.proofs.tests.body_fits.Goals as goal

pub mass_at-requires : goal.mass_at-requires
mass_at-requires c =
    c.requires.0

pub overflow_mul-b : goal.overflow_mul-b
overflow_mul-b c =
    let long = c.requires.1.long c.in-Position.is in search (rules, long)

pub vec_at-centre-requires : goal.vec_at-centre-requires
vec_at-centre-requires c =
    omega (arith, c.requires.1.long c.in-Position.is)

pub returns-in-Position : goal.returns-in-Position
returns-in-Position c =
    body_position c.args.masses.now c.args.beside.now c.args.b c.in-Position.is c.mass_at.ensures c.mass_finite-mass.ensures c.vec_at-centre.ensures c.is_finite.ensures

pub returns-in-Velocity : goal.returns-in-Velocity
returns-in-Velocity c =
    body_velocity c.args.masses.now c.args.beside.now c.args.b c.in-Velocity.is c.mass_at.ensures c.mass_finite-mass.ensures
