-- `first_refusal::step::start_at` meets its contract. Assumes nothing.
use borrow.Author.Rules.{rules}
use Rattle.first_refusal.proofs.Judged.{start_position, start_velocity}
use Rattle.first_refusal.proofs.step.start_at.Goals as goal

pub offset_bounds-beside-i : goal.offset_bounds-beside-i
offset_bounds-beside-i c =
    let long = c.requires.1.long c.in-Velocity.is in search (rules, long)

pub bounds-beside-i : goal.bounds-beside-i
bounds-beside-i c =
    let long = c.requires.1.long c.in-Velocity.is in search (rules, long)

pub returns-in-Position : goal.returns-in-Position
returns-in-Position c =
    start_position c.args.numbers.now c.args.beside.now c.args.i c.in-Position.is

pub returns-in-Velocity : goal.returns-in-Velocity
returns-in-Velocity c =
    start_velocity c.args.numbers.now c.args.beside.now c.args.i c.in-Velocity.is
