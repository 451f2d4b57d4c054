-- `solve_by_rules::names::name_accepted` meets its contract. Assumes nothing.
use Rattle.solve_by_rules.proofs.Naming.{named_accepted, named_refused}
use mathlib.Core.Path.{ap}
use Rattle.refusals.specs.Told.{told}
use Rattle.solve_by_rules.proofs.names.name_accepted.Goals as goal

pub name_rules-requires : goal.name_rules-requires
name_rules-requires c =
    (c.requires.naming_room.room _ (ap told c.in-Ok.is), c.requires.rule_tolerances_in_bounds.0, c.requires.rule_tolerances_in_bounds.1)

pub returns-in-Ok : goal.returns-in-Ok
returns-in-Ok c =
    named_accepted _ _ _ _ (ap told c.in-Ok.is) c.name_rules.ensures

pub returns-in-Err : goal.returns-in-Err
returns-in-Err c =
    named_refused _ _ _ _ (ap told c.in-Err.is)
