-- `kapitsa_groups_c::benches::tell_groups` meets its contract. Assumes nothing.
use mathlib.Core.Path.{sym, ap, ◌∙◌}
use Rattle.loops.specs.Run.{ended}
use Rattle.refusals.specs.Told.{told}
use Rattle.kapitsa_groups_c.proofs.Grouping.{told_groups, told_whole}
use Rattle.kapitsa_groups_c.proofs.benches.tell_groups.Goals as goal

pub returns-in-Ok : goal.returns-in-Ok
returns-in-Ok c = told_groups _ _ _ (ap told c.in-Ok.is) c.requires

pub returns-in-Err : goal.returns-in-Err
returns-in-Err c = told_whole _ _ _ (ap told c.in-Err.is ∙ ap ended (sym c.number.ensures))
