-- Refusal 3 of a solve by groups, of what is lent.
use Rattle.std.specs.Prelude.{Bool, ◌&&◌, length}
use Rattle.group_step.specs.Bench.{Bench, Lending}
use Rattle.groups_solve.specs.Judged.{groups_lent}
use Rattle.renumbered.specs.Calls.{solve_fits}
use Rattle.renumbered_groups.specs.Bench.{job_of}

abbrev pub groups_fit : Bench → Lending → Bool
groups_fit b l =
    solve_fits (job_of b l.table.numbers) b.mode (length l.table.solution) (length l.table.impulses) (length l.table.centres) (length l.rules) && groups_lent b.rows (length l.groups) (length l.answers) (length l.maxima)
