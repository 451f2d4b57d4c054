-- `groups_sheet::group::write_behind` meets its contract. Assumes nothing.
use native.Mathlib.Omega.{arith}
use Rattle.job_sheet.proofs.Behind.{wrote_behind}
use Rattle.groups_sheet.proofs.group.write_behind.Goals as goal

pub returns : goal.returns
returns c = wrote_behind c.args.out.now c.args.at _ _ _ (omega (arith, c.requires.at_in_bounds)) c.write_job-end.ensures
