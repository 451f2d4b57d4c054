-- `job_sheet::sheet::write_sheet` meets its contract. Assumes nothing.
use Rattle.std.proofs.Common.{sym, arith, rules}
use Rattle.listing.proofs.Joined.{wrote_as}
use Rattle.listing.proofs.Length.{refused_room}
use Rattle.job_sheet.proofs.Ways.{sheet_refused}
use Rattle.job_sheet.proofs.sheet.write_sheet.Goals as goal

pub write_refusal-requires : goal.write_refusal-requires
write_refusal-requires c = refused_room _ _ (search rules) (omega (arith, c.requires))

pub write_passed-requires : goal.write_passed-requires
write_passed-requires c = record { file_value = sym c.in-Ok.ensures; in_bounds = c.requires }

pub returns-in-Err : goal.returns-in-Err
returns-in-Err c = wrote_as (sheet_refused _ _ c.in-Err.ensures) (rw c.number.ensures at c.write_refusal.ensures)
