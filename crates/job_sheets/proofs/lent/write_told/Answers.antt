-- `job_sheets::lent::write_told` meets its contract: there is room for the sheet. Assumes nothing.
use native.Mathlib.Omega.{arith}
use borrow.Author.Rules.{rules}
use Rattle.listing.proofs.Length.{refused_room}
use Rattle.job_sheets.proofs.lent.write_told.Goals as goal

pub write_refusal-requires : goal.write_refusal-requires
write_refusal-requires c =
    refused_room _ _ (search rules) (omega arith)

pub write_accepted-requires : goal.write_accepted-requires
write_accepted-requires c =
    (omega arith, omega arith, omega arith, omega arith)
