-- `job_sheets::lent::write_accepted` meets its contract: there is room for the sheet. Assumes nothing.
use native.Mathlib.Omega.{arith}
use borrow.Author.Rules.{rules}
use Rattle.listing.proofs.Length.{listing_room}
use Rattle.job_sheets.proofs.lent.write_accepted.Goals as goal

pub write_listing-requires : goal.write_listing-requires
write_listing-requires c =
    (omega arith, omega arith, omega arith, listing_room _ _ _ _ _ _ _ _ _ _ _ _ (search rules) (search rules) (omega arith) (omega arith) (omega arith))
