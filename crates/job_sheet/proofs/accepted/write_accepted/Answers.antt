-- `job_sheet::accepted::write_accepted` meets its contract. Assumes nothing.
use native.Mathlib.Omega.{arith}
use lib.ListN.{take, replicate}
use lib.Seq.{length-take-le}
use borrow.Author.Rules.{rules}
use Rattle.listing.proofs.Joined.{wrote_as}
use Rattle.listing.proofs.Length.{listing_room}
use Rattle.job_sheet.proofs.Ways.{check_room, printed_is}
use Rattle.job_sheet.proofs.accepted.write_accepted.Goals as goal

pub slice_bounds-rule_numbers-end : goal.slice_bounds-rule_numbers-end
slice_bounds-rule_numbers-end c =
    c.requires.job_room.few_rows

pub checked_small-answer-requires : goal.checked_small-answer-requires
checked_small-answer-requires c =
    (c.requires.job_room.few_rows, c.requires.job_room.few_bodies)

pub write_listing-requires : goal.write_listing-requires
write_listing-requires c =
    let room = c.requires.job_room in
    let text = listing_room _ _ _ _ _ _ _ _ _ _ _ _ (search (rules, c.well_formed)) (search rules) room.few_rows room.few_bodies c.requires.in_bounds in
    (omega (arith, room.numbers_long), omega (arith, room.impulses_long), omega (arith, room.new_centres_long), text)

pub returns : goal.returns
returns c =
    let a = c.args in
    let room = c.requires.job_room in
    let printed = printed_is a.trailer a.numbers.now a.words.now a.masses.now a.centres.now a.solution.now (take a.trailer.rows (replicate 128 0))
    (check_room room) (length-take-le _ _ room.few_rows) c.checked_small-answer.ensures.answered a.impulses.now a.new_centres.now a.res c.gap.ensures c.number.ensures in
    wrote_as printed c.write_listing.ensures
