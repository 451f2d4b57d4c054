-- `job_sheet::margins::write_listed` meets its contract. Assumes nothing.
use borrow.Author.Rules.{rules}
use Rattle.listing.proofs.Joined.{wrote_as}
use Rattle.listing.proofs.Length.{margins_room}
use Rattle.job_sheet.proofs.Ways.{le_of, lists_fit, rows_small, margins_printed_lem}
use Rattle.job_sheet.proofs.margins.write_listed.Goals as goal

pub margins_small-answer-requires : goal.margins_small-answer-requires
margins_small-answer-requires c =
    (c.requires.check_room.few_rows, c.requires.check_room.few_bodies)

pub write_margins-requires : goal.write_margins-requires
write_margins-requires c =
    let a = c.args in
    let room = c.requires.check_room in
    let small = rows_small a.trailer a.numbers.now a.words.now a.masses.now a.centres.now a.solution.now a.rule_numbers.now room c.requires.rule_numbers_len.0 (lists_fit c.requires.rule_numbers_len.1 c.requires.rule_numbers_len.2) c.margins_small-answer.ensures c.number.ensures in
    let text = margins_room _ _ _ _ _ _ _ _ _ (search (rules, c.well_formed)) (search rules) room.few_rows small c.requires.rule_numbers_len.3 in
    (le_of c.margin_rows-1.given c.requires.rule_numbers_len.1, le_of c.margins-1.given c.requires.rule_numbers_len.2, text)

pub returns : goal.returns
returns c =
    let a = c.args in
    let room = c.requires.check_room in
    let printed = margins_printed_lem a.trailer a.numbers.now a.words.now a.masses.now a.centres.now a.solution.now a.rule_numbers.now room c.requires.rule_numbers_len.0 (lists_fit c.requires.rule_numbers_len.1 c.requires.rule_numbers_len.2) c.margins_small-answer.ensures a.res c.gap.ensures c.number.ensures in
    wrote_as printed c.write_margins.ensures
