-- `job_sheet::gaps::write_measured` meets its contract. Assumes nothing.
use borrow.Author.Rules.{rules}
use native.Mathlib.Omega.{arith}
use Rattle.listing.proofs.Joined.{wrote_as}
use Rattle.listing.proofs.Length.{gaps_room}
use Rattle.job_sheet.proofs.Ways.{le_of}
use Rattle.job_sheet.proofs.Measured.{gaps_fit, rules_below, gaps_printed_lem}
use Rattle.job_sheet.proofs.gaps.write_measured.Goals as goal

pub gaps_small-answer-requires : goal.gaps_small-answer-requires
gaps_small-answer-requires c =
    (c.requires.check_room.few_rows, c.requires.check_room.few_bodies)

pub write_gaps-requires : goal.write_gaps-requires
write_gaps-requires c =
    let a = c.args in
    let room = c.requires.check_room in
    let below = rules_below a.trailer a.numbers.now a.words.now a.masses.now a.centres.now a.solution.now a.rule_numbers.now room c.requires.rule_numbers_len.0 (gaps_fit c.requires.rule_numbers_len.1) c.gaps_small-answer.ensures c.number.ensures in
    let text = gaps_room _ _ _ _ _ _ _ a.words.now _ _ _ (search (rules, c.well_formed)) (search rules) room.few_rows (λ k. let word = c.shared_slice_known-2-1.given k in search (rules, word)) c.requires.rule_numbers_len.2 in
    record { rows_in_bounds = (omega (arith, room.words_long), le_of c.gaps-1.given c.requires.rule_numbers_len.1, le_of c.rule_numbers-1.given c.requires.rule_numbers_len.0, below); room = text }

pub returns : goal.returns
returns c =
    let a = c.args in
    let room = c.requires.check_room in
    wrote_as (gaps_printed_lem a.trailer a.numbers.now a.words.now a.masses.now a.centres.now a.solution.now a.rule_numbers.now room c.requires.rule_numbers_len.0 (gaps_fit c.requires.rule_numbers_len.1) c.gaps_small-answer.ensures a.res c.gap.ensures c.number.ensures) c.write_gaps.ensures
