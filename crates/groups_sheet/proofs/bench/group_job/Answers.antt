-- `groups_sheet::bench::group_job` meets its contract. Assumes nothing.
use borrow.Author.Rules.{rules}
use Rattle.groups_sheet.proofs.Whole.{odd, unmassed, invalid, linked, passes}
use Rattle.groups_sheet.proofs.bench.group_job.Goals as goal

pub returns-then-not-tolerances_fit : goal.returns-then-not-tolerances_fit
returns-then-not-tolerances_fit c =
    let a = c.args in odd a.trailer a.numbers.now a.words.now a.masses.now a.centres.now _ c.tolerances_fit.ensures c.if-not-tolerances_fit.true-raw

pub returns-then-not-masses_finite-centres_finite : goal.returns-then-not-masses_finite-centres_finite
returns-then-not-masses_finite-centres_finite c =
    let a = c.args in unmassed a.trailer a.numbers.now a.words.now a.masses.now a.centres.now _ c.tolerances_fit.ensures c.if-not-tolerances_fit.false-raw c.wide-bodies.ensures c.masses_finite.ensures c.centres_finite.ensures c.if-not-masses_finite-centres_finite.true-raw

pub returns-then-not-rows_valid : goal.returns-then-not-rows_valid
returns-then-not-rows_valid c =
    let a = c.args in invalid a.trailer a.numbers.now a.words.now a.masses.now a.centres.now _ c.tolerances_fit.ensures c.if-not-tolerances_fit.false-raw c.wide-bodies.ensures c.masses_finite.ensures c.centres_finite.ensures c.if-not-masses_finite-centres_finite.false-raw c.wide-rows.ensures c.rows_valid.ensures c.if-not-rows_valid.true-raw

pub group_rows-requires : goal.group_rows-requires
group_rows-requires c =
    let a = c.args in record { rows_in_bounds = search rules; rows_in_bounds_2 = search rules; linked = linked a.trailer a.numbers.now a.words.now a.masses.now a.centres.now a.groups.now c.tolerances_fit.ensures c.if-not-tolerances_fit.false-raw c.wide-bodies.ensures c.masses_finite.ensures c.centres_finite.ensures c.if-not-masses_finite-centres_finite.false-raw c.wide-rows.ensures c.rows_valid.ensures c.if-not-rows_valid.false-raw }

pub returns : goal.returns
returns c =
    let a = c.args in passes a.trailer a.numbers.now a.words.now a.masses.now a.centres.now _ c.tolerances_fit.ensures c.if-not-tolerances_fit.false-raw c.wide-bodies.ensures c.masses_finite.ensures c.centres_finite.ensures c.if-not-masses_finite-centres_finite.false-raw c.wide-rows.ensures c.rows_valid.ensures c.if-not-rows_valid.false-raw c.group_rows.ensures.grouped
