-- `position_steps::opening::open_in_order` meets its contract. Assumes nothing.
use Rattle.loops.proofs.Judge.{judge_fail, judge_pass}
use Rattle.position_steps.proofs.Openings.{given_fail, given_pass, masses_six, rows_28, rows_five, words_four}
use Rattle.position_steps.proofs.opening.open_in_order.Goals as goal

pub returns-then-not-shift_fits : goal.returns-then-not-shift_fits
returns-then-not-shift_fits c =
    judge_fail _ _ _ c.shift_fits.ensures c.if-not-shift_fits.true-raw

pub returns-then-not-words_fit : goal.returns-then-not-words_fit
returns-then-not-words_fit c =
    judge_pass _ _ _ c.shift_fits.ensures c.if-not-shift_fits.false-raw
    (judge_fail _ _ _ (words_four _ _ _ _ _ _ _ c.wide.ensures c.words_fit.ensures) c.if-not-words_fit.true-raw)

pub returns-then-not-rules_fit : goal.returns-then-not-rules_fit
returns-then-not-rules_fit c =
    judge_pass _ _ _ c.shift_fits.ensures c.if-not-shift_fits.false-raw
    (judge_pass _ _ _ (words_four _ _ _ _ _ _ _ c.wide.ensures c.words_fit.ensures) c.if-not-words_fit.false-raw
    (judge_fail _ _ _ c.rules_fit.ensures c.if-not-rules_fit.true-raw))

pub returns-then-not-rows_ruled : goal.returns-then-not-rows_ruled
returns-then-not-rows_ruled c =
    judge_pass _ _ _ c.shift_fits.ensures c.if-not-shift_fits.false-raw
    (judge_pass _ _ _ (words_four _ _ _ _ _ _ _ c.wide.ensures c.words_fit.ensures) c.if-not-words_fit.false-raw
    (judge_pass _ _ _ c.rules_fit.ensures c.if-not-rules_fit.false-raw
    (judge_fail _ _ _ (rows_28 _ _ _ _ _ _ _ _ c.wide-2.ensures c.rows_ruled.ensures) c.if-not-rows_ruled.true-raw)))

pub returns-then-not-opens : goal.returns-then-not-opens
returns-then-not-opens c =
    judge_pass _ _ _ c.shift_fits.ensures c.if-not-shift_fits.false-raw
    (judge_pass _ _ _ (words_four _ _ _ _ _ _ _ c.wide.ensures c.words_fit.ensures) c.if-not-words_fit.false-raw
    (judge_pass _ _ _ c.rules_fit.ensures c.if-not-rules_fit.false-raw
    (judge_pass _ _ _ (rows_28 _ _ _ _ _ _ _ _ c.wide-2.ensures c.rows_ruled.ensures) c.if-not-rows_ruled.false-raw
    (judge_fail _ _ _ (rows_five c.args.kind c.args.numbers.now c.args.words.now c.args.rows c.args.limit _ c.opens.ensures) c.if-not-opens.true-raw))))

pub returns-then-not-masses_finite-placed : goal.returns-then-not-masses_finite-placed
returns-then-not-masses_finite-placed c =
    judge_pass _ _ _ c.shift_fits.ensures c.if-not-shift_fits.false-raw
    (judge_pass _ _ _ (words_four _ _ _ _ _ _ _ c.wide.ensures c.words_fit.ensures) c.if-not-words_fit.false-raw
    (judge_pass _ _ _ c.rules_fit.ensures c.if-not-rules_fit.false-raw
    (judge_pass _ _ _ (rows_28 _ _ _ _ _ _ _ _ c.wide-2.ensures c.rows_ruled.ensures) c.if-not-rows_ruled.false-raw
    (judge_pass _ _ _ (rows_five c.args.kind c.args.numbers.now c.args.words.now c.args.rows c.args.limit _ c.opens.ensures) c.if-not-opens.false-raw
    (judge_fail _ _ _ (masses_six c.args.numbers.now c.args.masses.now c.args.words.now c.args.rows c.args.bodies _ c.args.placed _ c.wide-3.ensures c.masses_finite.ensures) c.if-not-masses_finite-placed.true-raw)))))

pub returns-then-not-given_fits : goal.returns-then-not-given_fits
returns-then-not-given_fits c =
    judge_pass _ _ _ c.shift_fits.ensures c.if-not-shift_fits.false-raw
    (judge_pass _ _ _ (words_four _ _ _ _ _ _ _ c.wide.ensures c.words_fit.ensures) c.if-not-words_fit.false-raw
    (judge_pass _ _ _ c.rules_fit.ensures c.if-not-rules_fit.false-raw
    (judge_pass _ _ _ (rows_28 _ _ _ _ _ _ _ _ c.wide-2.ensures c.rows_ruled.ensures) c.if-not-rows_ruled.false-raw
    (judge_pass _ _ _ (rows_five c.args.kind c.args.numbers.now c.args.words.now c.args.rows c.args.limit _ c.opens.ensures) c.if-not-opens.false-raw
    (judge_pass _ _ _ (masses_six c.args.numbers.now c.args.masses.now c.args.words.now c.args.rows c.args.bodies _ c.args.placed _ c.wide-3.ensures c.masses_finite.ensures) c.if-not-masses_finite-placed.false-raw
    (given_fail c.args.kind c.args.given.now c.args.rows _ c.given_fits.ensures c.if-not-given_fits.true-raw))))))

pub returns : goal.returns
returns c =
    judge_pass _ _ _ c.shift_fits.ensures c.if-not-shift_fits.false-raw
    (judge_pass _ _ _ (words_four _ _ _ _ _ _ _ c.wide.ensures c.words_fit.ensures) c.if-not-words_fit.false-raw
    (judge_pass _ _ _ c.rules_fit.ensures c.if-not-rules_fit.false-raw
    (judge_pass _ _ _ (rows_28 _ _ _ _ _ _ _ _ c.wide-2.ensures c.rows_ruled.ensures) c.if-not-rows_ruled.false-raw
    (judge_pass _ _ _ (rows_five c.args.kind c.args.numbers.now c.args.words.now c.args.rows c.args.limit _ c.opens.ensures) c.if-not-opens.false-raw
    (judge_pass _ _ _ (masses_six c.args.numbers.now c.args.masses.now c.args.words.now c.args.rows c.args.bodies _ c.args.placed _ c.wide-3.ensures c.masses_finite.ensures) c.if-not-masses_finite-placed.false-raw
    (given_pass c.args.kind c.args.given.now c.args.rows _ c.given_fits.ensures c.if-not-given_fits.false-raw))))))
