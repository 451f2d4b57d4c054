-- `groups_solve::judge::judge_bench` meets its contract. Assumes nothing.
use mathlib.Core.Path.{refl}
use Rattle.joint_refusals.specs.Refusals.{passes7}
use Rattle.loops.proofs.Judge.{judge_done, judge_fail, judge_pass}
use Rattle.position_steps.proofs.Openings.{words_four, rows_28}
use Rattle.groups_solve.proofs.Judgement.{masses_centres, given_fail, given_pass}
use Rattle.groups_solve.proofs.judge.judge_bench.Goals as goal

pub returns-then-not-shift_fits : goal.returns-then-not-shift_fits
unfolding passes7
returns-then-not-shift_fits c = judge_fail _ _ _ c.shift_fits.ensures c.if-not-shift_fits.true-raw

pub returns-then-not-words_fit : goal.returns-then-not-words_fit
unfolding passes7
returns-then-not-words_fit c =
    judge_pass _ _ _ c.shift_fits.ensures c.if-not-shift_fits.false-raw (judge_fail _ _ _ (words_four _ _ _ _ _ _ _ refl c.words_fit.ensures) c.if-not-words_fit.true-raw)

pub returns-then-not-rules_fit : goal.returns-then-not-rules_fit
unfolding passes7
returns-then-not-rules_fit c =
    judge_pass _ _ _ c.shift_fits.ensures c.if-not-shift_fits.false-raw (judge_pass _ _ _ (words_four _ _ _ _ _ _ _ refl c.words_fit.ensures) c.if-not-words_fit.false-raw (judge_fail _ _ _ c.rules_fit.ensures c.if-not-rules_fit.true-raw))

pub returns-then-not-rows_ruled : goal.returns-then-not-rows_ruled
unfolding passes7
returns-then-not-rows_ruled c =
    judge_pass _ _ _ c.shift_fits.ensures c.if-not-shift_fits.false-raw (judge_pass _ _ _ (words_four _ _ _ _ _ _ _ refl c.words_fit.ensures) c.if-not-words_fit.false-raw (judge_pass _ _ _ c.rules_fit.ensures c.if-not-rules_fit.false-raw (judge_fail _ _ _ (rows_28 _ _ _ _ _ _ _ _ refl c.rows_ruled.ensures) c.if-not-rows_ruled.true-raw)))

pub returns-then-not-masses_finite-centres_pass : goal.returns-then-not-masses_finite-centres_pass
unfolding passes7
returns-then-not-masses_finite-centres_pass c =
    judge_pass _ _ _ c.shift_fits.ensures c.if-not-shift_fits.false-raw (judge_pass _ _ _ (words_four _ _ _ _ _ _ _ refl c.words_fit.ensures) c.if-not-words_fit.false-raw (judge_pass _ _ _ c.rules_fit.ensures c.if-not-rules_fit.false-raw (judge_pass _ _ _ (rows_28 _ _ _ _ _ _ _ _ refl c.rows_ruled.ensures) c.if-not-rows_ruled.false-raw (judge_fail _ _ _ (masses_centres c.args.kind c.args.rows c.args.bodies c.args.numbers.now c.args.words.now c.args.masses.now c.args.centres.now _ _ c.masses_finite.ensures c.centres_pass.ensures) c.if-not-masses_finite-centres_pass.true-raw))))

pub returns-then-not-given_pass : goal.returns-then-not-given_pass
unfolding passes7
returns-then-not-given_pass c =
    judge_pass _ _ _ c.shift_fits.ensures c.if-not-shift_fits.false-raw (judge_pass _ _ _ (words_four _ _ _ _ _ _ _ refl c.words_fit.ensures) c.if-not-words_fit.false-raw (judge_pass _ _ _ c.rules_fit.ensures c.if-not-rules_fit.false-raw (judge_pass _ _ _ (rows_28 _ _ _ _ _ _ _ _ refl c.rows_ruled.ensures) c.if-not-rows_ruled.false-raw (judge_pass _ _ _ (masses_centres c.args.kind c.args.rows c.args.bodies c.args.numbers.now c.args.words.now c.args.masses.now c.args.centres.now _ _ c.masses_finite.ensures c.centres_pass.ensures) c.if-not-masses_finite-centres_pass.false-raw (given_fail c.args.kind c.args.given.now c.args.rows _ _ c.given_pass.ensures c.if-not-given_pass.true-raw)))))

pub returns-then-not-rows_valid : goal.returns-then-not-rows_valid
unfolding passes7
returns-then-not-rows_valid c =
    judge_pass _ _ _ c.shift_fits.ensures c.if-not-shift_fits.false-raw (judge_pass _ _ _ (words_four _ _ _ _ _ _ _ refl c.words_fit.ensures) c.if-not-words_fit.false-raw (judge_pass _ _ _ c.rules_fit.ensures c.if-not-rules_fit.false-raw (judge_pass _ _ _ (rows_28 _ _ _ _ _ _ _ _ refl c.rows_ruled.ensures) c.if-not-rows_ruled.false-raw (judge_pass _ _ _ (masses_centres c.args.kind c.args.rows c.args.bodies c.args.numbers.now c.args.words.now c.args.masses.now c.args.centres.now _ _ c.masses_finite.ensures c.centres_pass.ensures) c.if-not-masses_finite-centres_pass.false-raw (given_pass c.args.kind c.args.given.now c.args.rows _ _ c.given_pass.ensures c.if-not-given_pass.false-raw (judge_fail _ _ _ c.rows_valid.ensures c.if-not-rows_valid.true-raw))))))

pub returns : goal.returns
unfolding passes7
returns c =
    judge_pass _ _ _ c.shift_fits.ensures c.if-not-shift_fits.false-raw (judge_pass _ _ _ (words_four _ _ _ _ _ _ _ refl c.words_fit.ensures) c.if-not-words_fit.false-raw (judge_pass _ _ _ c.rules_fit.ensures c.if-not-rules_fit.false-raw (judge_pass _ _ _ (rows_28 _ _ _ _ _ _ _ _ refl c.rows_ruled.ensures) c.if-not-rows_ruled.false-raw (judge_pass _ _ _ (masses_centres c.args.kind c.args.rows c.args.bodies c.args.numbers.now c.args.words.now c.args.masses.now c.args.centres.now _ _ c.masses_finite.ensures c.centres_pass.ensures) c.if-not-masses_finite-centres_pass.false-raw (given_pass c.args.kind c.args.given.now c.args.rows _ _ c.given_pass.ensures c.if-not-given_pass.false-raw (judge_pass _ _ _ c.rows_valid.ensures c.if-not-rows_valid.false-raw judge_done))))))
