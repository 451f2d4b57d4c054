-- `check_refusals::judge::judge_in_order` meets its contract. Assumes nothing.
use borrow.Author.Rules.{rules}
use Rattle.joint_refusals.specs.Refusals.{passes6, passes7}
use Rattle.mass_operator.specs.Flat.{coefficients}
use Rattle.loops.proofs.Judge.{judge_done, judge_fail, judge_pass, judging}
use Rattle.check_refusals.proofs.Judgement.{words_pass, rows_pass, placed_pass, given_fail, given_pass, range_pass}
use Rattle.check_refusals.proofs.judge.judge_in_order.Goals as goal

ruleset known = (judging, words_pass, rows_pass, placed_pass, given_fail, given_pass, range_pass, rules)

pub returns-then-not-words_fit : goal.returns-then-not-words_fit
unfolding passes6 passes7
returns-then-not-words_fit c = search known

pub returns-then-not-rules_fit : goal.returns-then-not-rules_fit
unfolding passes6 passes7
returns-then-not-rules_fit c = search known

pub returns-then-not-rows_ruled : goal.returns-then-not-rows_ruled
unfolding passes6 passes7
returns-then-not-rows_ruled c = search known

pub returns-then-not-masses_finite-placed : goal.returns-then-not-masses_finite-placed
unfolding passes6 passes7
returns-then-not-masses_finite-placed c = search known

pub returns-then-not-given_finite : goal.returns-then-not-given_finite
unfolding passes6 passes7
returns-then-not-given_finite c =
    judge_pass _ _ _ (words_pass _ _ _ _ _ c.words_fit.ensures) (search rules)
    (judge_pass _ _ _ c.rules_fit.ensures (search rules)
    (judge_pass _ _ _ (rows_pass _ _ _ _ _ _ c.rows_ruled.ensures) (search rules)
    (judge_pass _ _ _ (placed_pass _ c.masses_finite.ensures) (search rules)
    (given_fail c.args.kind (coefficients c.args.given.now) c.args.rows _ c.given_finite.ensures (search rules)))))

pub returns-then-not-rows_valid : goal.returns-then-not-rows_valid
unfolding passes6 passes7
returns-then-not-rows_valid c =
    judge_pass _ _ _ (words_pass _ _ _ _ _ c.words_fit.ensures) (search rules)
    (judge_pass _ _ _ c.rules_fit.ensures (search rules)
    (judge_pass _ _ _ (rows_pass _ _ _ _ _ _ c.rows_ruled.ensures) (search rules)
    (judge_pass _ _ _ (placed_pass _ c.masses_finite.ensures) (search rules)
    (given_pass c.args.kind (coefficients c.args.given.now) c.args.rows _ c.given_finite.ensures (search rules)
    (judge_fail _ _ _ c.rows_valid.ensures (search rules))))))

pub returns-then-not-table_in_range : goal.returns-then-not-table_in_range
unfolding passes6 passes7
returns-then-not-table_in_range c =
    judge_pass _ _ _ (words_pass _ _ _ _ _ c.words_fit.ensures) (search rules)
    (judge_pass _ _ _ c.rules_fit.ensures (search rules)
    (judge_pass _ _ _ (rows_pass _ _ _ _ _ _ c.rows_ruled.ensures) (search rules)
    (judge_pass _ _ _ (placed_pass _ c.masses_finite.ensures) (search rules)
    (given_pass c.args.kind (coefficients c.args.given.now) c.args.rows _ c.given_finite.ensures (search rules)
    (judge_pass _ _ _ c.rows_valid.ensures (search rules)
    (judge_fail _ _ _ (range_pass c.args.kind c.args.given.now _ _ _ _ _ _ c.table_in_range.ensures) (search rules)))))))

pub returns : goal.returns
unfolding passes6 passes7
returns c =
    judge_pass _ _ _ (words_pass _ _ _ _ _ c.words_fit.ensures) (search rules)
    (judge_pass _ _ _ c.rules_fit.ensures (search rules)
    (judge_pass _ _ _ (rows_pass _ _ _ _ _ _ c.rows_ruled.ensures) (search rules)
    (judge_pass _ _ _ (placed_pass _ c.masses_finite.ensures) (search rules)
    (given_pass c.args.kind (coefficients c.args.given.now) c.args.rows _ c.given_finite.ensures (search rules)
    (judge_pass _ _ _ c.rows_valid.ensures (search rules)
    (judge_pass _ _ _ (range_pass c.args.kind c.args.given.now _ _ _ _ _ _ c.table_in_range.ensures) (search rules) judge_done))))))
