-- `check_refusals::judge::judge_table` meets its contract. Assumes nothing.
use Rattle.check_refusals.proofs.AtOnce.{all_at_once}
use Rattle.check_refusals.proofs.judge.judge_table.Goals as goal

pub returns-then-ruled-placed : goal.returns-then-ruled-placed
returns-then-ruled-placed c =
    all_at_once c.args.kind c.args.given.now _ _ _ _ _ c.args.multipliers.now _ _
    c.rules_fit.ensures c.rows_ruled.ensures c.given_finite.ensures c.masses_in_range.ensures c.rows_sound.ensures c.if-ruled-placed.true
