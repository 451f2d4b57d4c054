-- `position::prepare::judge_diagonal` meets its contract. Assumes nothing.
use borrow.Author.Rules.{rules}
use Rattle.position.proofs.Ways.{judged_eight, judged_high, judged_low, judged_nine}
use Rattle.position.proofs.prepare.judge_diagonal.Goals as goal

pub returns-then-not-is_finite : goal.returns-then-not-is_finite
returns-then-not-is_finite c =
    judged_eight _ _ _ _ c.is_finite.ensures (search rules)

pub returns-then-tolerance-abs : goal.returns-then-tolerance-abs
returns-then-tolerance-abs c =
    judged_nine _ _ _ _ c.is_finite.ensures (search rules) _ c.abs.ensures c.if-diagonal.true c.if-tolerance-abs.true

pub returns-then-diagonal : goal.returns-then-diagonal
returns-then-diagonal c =
    judged_low _ _ _ _ c.is_finite.ensures (search rules) _ c.abs.ensures c.if-diagonal.true c.if-tolerance-abs.false

pub returns : goal.returns
returns c =
    judged_high _ _ _ _ c.is_finite.ensures (search rules) c.if-diagonal.false
