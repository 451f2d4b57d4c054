-- `rules::plain::rules_plain` meets its contract: with another count than two it is false. Assumes nothing.
use borrow.Author.Rules.{rules}
use Rattle.rules.proofs.ByDimension.{not_two, both_span}
use Rattle.rules.proofs.plain.rules_plain.Goals as goal

ruleset known = (not_two, both_span, rules)

pub returns-then-tolerances-ne2 : goal.returns-then-tolerances-ne2
returns-then-tolerances-ne2 c =
    search known

pub returns : goal.returns
returns c =
    search known
