-- `rules::plain::only_rule_of` meets its contract. Assumes nothing.
use borrow.Author.Rules.{rules}
use Rattle.rules.proofs.ByDimension.{plain_ruled}
use Rattle.rules.proofs.plain.only_rule_of.Goals as goal

ruleset known = (plain_ruled, rules)

pub returns-then-plain : goal.returns-then-plain
returns-then-plain c =
    search known
