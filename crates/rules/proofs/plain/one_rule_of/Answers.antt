-- `rules::plain::one_rule_of` meets its contract. Assumes nothing.
use borrow.Author.Rules.{rules}
use Rattle.rules.proofs.ByDimension.{plain_rule}
use Rattle.rules.proofs.plain.one_rule_of.Goals as goal

ruleset known = (plain_rule, rules)

pub returns-then-plain : goal.returns-then-plain
returns-then-plain c =
    search known
