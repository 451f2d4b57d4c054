-- `rules::search::one_rule` meets its contract: none applies, a second does, or one only. Assumes nothing.
use Rattle.rules.specs.Rules.{rule_for}
use Rattle.rules.proofs.Finding.{searches}
use Rattle.rules.proofs.search.one_rule.Goals as goal

pub returns-then-tolerances-r : goal.returns-then-tolerances-r
unfolding rule_for
returns-then-tolerances-r c =
    search searches

pub returns-then-again-tolerances : goal.returns-then-again-tolerances
unfolding rule_for
returns-then-again-tolerances c =
    search searches

pub returns : goal.returns
unfolding rule_for
returns c =
    search searches
