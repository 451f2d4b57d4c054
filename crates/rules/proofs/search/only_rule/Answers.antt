-- `rules::search::only_rule` meets its contract: the first that applies is the one. Assumes nothing.
use Rattle.rules.specs.Rules.{rule_for}
use Rattle.rules.proofs.Finding.{searches}
use Rattle.rules.proofs.search.only_rule.Goals as goal

pub returns : goal.returns
unfolding rule_for
returns c =
    search searches
