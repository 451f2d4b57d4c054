-- `rules::search::applies_to` meets its contract. Assumes nothing.
use borrow.Author.Rules.{rules}
use Rattle.rules.specs.Rules.{applies}
use Rattle.rules.proofs.search.applies_to.Goals as goal

pub returns : goal.returns
unfolding applies
returns c =
    search rules
