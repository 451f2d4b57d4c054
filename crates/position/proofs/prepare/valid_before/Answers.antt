-- `position::prepare::valid_before` meets its contract. Assumes nothing.
use borrow.Author.Rules.{rules}
use Rattle.position.proofs.Ways.{before_all, before_none}
use Rattle.position.proofs.prepare.valid_before.Goals as goal

ruleset known = (before_all, before_none, rules)

pub returns-then-not-valid_first : goal.returns-then-not-valid_first
returns-then-not-valid_first c =
    search known

pub returns : goal.returns
returns c =
    search known
