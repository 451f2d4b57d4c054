-- `groups_solve::judge::groups_lent` meets its contract. Assumes nothing.
use borrow.Author.Rules.{rules}
use Rattle.groups_solve.specs.Judged.{groups_lent}
use Rattle.groups_solve.proofs.judge.groups_lent.Goals as goal

pub returns : goal.returns
unfolding groups_lent
returns c = search rules
