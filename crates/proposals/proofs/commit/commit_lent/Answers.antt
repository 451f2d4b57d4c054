-- `proposals::commit::commit_lent` meets its contract. Assumes nothing.
use borrow.Author.Tests.{ne_eqb, eq-eqb}
use Rattle.proposals.specs.Commit.{commit_lent}
use Rattle.proposals.proofs.commit.commit_lent.Goals as goal

pub returns-then-proposal-ne4 : goal.returns-then-proposal-ne4
unfolding commit_lent
returns-then-proposal-ne4 c =
    rw (ne_eqb _ 4 c.if-proposal-ne4.true)

pub returns : goal.returns
unfolding commit_lent
returns c =
    rw (eq-eqb _ 4 c.if-proposal-ne4.false, c.wide-proposed.ensures, c.wide.ensures)
