-- `pairs::pattern::shares` meets its contract. Assumes nothing.
use borrow.Author.Rules.{rules}
use Rattle.pairs.specs.Gather.{shares_in}
use Rattle.pairs.proofs.pattern.shares.Goals as goal

pub returns : goal.returns
unfolding shares_in
returns c =
    search rules
