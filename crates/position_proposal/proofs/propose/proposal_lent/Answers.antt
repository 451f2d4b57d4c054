-- `position_proposal::propose::proposal_lent` meets its contract. Assumes nothing.
use Rattle.loops.proofs.Loop.{loops}
use Rattle.position_proposal.specs.Proposed.{proposal_lent}
use Rattle.position_proposal.proofs.propose.proposal_lent.Goals as goal

pub wide-requires : goal.wide-requires
unfolding proposal_lent
wide-requires c =
    search loops

pub rules_lent-requires : goal.rules_lent-requires
unfolding proposal_lent
rules_lent-requires c =
    search loops

pub centres_lent-requires : goal.centres_lent-requires
unfolding proposal_lent
centres_lent-requires c =
    search loops

pub returns : goal.returns
unfolding proposal_lent
returns c =
    rw (c.wide.ensures, c.rules_lent.ensures, c.centres_lent.ensures)
