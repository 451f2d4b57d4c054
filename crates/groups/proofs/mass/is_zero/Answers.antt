-- `groups::mass::is_zero` meets its contract. Assumes nothing.
use lib.Ieee.{eq}
use borrow.Author.Rules.{rules}
use Rattle.position.specs.Centres.{zero_of}
use Rattle.groups.proofs.mass.is_zero.Goals as goal

pub returns : goal.returns
unfolding eq zero_of
returns c = search rules
