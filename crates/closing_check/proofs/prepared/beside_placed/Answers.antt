-- `closing_check::prepared::beside_placed` meets its contract. Assumes nothing.
use borrow.Author.Rules.{rules}
use Rattle.closing_check.proofs.Entry.{none_placed, placed_judged, placed_long}
use Rattle.closing_check.proofs.prepared.beside_placed.Goals as goal

ruleset known = (none_placed, placed_judged, placed_long, rules)

pub centres_finite-requires : goal.centres_finite-requires
centres_finite-requires c =
    search known

pub returns-in-Position : goal.returns-in-Position
returns-in-Position c =
    search known

pub returns-in-Velocity : goal.returns-in-Velocity
returns-in-Velocity c =
    search known
