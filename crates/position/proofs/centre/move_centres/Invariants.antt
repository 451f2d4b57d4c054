-- `position::centre::move_centres` meets its contract: the bodies below b have their new centre. Assumes nothing.
use Rattle.kapitsa_joint.specs.Mass.{mass_of}
use Rattle.kapitsa_joint.specs.Impulse.{paired_of}
use Rattle.kapitsa_joint.specs.Centre.{centres_in}
use Rattle.position.specs.Centres.{moved_by}
use Rattle.position.proofs.Moved.{Moves}
use Rattle.position.proofs.centre.move_centres.Given as goal

abbrev pub invariant-loop-b : goal.invariant-loop-b
invariant-loop-b l =
    Moves (moved_by (mass_of l.masses) (paired_of l.impulses) (centres_in l.bodies l.centres)) l.b l.new_centres
