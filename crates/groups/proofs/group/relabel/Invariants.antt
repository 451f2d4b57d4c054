-- `groups::group::relabel` meets its contract: the labels below b are renamed. Assumes nothing.
use lib.ListN.{get_or}
use Rattle.groups.specs.Steps.{Front, renamed}
use Rattle.groups.proofs.group.relabel.Given as goal

abbrev pub invariant-loop-b : goal.invariant-loop-b
invariant-loop-b l = Front (λ x. renamed l.from l.to (get_or l.initial.labels x 0)) l.b l.initial.labels l.labels
