-- `groups::group::own_labels` meets its contract: the labels below b are written. Assumes nothing.
use Rattle.groups.specs.Steps.{Front}
use Rattle.groups.proofs.group.own_labels.Given as goal

abbrev pub invariant-loop-b : goal.invariant-loop-b
invariant-loop-b l = Front (λ x. x) l.b l.initial.labels l.labels
