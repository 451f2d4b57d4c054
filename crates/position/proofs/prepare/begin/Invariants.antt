-- `position::prepare::begin` meets its contract: the rows below i are passed and written. Assumes nothing.
use lib.ListN.{length}
use Rattle.kapitsa_joint.specs.Table.{table_of, tolerances_in}
use Rattle.mass_operator.specs.Flat.{coefficients}
use Rattle.position.specs.Problem.{started_problem}
use Rattle.position.proofs.Started.{Started}
use Rattle.position.proofs.prepare.begin.Given as goal

abbrev pub invariant-loop-i : goal.invariant-loop-i
invariant-loop-i l =
    Started (started_problem l.valid_first (table_of (length l.initial.diagonal) l.bodies l.numbers l.words l.masses) (tolerances_in l.tolerances) (coefficients l.initial.residual)) l.initial.residual l.i l.diagonal l.residual
