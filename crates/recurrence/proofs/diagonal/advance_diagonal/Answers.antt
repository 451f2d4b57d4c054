-- `recurrence::diagonal::advance_diagonal` meets its contract: the rows of the pairs before `pair` are passed. Assumes nothing.
use native.Mathlib.Omega.{arith}
use Rattle.recurrence.proofs.OnePass.{passing_none, passing_last, passing_pair, one_pass}
use Rattle.recurrence.proofs.diagonal.advance_diagonal.Goals as goal

pub loop-pair-init : goal.loop-pair-init
loop-pair-init c =
    passing_none

pub loop-pair-preserved : goal.loop-pair-preserved
loop-pair-preserved c =
    passing_pair _ c.loop-pair.invariant (omega arith) c.update_two-passed.ensures

pub returns-then-n-eq1-clause-diagonal_value : goal.returns-then-n-eq1-clause-diagonal_value
returns-then-n-eq1-clause-diagonal_value c =
    one_pass _ _ _ _ _ _ c.requires.0 c.requires.1 _ _ c.passed_product.result (passing_last c.loop-pair.invariant (omega arith, omega arith) c.update_row-last.ensures) (omega arith) c.passed_product.ensures

pub returns-clause-diagonal_value : goal.returns-clause-diagonal_value
returns-clause-diagonal_value c =
    one_pass _ _ _ _ _ _ c.requires.0 c.requires.1 _ _ c.passed_product-2.result c.loop-pair.invariant (omega arith) c.passed_product-2.ensures
