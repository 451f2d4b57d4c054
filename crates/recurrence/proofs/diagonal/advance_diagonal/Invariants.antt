-- `recurrence::diagonal::advance_diagonal` meets its contract: the rows of the pairs before `pair` are passed. Assumes nothing.
use Prim.Native.Nat.{◌*◌}
use mathlib.Core.Bool.{true}
use lib.ListN.{length}
use Rattle.loops.specs.Cleared.{plus_zero}
use Rattle.recurrence.specs.Pass.{pass_out}
use Rattle.recurrence.proofs.OnePass.{Passing}
use Rattle.recurrence.proofs.diagonal.advance_diagonal.Given as goal

abbrev pub invariant-loop-pair : goal.invariant-loop-pair
invariant-loop-pair l =
    Passing l.alpha l.direction l.diagonal (record { solution = l.initial.solution; residual = l.initial.residual; product = l.initial.product; all = true; sum = plus_zero }) (length l.initial.solution) (2 * l.pair)
    (pass_out l.passed l.solution l.residual l.product)
