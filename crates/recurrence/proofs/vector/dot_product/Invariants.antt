-- `recurrence::vector::dot_product` meets its contract: the first i products are summed. Assumes nothing.
use mathlib.Core.Path.{◌≡◌}
use Rattle.recurrence.specs.Vectors.{dot_to}
use Rattle.recurrence.proofs.vector.dot_product.Given as goal

abbrev pub invariant-loop-i : goal.invariant-loop-i
invariant-loop-i l =
    l.sum ≡ dot_to l.left l.right l.i
