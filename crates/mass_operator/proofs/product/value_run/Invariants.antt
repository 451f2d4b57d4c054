-- `mass_operator::product::value_run` meets its contract: the rows below i have their value, and those are summed. Assumes nothing.
use Rattle.compact_table.specs.Compact.{compact_of}
use Rattle.mass_operator.specs.Lent.{value_in}
use Rattle.mass_operator.specs.BodyPair.{Valued}
use Rattle.mass_operator.proofs.product.value_run.Given as goal

abbrev pub invariant-loop-i : goal.invariant-loop-i
invariant-loop-i l = Valued (λ k. value_in (compact_of l.jacobians l.links k) l.responses) l.vector l.i l.product l.sum
