-- `mass_operator::product::values` meets its contract: the rows below i have their value, and those are summed. Assumes nothing.
use native.Mathlib.Omega.{arith}
use lib.ListN.{length}
use Rattle.loops.proofs.Loop.{loops}
use Rattle.mass_operator.proofs.Room.{linked_a, linked_b}
use Rattle.mass_operator.proofs.Values.{valued_none, valued_all}
use Rattle.mass_operator.proofs.product.values.Goals as goal

ruleset known = (linked_a, linked_b, loops)

pub loop-i-init : goal.loop-i-init
loop-i-init c =
    valued_none _ (omega (arith, c.requires.responses_len.1))

pub value_run-run-requires : goal.value_run-run-requires
value_run-run-requires c =
    search known

pub loop-i-smaller : goal.loop-i-smaller
loop-i-smaller c =
    omega (arith, c.value_run-run.ensures.0, c.value_run-run.ensures.1.within)

pub loop-i-preserved : goal.loop-i-preserved
loop-i-preserved c =
    c.value_run-run.ensures.1

pub returns : goal.returns
returns c =
    let all = valued_all (length c.args.product.now) (omega (arith, c.requires.responses_len.1)) c.loop-i.invariant (search known) in record { product_after = all.0; value = all.1 }
