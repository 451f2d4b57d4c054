-- `mass_operator::product::value_run` meets its contract: the rows below i have their value, and those are summed. Assumes nothing.
use mathlib.Core.Path.{refl}
use native.Mathlib.Omega.{arith}
use borrow.Author.Rules.{rules}
use Rattle.mass_operator.proofs.BodyPairs.{value_held, value_on}
use Rattle.mass_operator.proofs.Values.{valued_more, valued_end}
use Rattle.mass_operator.proofs.product.value_run.Goals as goal

pub loop-i-init : goal.loop-i-init
loop-i-init c =
    let value = value_held _ _ _ _ c.body_pair_at-pair.ensures refl in
    valued_more c.requires.valued (omega arith) value c.put_value-sum.ensures.product_after c.put_value-sum.ensures.value

pub loop-i-preserved : goal.loop-i-preserved
loop-i-preserved c =
    let value = value_on _ _ _ _ _ c.body_pair_at-pair.ensures c.on_bodies.ensures (search rules) in
    valued_more c.loop-i.invariant (omega arith) value c.put_value-sum-in-loop-i.ensures.product_after c.put_value-sum-in-loop-i.ensures.value

pub returns : goal.returns
returns c = (omega arith, valued_end _ (omega arith) c.loop-i.invariant (omega arith))
