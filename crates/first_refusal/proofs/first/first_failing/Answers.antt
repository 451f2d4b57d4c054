-- `first_refusal::first::first_failing` meets its contract: the indices below i pass. Assumes nothing.
use native.Mathlib.Omega.{arith}
use Rattle.first_refusal.proofs.Led.{led, led_none, led_more, led_stop, led_end}
use Rattle.first_refusal.proofs.first.first_failing.Goals as goal

pub loop-i-init : goal.loop-i-init
loop-i-init c = led_none

pub passes_at-requires : goal.passes_at-requires
passes_at-requires c =
    record { rule_tolerances_value = c.requires.rule_tolerances_value; i_bound = omega (arith, c.requires.count_value, c.loop-i-test.true) }

pub returns-then-not-passes_at : goal.returns-then-not-passes_at
returns-then-not-passes_at c = led_stop c.loop-i.invariant c.loop-i-test.true c.passes_at.ensures (search led)

pub loop-i-preserved : goal.loop-i-preserved
loop-i-preserved c = led_more c.loop-i.invariant c.loop-i-test.true c.passes_at.ensures (search led)

pub returns : goal.returns
returns c = led_end c.loop-i.invariant (search led)
