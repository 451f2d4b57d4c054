-- `first_refusal::run::run_length` meets its contract: the rows below k have the owner. Assumes nothing.
use mathlib.Core.Path.{refl}
use Rattle.first_refusal.proofs.Led.{led, led_none, led_more, led_stop, led_end}
use Rattle.first_refusal.proofs.Runs.{run_is, owner_same, owner_other}
use Rattle.first_refusal.proofs.run.run_length.Goals as goal

pub loop-k-init : goal.loop-k-init
loop-k-init c = led_none

pub returns-then-words-start : goal.returns-then-words-start
returns-then-words-start c =
    run_is c.args.words.now c.args.start c.args.rows
    (led_stop c.loop-k.invariant c.loop-k-test.true (owner_other c.args.words.now c.args.start _ c.if-words-start.true) refl)

pub loop-k-preserved : goal.loop-k-preserved
loop-k-preserved c =
    led_more c.loop-k.invariant c.loop-k-test.true (owner_same c.args.words.now c.args.start _ c.if-words-start.false) refl

pub returns : goal.returns
returns c = run_is c.args.words.now c.args.start c.args.rows (led_end c.loop-k.invariant (search led))
