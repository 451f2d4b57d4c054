-- `first_refusal::run::run_begins` meets its contract. Assumes nothing.
use Rattle.first_refusal.proofs.Runs.{begins_first, begins_later}
use Rattle.first_refusal.proofs.run.run_begins.Goals as goal

pub returns-then-i-eq0 : goal.returns-then-i-eq0
returns-then-i-eq0 c =
    begins_first c.args.words.now c.if-i-eq0.true

pub returns : goal.returns
returns c =
    begins_later c.args.words.now c.args.i c.if-i-eq0.false
