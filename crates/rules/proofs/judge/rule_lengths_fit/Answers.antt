-- `rules::judge::rule_lengths_fit` meets its contract. Assumes nothing.
use borrow.Author.Tests.{lt-leb, le-leb}
use Rattle.rules.specs.Rules.{rule_lengths_fit}
use Rattle.rules.proofs.judge.rule_lengths_fit.Goals as goal

pub returns-then-tolerances-gt64 : goal.returns-then-tolerances-gt64
unfolding rule_lengths_fit
returns-then-tolerances-gt64 c =
    rw (lt-leb _ 64 c.if-tolerances-gt64.true)

pub returns : goal.returns
unfolding rule_lengths_fit
returns c =
    rw (le-leb _ 64 c.if-tolerances-gt64.false)
