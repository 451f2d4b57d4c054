-- `rules::judge::rule_fits` meets its contract. Assumes nothing.
use Rattle.rules.specs.Rules.{rule_fits}
use Rattle.rules.proofs.judge.rule_fits.Goals as goal

pub returns : goal.returns
unfolding rule_fits
returns c =
    rw c.tolerance_fits.ensures
