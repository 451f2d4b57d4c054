-- `solve_by_rules::lent::rules_lent` meets its contract. Assumes nothing.
use Rattle.loops.proofs.Loop.{loops}
use Rattle.solve_by_rules.specs.Ruled.{rules_lent}
use Rattle.solve_by_rules.proofs.lent.rules_lent.Goals as goal

pub rule_lengths_fit-requires : goal.rule_lengths_fit-requires
unfolding rules_lent
rule_lengths_fit-requires c =
    search loops

pub wide-requires : goal.wide-requires
unfolding rules_lent
wide-requires c =
    search loops

pub returns : goal.returns
unfolding rules_lent
returns c =
    rw (c.rule_lengths_fit.ensures, c.wide.ensures)
