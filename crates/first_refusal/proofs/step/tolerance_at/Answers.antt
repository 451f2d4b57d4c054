-- `first_refusal::step::tolerance_at` meets its contract. Assumes nothing.
use Rattle.first_refusal.proofs.Judged.{tolerance_some, tolerance_none}
use Rattle.first_refusal.proofs.step.tolerance_at.Goals as goal

pub one_rule-r-requires : goal.one_rule-r-requires
one_rule-r-requires c =
    c.requires.1

pub returns-then-r-rule_tolerances : goal.returns-then-r-rule_tolerances
returns-then-r-rule_tolerances c =
    tolerance_some c.args.words.now c.args.rule_words.now c.args.rule_tolerances.now c.args.i c.one_rule-r.ensures

pub returns : goal.returns
returns c =
    tolerance_none c.args.words.now c.args.rule_words.now c.args.rule_tolerances.now c.args.i c.one_rule-r.ensures c.if-r-rule_tolerances.false
