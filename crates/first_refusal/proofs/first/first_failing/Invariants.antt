-- `first_refusal::first::first_failing` meets its contract. Assumes nothing.
use Rattle.rules.specs.Rows.{rules_in}
use Rattle.first_refusal.specs.Place.{passes_at}
use Rattle.first_refusal.proofs.Led.{Led}
use Rattle.first_refusal.proofs.first.first_failing.Given as goal

abbrev pub invariant-loop-i : goal.invariant-loop-i
invariant-loop-i l =
    Led (passes_at l.kind l.rows l.bodies l.numbers l.words l.masses l.beside (rules_in l.rule_words l.rule_tolerances) l.number) l.count l.i
