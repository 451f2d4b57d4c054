-- `first_refusal::first::first_place` meets its contract. Assumes nothing.
use borrow.Author.Rules.{rules}
use Rattle.rules.specs.Rows.{rules_in}
use Rattle.first_refusal.proofs.Places.{count_is, place_none, place_body, place_rule, place_row, first_few}
use Rattle.first_refusal.proofs.first.first_place.Goals as goal

pub first_failing-first-requires : goal.first_failing-first-requires
first_failing-first-requires c =
    record { rule_tolerances_value = c.requires; count_value = count_is c.args.kind c.args.rows c.args.bodies c.args.numbers.now c.args.words.now c.args.masses.now c.args.beside.now (rules_in c.args.rule_words.now c.args.rule_tolerances.now) c.args.number c.count_of-count.ensures }

pub returns-then-count-first : goal.returns-then-count-first
returns-then-count-first c =
    place_none c.args.kind c.args.rows c.args.bodies c.args.numbers.now c.args.words.now c.args.masses.now c.args.beside.now (rules_in c.args.rule_words.now c.args.rule_tolerances.now) c.args.number c.count_of-count.ensures c.first_failing-first.ensures c.if-count-first.true

pub overflow_cast-result : goal.overflow_cast-result
overflow_cast-result c =
    let few = first_few c.args.kind c.args.rows c.args.bodies c.args.numbers.now c.args.words.now c.args.masses.now c.args.beside.now (rules_in c.args.rule_words.now c.args.rule_tolerances.now) c.args.number c.count_of-count.ensures c.first_failing-first.ensures c.requires in search (rules, few)

pub returns-then-number-eq6 : goal.returns-then-number-eq6
returns-then-number-eq6 c =
    place_body c.args.kind c.args.rows c.args.bodies c.args.numbers.now c.args.words.now c.args.masses.now c.args.beside.now (rules_in c.args.rule_words.now c.args.rule_tolerances.now) c.args.number c.count_of-count.ensures c.first_failing-first.ensures c.if-count-first.false c.if-number-eq6.true

pub overflow_cast-result-then-number-eq27 : goal.overflow_cast-result-then-number-eq27
overflow_cast-result-then-number-eq27 c =
    let few = first_few c.args.kind c.args.rows c.args.bodies c.args.numbers.now c.args.words.now c.args.masses.now c.args.beside.now (rules_in c.args.rule_words.now c.args.rule_tolerances.now) c.args.number c.count_of-count.ensures c.first_failing-first.ensures c.requires in search (rules, few)

pub returns-then-number-eq27 : goal.returns-then-number-eq27
returns-then-number-eq27 c =
    place_rule c.args.kind c.args.rows c.args.bodies c.args.numbers.now c.args.words.now c.args.masses.now c.args.beside.now (rules_in c.args.rule_words.now c.args.rule_tolerances.now) c.args.number c.count_of-count.ensures c.first_failing-first.ensures c.if-count-first.false c.if-number-eq27.true

pub overflow_cast-result-2 : goal.overflow_cast-result-2
overflow_cast-result-2 c =
    let few = first_few c.args.kind c.args.rows c.args.bodies c.args.numbers.now c.args.words.now c.args.masses.now c.args.beside.now (rules_in c.args.rule_words.now c.args.rule_tolerances.now) c.args.number c.count_of-count.ensures c.first_failing-first.ensures c.requires in search (rules, few)

pub returns : goal.returns
returns c =
    place_row c.args.kind c.args.rows c.args.bodies c.args.numbers.now c.args.words.now c.args.masses.now c.args.beside.now (rules_in c.args.rule_words.now c.args.rule_tolerances.now) c.args.number c.count_of-count.ensures c.first_failing-first.ensures c.if-count-first.false c.if-number-eq6.false c.if-number-eq27.false
