-- `first_refusal::tests::passes_at` meets its contract. Assumes nothing.
use borrow.Author.Rules.{rules}
use native.Mathlib.Omega.{arith}
use Rattle.rules.specs.Rows.{rules_in}
use Rattle.first_refusal.proofs.Judged.{passes_4, passes_5, passes_6, passes_11, passes_27, passes_28, passes_other, passes_row, words_as, beside_body, beside_row}
use Rattle.first_refusal.proofs.Places.{given_is, at_body, at_rule, at_row}
use Rattle.first_refusal.proofs.tests.passes_at.Goals as goal

pub overflow_mul-i : goal.overflow_mul-i
overflow_mul-i c =
    let l = at_row c.args.kind c.args.rows c.args.bodies c.args.numbers.now c.args.words.now c.args.masses.now c.args.beside.now (rules_in c.args.rule_words.now c.args.rule_tolerances.now) c.requires.i_bound (λ z. omega (arith, c.if-number-eq4.true, z)) (λ z. omega (arith, c.if-number-eq4.true, z)) in let g = given_is c.args.kind c.args.rows c.args.bodies c.args.numbers.now c.args.words.now c.args.masses.now c.args.beside.now (rules_in c.args.rule_words.now c.args.rule_tolerances.now) c.requires.rule_tolerances_value in let q = g.words in search (rules, l, q)

pub words_at-requires : goal.words_at-requires
words_at-requires c =
    let l = at_row c.args.kind c.args.rows c.args.bodies c.args.numbers.now c.args.words.now c.args.masses.now c.args.beside.now (rules_in c.args.rule_words.now c.args.rule_tolerances.now) c.requires.i_bound (λ z. omega (arith, c.if-number-eq4.true, z)) (λ z. omega (arith, c.if-number-eq4.true, z)) in let g = given_is c.args.kind c.args.rows c.args.bodies c.args.numbers.now c.args.words.now c.args.masses.now c.args.beside.now (rules_in c.args.rule_words.now c.args.rule_tolerances.now) c.requires.rule_tolerances_value in omega (arith, l, g.words)

pub returns-then-number-eq4 : goal.returns-then-number-eq4
returns-then-number-eq4 c =
    passes_4 c.args.kind c.args.rows c.args.bodies c.args.numbers.now c.args.words.now c.args.masses.now c.args.beside.now (rules_in c.args.rule_words.now c.args.rule_tolerances.now) c.args.i c.if-number-eq4.true (words_as c.words_at.ensures c.row_words_fit.ensures)

pub opens_at-requires : goal.opens_at-requires
opens_at-requires c =
    let l = at_row c.args.kind c.args.rows c.args.bodies c.args.numbers.now c.args.words.now c.args.masses.now c.args.beside.now (rules_in c.args.rule_words.now c.args.rule_tolerances.now) c.requires.i_bound (λ z. omega (arith, c.if-number-eq5.true, z)) (λ z. omega (arith, c.if-number-eq5.true, z)) in let g = given_is c.args.kind c.args.rows c.args.bodies c.args.numbers.now c.args.words.now c.args.masses.now c.args.beside.now (rules_in c.args.rule_words.now c.args.rule_tolerances.now) c.requires.rule_tolerances_value in (omega (arith, l, g.numbers), omega (arith, l, g.words))

pub returns-then-number-eq5 : goal.returns-then-number-eq5
returns-then-number-eq5 c =
    passes_5 c.args.kind c.args.rows c.args.bodies c.args.numbers.now c.args.words.now c.args.masses.now c.args.beside.now (rules_in c.args.rule_words.now c.args.rule_tolerances.now) c.args.i c.if-number-eq5.true c.opens_at.ensures

pub body_fits-requires : goal.body_fits-requires
body_fits-requires c =
    let l = at_body c.args.kind c.args.rows c.args.bodies c.args.numbers.now c.args.words.now c.args.masses.now c.args.beside.now (rules_in c.args.rule_words.now c.args.rule_tolerances.now) c.requires.i_bound c.if-number-eq6.true in let g = given_is c.args.kind c.args.rows c.args.bodies c.args.numbers.now c.args.words.now c.args.masses.now c.args.beside.now (rules_in c.args.rule_words.now c.args.rule_tolerances.now) c.requires.rule_tolerances_value in (omega (arith, l, g.masses), beside_body c.args.kind c.args.rows c.args.bodies g.beside l)

pub returns-then-number-eq6 : goal.returns-then-number-eq6
returns-then-number-eq6 c =
    passes_6 c.args.kind c.args.rows c.args.bodies c.args.numbers.now c.args.words.now c.args.masses.now c.args.beside.now (rules_in c.args.rule_words.now c.args.rule_tolerances.now) c.args.i c.if-number-eq6.true c.body_fits.ensures

pub run_fits-requires : goal.run_fits-requires
run_fits-requires c =
    let l = at_row c.args.kind c.args.rows c.args.bodies c.args.numbers.now c.args.words.now c.args.masses.now c.args.beside.now (rules_in c.args.rule_words.now c.args.rule_tolerances.now) c.requires.i_bound (λ z. omega (arith, c.if-number-eq11.true, z)) (λ z. omega (arith, c.if-number-eq11.true, z)) in let g = given_is c.args.kind c.args.rows c.args.bodies c.args.numbers.now c.args.words.now c.args.masses.now c.args.beside.now (rules_in c.args.rule_words.now c.args.rule_tolerances.now) c.requires.rule_tolerances_value in (omega (arith, g.words), l)

pub returns-then-number-eq11 : goal.returns-then-number-eq11
returns-then-number-eq11 c =
    passes_11 c.args.kind c.args.rows c.args.bodies c.args.numbers.now c.args.words.now c.args.masses.now c.args.beside.now (rules_in c.args.rule_words.now c.args.rule_tolerances.now) c.args.i c.if-number-eq11.true c.run_fits.ensures

pub rule_fits-requires : goal.rule_fits-requires
rule_fits-requires c =
    let l = at_rule c.args.kind c.args.rows c.args.bodies c.args.numbers.now c.args.words.now c.args.masses.now c.args.beside.now (rules_in c.args.rule_words.now c.args.rule_tolerances.now) c.requires.i_bound c.if-number-eq27.true in let g = given_is c.args.kind c.args.rows c.args.bodies c.args.numbers.now c.args.words.now c.args.masses.now c.args.beside.now (rules_in c.args.rule_words.now c.args.rule_tolerances.now) c.requires.rule_tolerances_value in (l, omega (arith, g.rule_words))

pub returns-then-number-eq27 : goal.returns-then-number-eq27
returns-then-number-eq27 c =
    passes_27 c.args.kind c.args.rows c.args.bodies c.args.numbers.now c.args.words.now c.args.masses.now c.args.beside.now (rules_in c.args.rule_words.now c.args.rule_tolerances.now) c.args.i c.if-number-eq27.true c.rule_fits.ensures

pub overflow_mul-i-then-number-eq28 : goal.overflow_mul-i-then-number-eq28
overflow_mul-i-then-number-eq28 c =
    let l = at_row c.args.kind c.args.rows c.args.bodies c.args.numbers.now c.args.words.now c.args.masses.now c.args.beside.now (rules_in c.args.rule_words.now c.args.rule_tolerances.now) c.requires.i_bound (λ z. omega (arith, c.if-number-eq28.true, z)) (λ z. omega (arith, c.if-number-eq28.true, z)) in let g = given_is c.args.kind c.args.rows c.args.bodies c.args.numbers.now c.args.words.now c.args.masses.now c.args.beside.now (rules_in c.args.rule_words.now c.args.rule_tolerances.now) c.requires.rule_tolerances_value in let q = g.words in search (rules, l, q)

pub overflow_add-i : goal.overflow_add-i
overflow_add-i c =
    let l = at_row c.args.kind c.args.rows c.args.bodies c.args.numbers.now c.args.words.now c.args.masses.now c.args.beside.now (rules_in c.args.rule_words.now c.args.rule_tolerances.now) c.requires.i_bound (λ z. omega (arith, c.if-number-eq28.true, z)) (λ z. omega (arith, c.if-number-eq28.true, z)) in let g = given_is c.args.kind c.args.rows c.args.bodies c.args.numbers.now c.args.words.now c.args.masses.now c.args.beside.now (rules_in c.args.rule_words.now c.args.rule_tolerances.now) c.requires.rule_tolerances_value in let q = g.words in search (rules, l, q)

pub offset_bounds-words-i : goal.offset_bounds-words-i
offset_bounds-words-i c =
    let l = at_row c.args.kind c.args.rows c.args.bodies c.args.numbers.now c.args.words.now c.args.masses.now c.args.beside.now (rules_in c.args.rule_words.now c.args.rule_tolerances.now) c.requires.i_bound (λ z. omega (arith, c.if-number-eq28.true, z)) (λ z. omega (arith, c.if-number-eq28.true, z)) in let g = given_is c.args.kind c.args.rows c.args.bodies c.args.numbers.now c.args.words.now c.args.masses.now c.args.beside.now (rules_in c.args.rule_words.now c.args.rule_tolerances.now) c.requires.rule_tolerances_value in let q = g.words in search (rules, l, q)

pub bounds-words-i : goal.bounds-words-i
bounds-words-i c =
    let l = at_row c.args.kind c.args.rows c.args.bodies c.args.numbers.now c.args.words.now c.args.masses.now c.args.beside.now (rules_in c.args.rule_words.now c.args.rule_tolerances.now) c.requires.i_bound (λ z. omega (arith, c.if-number-eq28.true, z)) (λ z. omega (arith, c.if-number-eq28.true, z)) in let g = given_is c.args.kind c.args.rows c.args.bodies c.args.numbers.now c.args.words.now c.args.masses.now c.args.beside.now (rules_in c.args.rule_words.now c.args.rule_tolerances.now) c.requires.rule_tolerances_value in let q = g.words in search (rules, l, q)

pub overflow_mul-i-then-number-eq28-2 : goal.overflow_mul-i-then-number-eq28-2
overflow_mul-i-then-number-eq28-2 c =
    let l = at_row c.args.kind c.args.rows c.args.bodies c.args.numbers.now c.args.words.now c.args.masses.now c.args.beside.now (rules_in c.args.rule_words.now c.args.rule_tolerances.now) c.requires.i_bound (λ z. omega (arith, c.if-number-eq28.true, z)) (λ z. omega (arith, c.if-number-eq28.true, z)) in let g = given_is c.args.kind c.args.rows c.args.bodies c.args.numbers.now c.args.words.now c.args.masses.now c.args.beside.now (rules_in c.args.rule_words.now c.args.rule_tolerances.now) c.requires.rule_tolerances_value in let q = g.words in search (rules, l, q)

pub offset_bounds-words-i-then-number-eq28 : goal.offset_bounds-words-i-then-number-eq28
offset_bounds-words-i-then-number-eq28 c =
    let l = at_row c.args.kind c.args.rows c.args.bodies c.args.numbers.now c.args.words.now c.args.masses.now c.args.beside.now (rules_in c.args.rule_words.now c.args.rule_tolerances.now) c.requires.i_bound (λ z. omega (arith, c.if-number-eq28.true, z)) (λ z. omega (arith, c.if-number-eq28.true, z)) in let g = given_is c.args.kind c.args.rows c.args.bodies c.args.numbers.now c.args.words.now c.args.masses.now c.args.beside.now (rules_in c.args.rule_words.now c.args.rule_tolerances.now) c.requires.rule_tolerances_value in let q = g.words in search (rules, l, q)

pub bounds-words-i-then-number-eq28 : goal.bounds-words-i-then-number-eq28
bounds-words-i-then-number-eq28 c =
    let l = at_row c.args.kind c.args.rows c.args.bodies c.args.numbers.now c.args.words.now c.args.masses.now c.args.beside.now (rules_in c.args.rule_words.now c.args.rule_tolerances.now) c.requires.i_bound (λ z. omega (arith, c.if-number-eq28.true, z)) (λ z. omega (arith, c.if-number-eq28.true, z)) in let g = given_is c.args.kind c.args.rows c.args.bodies c.args.numbers.now c.args.words.now c.args.masses.now c.args.beside.now (rules_in c.args.rule_words.now c.args.rule_tolerances.now) c.requires.rule_tolerances_value in let q = g.words in search (rules, l, q)

pub one_rule-r-requires : goal.one_rule-r-requires
one_rule-r-requires c =
    let g = given_is c.args.kind c.args.rows c.args.bodies c.args.numbers.now c.args.words.now c.args.masses.now c.args.beside.now (rules_in c.args.rule_words.now c.args.rule_tolerances.now) c.requires.rule_tolerances_value in omega (arith, g.rule_words)

pub returns-then-number-eq28 : goal.returns-then-number-eq28
returns-then-number-eq28 c =
    passes_28 c.args.kind c.args.rows c.args.bodies c.args.numbers.now c.args.words.now c.args.masses.now c.args.beside.now (rules_in c.args.rule_words.now c.args.rule_tolerances.now) c.args.i c.if-number-eq28.true c.one_rule-r.ensures

pub returns-then-not-number : goal.returns-then-not-number
returns-then-not-number c =
    passes_other c.args.kind c.args.rows c.args.bodies c.args.numbers.now c.args.words.now c.args.masses.now c.args.beside.now (rules_in c.args.rule_words.now c.args.rule_tolerances.now) c.args.i c.if-number-eq4.false c.if-number-eq5.false c.if-number-eq6.false c.if-number-eq11.false c.if-number-eq27.false c.if-number-eq28.false c.if-not-number.true-raw

pub row_refusal-refusal-requires : goal.row_refusal-refusal-requires
row_refusal-refusal-requires c =
    let l = at_row c.args.kind c.args.rows c.args.bodies c.args.numbers.now c.args.words.now c.args.masses.now c.args.beside.now (rules_in c.args.rule_words.now c.args.rule_tolerances.now) c.requires.i_bound c.if-number-eq6.false c.if-number-eq27.false in let g = given_is c.args.kind c.args.rows c.args.bodies c.args.numbers.now c.args.words.now c.args.masses.now c.args.beside.now (rules_in c.args.rule_words.now c.args.rule_tolerances.now) c.requires.rule_tolerances_value in (omega (arith, l, g.numbers), omega (arith, l, g.words), omega (arith, g.masses), omega (arith, g.rule_words), beside_row c.args.kind c.args.rows c.args.bodies g.beside l)

pub returns : goal.returns
returns c =
    passes_row c.args.kind c.args.rows c.args.bodies c.args.numbers.now c.args.words.now c.args.masses.now c.args.beside.now (rules_in c.args.rule_words.now c.args.rule_tolerances.now) c.args.i c.if-number-eq4.false c.if-number-eq5.false c.if-number-eq6.false c.if-number-eq11.false c.if-number-eq27.false c.if-number-eq28.false c.if-not-number.false-raw c.row_refusal-refusal.ensures
