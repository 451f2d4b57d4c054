-- `first_refusal::first::first_refused` meets its contract. Assumes nothing.
use Rattle.rules.specs.Rows.{rules_in}
use Rattle.first_refusal.proofs.Places.{fits_is, refused_none, refused_limit, refused_first}
use Rattle.first_refusal.proofs.first.first_refused.Goals as goal

pub returns-then-not-given_fits : goal.returns-then-not-given_fits
returns-then-not-given_fits c =
    refused_none c.args.kind c.args.rows c.args.bodies c.args.numbers.now c.args.words.now c.args.masses.now c.args.beside.now (rules_in c.args.rule_words.now c.args.rule_tolerances.now) c.given_fits.ensures c.args.number c.args.limit c.if-not-given_fits.true-raw

pub returns-then-number-rows : goal.returns-then-number-rows
returns-then-number-rows c =
    refused_limit c.args.kind c.args.rows c.args.bodies c.args.numbers.now c.args.words.now c.args.masses.now c.args.beside.now (rules_in c.args.rule_words.now c.args.rule_tolerances.now) c.given_fits.ensures c.args.number c.args.limit c.if-not-given_fits.false-raw c.if-number-rows.true

pub first_place-requires : goal.first_place-requires
first_place-requires c =
    fits_is c.args.kind c.args.rows c.args.bodies c.args.numbers.now c.args.words.now c.args.masses.now c.args.beside.now (rules_in c.args.rule_words.now c.args.rule_tolerances.now) c.given_fits.ensures c.args.number c.args.limit c.if-not-given_fits.false-raw

pub returns : goal.returns
returns c =
    refused_first c.args.kind c.args.rows c.args.bodies c.args.numbers.now c.args.words.now c.args.masses.now c.args.beside.now (rules_in c.args.rule_words.now c.args.rule_tolerances.now) c.given_fits.ensures c.args.number c.args.limit c.if-not-given_fits.false-raw c.if-number-rows.false c.first_place.ensures
