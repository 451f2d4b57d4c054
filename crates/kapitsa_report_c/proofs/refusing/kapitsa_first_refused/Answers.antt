-- `kapitsa_report_c::refusing::kapitsa_first_refused` meets its contract. Assumes nothing.
use mathlib.Core.Path.{ap, ◌∙◌}
use Rattle.kapitsa_joint.specs.declared.kind.Kind.{Kind}
use Rattle.rules.specs.Rows.{rules_in}
use Rattle.first_refusal.specs.Room.{place_in}
use Rattle.kapitsa_report_c.specs.Refusing.{kind_for}
use Rattle.kapitsa_report_c.proofs.Told.{told_3, two_long, told_on}
use Rattle.kapitsa_report_c.proofs.refusing.kapitsa_first_refused.Goals as goal

pub returns-then-not-velocities-place : goal.returns-then-not-velocities-place
returns-then-not-velocities-place c =
    told_3 c.args.velocities c.args.place.now _ c.if-not-velocities-place.true-raw

pub tell_place-requires : goal.tell_place-requires
tell_place-requires c =
    two_long c.args.velocities c.args.place.now (place_in (kind_for c.args.velocities) c.args.rows c.args.bodies c.args.numbers.now c.args.words.now c.args.masses.now c.args.beside.now (rules_in c.args.rule_words.now c.args.rule_tolerances.now) c.args.number c.args.limit) c.if-not-velocities-place.false-raw

pub returns : goal.returns
returns c =
    told_on c.args.velocities c.args.place.now (place_in (kind_for c.args.velocities) c.args.rows c.args.bodies c.args.numbers.now c.args.words.now c.args.masses.now c.args.beside.now (rules_in c.args.rule_words.now c.args.rule_tolerances.now) c.args.number c.args.limit) c.if-not-velocities-place.false-raw (c.first_refused-found.ensures ∙ ap (λ (k : Kind). place_in k c.args.rows c.args.bodies c.args.numbers.now c.args.words.now c.args.masses.now c.args.beside.now (rules_in c.args.rule_words.now c.args.rule_tolerances.now) c.args.number c.args.limit) c.kind_for.ensures) c.tell_place.ensures
