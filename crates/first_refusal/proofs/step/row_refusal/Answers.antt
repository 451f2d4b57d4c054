-- `first_refusal::step::row_refusal` meets its contract. Assumes nothing.
use native.Mathlib.Omega.{arith}
use Prim.Native.Nat.{◌+◌, ◌-◌, ◌*◌}
use Rattle.rules.specs.Rows.{rules_in}
use Rattle.first_refusal.proofs.Judged.{refusal_none, refusal_told}
use Rattle.first_refusal.proofs.Parts.{part_same, numbers_long, words_long}
use mathlib.Core.Path.{refl}
use Rattle.first_refusal.proofs.step.row_refusal.Goals as goal

pub tolerance_at-tolerance-requires : goal.tolerance_at-tolerance-requires
tolerance_at-tolerance-requires c =
    (c.requires.1, c.requires.3)

pub start_at-start-requires : goal.start_at-start-requires
start_at-start-requires c =
    (c.requires.0, c.requires.4)

pub begin-begun-requires : goal.begin-begun-requires
begin-begun-requires c =
    (numbers_long c.args.numbers.now c.args.i {m = 27 * c.args.i + 27 - 27 * c.args.i} (omega arith) c.requires.0, words_long c.args.words.now c.args.i {m = 8 * c.args.i + 8 - 8 * c.args.i} (omega arith) c.requires.1, c.requires.2, refl, refl)

pub returns-in-Ok : goal.returns-in-Ok
returns-in-Ok c =
    refusal_none c.args.kind c.args.rows c.args.bodies c.args.numbers.now c.args.words.now c.args.masses.now c.args.beside.now (rules_in c.args.rule_words.now c.args.rule_tolerances.now) c.args.i c.tolerance_at-tolerance.ensures c.start_at-start.ensures _ _ _ (part_same {m = 27 * c.args.i + 27 - 27 * c.args.i} {n = 27} _ (omega arith)) (part_same {m = 8 * c.args.i + 8 - 8 * c.args.i} {n = 8} _ (omega arith)) c.begin-begun.ensures.begun_held.judgement c.in-Ok.is

pub returns-in-Err : goal.returns-in-Err
returns-in-Err c =
    refusal_told c.args.kind c.args.rows c.args.bodies c.args.numbers.now c.args.words.now c.args.masses.now c.args.beside.now (rules_in c.args.rule_words.now c.args.rule_tolerances.now) c.args.i c.tolerance_at-tolerance.ensures c.start_at-start.ensures _ _ _ (part_same {m = 27 * c.args.i + 27 - 27 * c.args.i} {n = 27} _ (omega arith)) (part_same {m = 8 * c.args.i + 8 - 8 * c.args.i} {n = 8} _ (omega arith)) c.begin-begun.ensures.begun_held.judgement _ c.in-Err.is c.number.ensures
