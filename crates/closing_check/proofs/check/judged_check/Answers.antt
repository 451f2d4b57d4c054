-- `closing_check::check::judged_check` meets its contract. Assumes nothing.
use mathlib.Core.Path.{ap, ◌∙◌}
use borrow.Author.Rules.{rules}
use Rattle.std.proofs.lemmas.Result.{err_from_is_err_and}
use Rattle.refusals.specs.Told.{told}
use Rattle.rules.specs.Rows.{rules_in}
use native.Mathlib.Omega.{arith}
use Rattle.mass_operator.specs.Flat.{coefficients}
use Rattle.check_work.proofs.Bodies.{valid_same}
use Rattle.closing_check.proofs.Judged.{passed_judged, refused_judged, ruled_judged, valid_judged_lem}
use Rattle.closing_check.proofs.Measured.{named_is, reached_is, named_none, reached_none, verdict_is}
use Rattle.closing_check.proofs.check.judged_check.Goals as goal

pub judge_table-requires : goal.judge_table-requires
judge_table-requires c = (
  omega (arith, c.requires.room.numbers),
  omega (arith, c.requires.room.words),
  omega (arith, c.requires.room.masses),
  omega (arith, c.requires.room.multipliers),
  omega (arith, c.requires.rule_words_len.0),
  c.requires.rows_bound.1,
)

pub returns-in_err-judge_table : goal.returns-in_err-judge_table
returns-in_err-judge_table c =
    let e = ap told (err_from_is_err_and c.from_residual.result c.from_residual.ensures.1).1 in
    record { value = refused_judged _ e (search rules); rule_numbers_after = named_none e _ _; reached = reached_none e _ _ }

pub measure_rows-requires : goal.measure_rows-requires
measure_rows-requires c =
    record {
      multipliers_in_bounds = (
        omega (arith, c.requires.room.numbers, c.requires.room.multipliers),
        omega (arith, c.requires.room.words, c.requires.room.multipliers),
        omega (arith, c.requires.room.masses),
      );
      impulses_len = (
        c.requires.room.impulses,
        c.requires.room.size_impulses,
        omega (arith, c.requires.room.values, c.requires.room.multipliers),
        omega (arith, c.requires.room.sizes, c.requires.room.multipliers),
      );
      valid = valid_same c.requires.room.multipliers
          (valid_judged_lem c.args.kind _ _ _ _ _ _ _ (coefficients c.args.given.now) _ c.in_ok-judge_table.ensures);
    }

pub measure_reaches-requires : goal.measure_reaches-requires
measure_reaches-requires c = (
  c.requires.rows_bound.0,
  omega (arith, c.requires.room.numbers),
  omega (arith, c.sizes-1.given, c.requires.room.sizes),
  c.values-1.given ∙ c.requires.room.values,
  c.requires.rows_bound.1,
)

pub name_rules-requires : goal.name_rules-requires
name_rules-requires c =
    (omega (arith, c.requires.rule_words_len.2, c.requires.room.words), omega (arith, c.requires.rule_words_len.0), c.requires.rule_words_len.1)

pub verdict-requires : goal.verdict-requires
verdict-requires c =
    record {
      rows_in_bounds = (
        omega (arith, c.requires.room.words),
        omega (arith, c.values-2-1.given, c.values-1.given, c.requires.room.values),
        omega (arith, c.requires.rule_words_len.0),
      );
      rows_value = ruled_judged c.args.kind _ _ _ _ _ _ _ (coefficients c.args.given.now) _
          c.in_ok-judge_table.ensures;
    }

pub returns : goal.returns
returns c =
    record {
      value = verdict_is c.args.kind _ c.args.given.now _
          c.measure_rows.ensures.measured
          c.requires.room.multipliers
          c.measure_reaches.ensures c.verdict.ensures
          (passed_judged _
          c.in_ok-judge_table.ensures);
      rule_numbers_after = named_is (rules_in c.args.rule_words.now c.args.rule_tolerances.now) c.args.rows c.args.bodies c.args.numbers.now c.args.words.now c.args.masses.now
          (coefficients c.args.multipliers.now) c.args.kind (coefficients c.args.given.now) c.args.placed _ c.requires.rule_words_len.2 c.name_rules.ensures;
      reached = reached_is c.args.kind _ c.args.given.now _
          c.measure_rows.ensures.measured
          c.requires.room.multipliers
          c.measure_reaches.ensures;
    }
