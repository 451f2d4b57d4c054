-- Document 01, refusal 3 of the closing check. Each test is true where the refusal does not apply; 4, 6 and 7 are those of joint_refusals, 18 that of check_range.
use Rattle.std.specs.Prelude.{ℕ, ◌*◌, Bool, ◌&&◌, List, eqb, length, Float}
use Rattle.joint_refusals.specs.Counts.{table_counts_fit, rows_fit}
use Rattle.rules.specs.Rules.{rule_lengths_fit}
use Rattle.kapitsa_joint.specs.Kind.{by_kind}
use Rattle.kapitsa_joint.specs.declared.kind.Kind.{Kind}
use Rattle.check_refusals.specs.declared.fit.TableLengths.{TableLengths}
use Rattle.check_refusals.specs.declared.fit.WorkLengths.{WorkLengths}

-- what is lent beside the table: three doubles of a centre a body or, for velocities, a residual a row
abbrev pub beside_of : Kind → ℕ → ℕ → ℕ
beside_of kind n b = by_kind kind (3 * b) n

-- "a lent slice has not the length the counts call for"
unfoldable pub table_fits : Kind → ℕ → ℕ → TableLengths → Bool
table_fits kind n b l = (((rows_fit n b l.numbers l.words l.masses && eqb l.beside (beside_of kind n b)) && eqb l.multipliers n) && rule_lengths_fit l.rule_words l.rule_tolerances) && eqb l.rule_numbers n

-- of what a caller gives
unfoldable pub given_fits : Kind → ℕ → ℕ → TableLengths → Bool
given_fits kind n b l = table_counts_fit n b && table_fits kind n b l

unfoldable pub work_fits : ℕ → ℕ → WorkLengths → Bool
work_fits n b l = ((eqb l.impulses (6 * b) && eqb l.size_impulses (6 * b)) && eqb l.values n) && eqb l.sizes n

unfoldable pub passes3 : Kind → ℕ → ℕ → TableLengths → WorkLengths → Bool
passes3 kind n b t w = given_fits kind n b t && work_fits n b w

-- the lengths of the lent lists
abbrev pub table_lengths : List Float → List ℕ → List Float → List Float → List Float → List ℕ → List Float → List ℕ → TableLengths
table_lengths numbers words masses beside multipliers rule_words rule_tolerances rule_numbers = record {
  numbers = length numbers;
  words = length words;
  masses = length masses;
  beside = length beside;
  multipliers = length multipliers;
  rule_words = length rule_words;
  rule_tolerances = length rule_tolerances;
  rule_numbers = length rule_numbers;
}
