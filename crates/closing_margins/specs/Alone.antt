-- Document 02, m: "Judging one row alone, the others by their own, by any tolerance from 0 but below its number, where that number is above zero, turns the verdict to open; judging it by the number itself does not."
use Rattle.std.specs.Prelude.{ℕ, ◌≡◌, Bool, true, cond, eqb, Float}
use Rattle.std.specs.Float.Ieee.{le, lt}
use Rattle.loops.specs.Run.{going}
use Rattle.loops.specs.Cleared.{plus_zero}
use Rattle.check_range.specs.Closing.{Closing}
use Rattle.check_measure.specs.Verdict.{reach, largest_reaches}
use Rattle.check_answer.specs.Answer.{check_of}
use Rattle.check_answer.specs.declared.Verdict.TheVariants.{Closed, Open}

-- the check c with row i judged by x, "the others by their own", and all else c's. What is judged of the tolerances stays: 26 lets each such x pass (`alone_fits`).
abbrev pub alone_by : Closing → ℕ → Float → Closing
alone_by c i x = record {
  table = c.table;
  error = c.error;
  listed = c.listed;
  tolerance = λ j. cond (eqb j i) x (c.tolerance j);
  rule = c.rule;
  tolerance_tests = c.tolerance_tests;
  lent = c.lent;
  placed = c.placed;
}

-- of row i of a closed check. A number that some x from 0 is below is above zero.
pub record Margin (fits : Bool) (c : Closing) (i : ℕ) : Type 0 where
  pub opens : (x : Float) → le plus_zero x ≡ true → lt x (reach c i) ≡ true → check_of fits (alone_by c i x) ≡ going (Open (largest_reaches c))
  pub keeps : check_of fits (alone_by c i (reach c i)) ≡ going (Closed (largest_reaches c))
