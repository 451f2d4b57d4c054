-- The answer of the closing check, and what it means. Document 01: "No rows, and no refusal: closed."
use Rattle.std.specs.Prelude.{ℕ, ◌<◌, ◌≡◌, Bool, false, true, List, ◌↔◌, T, pos, ◌+ℤ◌, ◌*ℤ◌, ◌≤ℤ◌, ◌<ℤ◌}
use Rattle.std.specs.Float.Ieee.{le}
use Rattle.std.specs.Float.Ieee.Scale.{finite}
use Rattle.loops.specs.Run.{Run, next, check, going, ended}
use Rattle.loops.specs.Judge.{judge, AllPass, FirstToFail}
use Rattle.loops.specs.Cleared.{plus_zero}
use Rattle.loops.specs.Tabulate.{tabulate}
use Rattle.kapitsa_joint.specs.Maxima.{no_maxima, maximum_of}
use Rattle.kapitsa_joint.specs.declared.maxima.Maxima.{Maxima}
use Rattle.check_range.specs.Closing.{Closing}
use Rattle.check_refusals.specs.Judged.{judgements}
use Rattle.check_measure.specs.Verdict.{row_dimension, radius, reach, within, closes, largest_reaches}
use Rattle.check_measure.specs.Gap.{gap, scaled}
use Rattle.check_answer.specs.declared.Verdict.{Verdict}
use Rattle.check_answer.specs.declared.Verdict.TheVariants.{Closed, Open}

-- what a check answers: it goes on with a verdict, or ends with a refusal's number
abbrev pub CheckAnswer : Type 0
CheckAnswer = Run Verdict ℕ

-- document 01's number for each case, as a sheet and a recorded list have it: "verdict (0 open, 1 closed, 18)"
abbrev pub number_of : CheckAnswer → ℕ
number_of (going (Closed gap)) = 1
number_of (going (Open gap)) = 0
number_of (ended n) = n

-- the measured gap of a verdict
abbrev pub gap_in : Verdict → Maxima
gap_in (Closed gap) = gap
gap_in (Open gap) = gap

-- the measured gap; of a refusal none, and then it is twice +0.0
abbrev pub gap_of : CheckAnswer → Maxima
gap_of (going verdict) = gap_in verdict
gap_of (ended n) = no_maxima

-- document 02, k: "The answer names, for each row, the number of the rule it was judged by"; a refusal touches nothing
abbrev pub named_by : CheckAnswer → Closing → List ℕ → List ℕ
named_by (going verdict) c before = tabulate c.rule c.table.rows
named_by (ended n) c before = before

unfoldable pub verdict_of : Closing → CheckAnswer
verdict_of c = check (closes c) (going (Closed (largest_reaches c))) (going (Open (largest_reaches c)))

unfoldable pub check_of : Bool → Closing → CheckAnswer
check_of fits c = next (judge (judgements fits c)) (λ _. verdict_of c)

-- a row that is not within its tolerance: its exact gap plus twice its radius exceeds it
pub record Exceeds (c : Closing) (i : ℕ) : Type 0 where
  pub row : i < c.table.rows
  pub misses : within c i ≡ false
  pub exceeds : scaled (c.tolerance i) <ℤ (pos (gap c i) +ℤ pos 2 *ℤ scaled (radius c i))

-- Demand 3: "the closing check gives a verdict exactly when they pass refusals 3, 4, 6 and 7 and each number refusal 18 names is zero or from 2^-150 to 2^150 in size.
-- Whenever it says closed, each row's exact gap, over whole numbers, is within its tolerance; whenever it says open, some row's exact gap plus twice document 01's radius for that row exceeds its tolerance."
-- Tolerances that are no finite number from 0 up get no verdict (document 02, j), so that every verdict is sure.
-- `bounded`: whatever the tolerances, each row's exact gap is at most the number that is told for its dimension (document 02, h).
pub record CheckMeaning (fits : Bool) (c : Closing) (answer : CheckAnswer) : Type 0 where
  pub verdict : ((n : ℕ) → answer ≡ ended n → ⊥) ↔ AllPass (judgements fits c)
  pub refused : (n : ℕ) → (answer ≡ ended n) ↔ FirstToFail (judgements fits c) n
  pub reaches : ((n : ℕ) → answer ≡ ended n → ⊥) → (i : ℕ) → i < c.table.rows → T (finite (reach c i)) × (le plus_zero (reach c i) ≡ true)
  pub bounded : ((n : ℕ) → answer ≡ ended n → ⊥) → (i : ℕ) → i < c.table.rows → pos (gap c i) ≤ℤ scaled (maximum_of (row_dimension c.table i) (gap_of answer))
  pub closed : number_of answer ≡ 1 → (i : ℕ) → i < c.table.rows → pos (gap c i) ≤ℤ scaled (c.tolerance i)
  pub opened : number_of answer ≡ 0 → (i : ℕ) × Exceeds c i
