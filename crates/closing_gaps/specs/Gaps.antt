-- What is promised of a check that gives each row's measured number. Document 01: "Closed exactly when each rounded |r| + E ≤ tolerance"; document 02, h: "for each dimension, the largest rounded |r| + E of the closing check".
use Rattle.std.specs.Prelude.{ℕ, ◌<◌, ◌≡◌, Bool, true, List, ◌↔◌, eqb, pos, ◌≤ℤ◌, get_or, Float}
use Rattle.std.specs.Float.{nan}
use Rattle.std.specs.Float.Ieee.{le}
use Rattle.loops.specs.Tabulate.{tabulate}
use Rattle.kapitsa_joint.specs.Maxima.{maxima_by}
use Rattle.rules.specs.Rules.{Rules}
use Rattle.check_range.specs.Closing.{Closing}
use Rattle.check_measure.specs.Verdict.{row_dimension, reach}
use Rattle.check_measure.specs.Gap.{gap, scaled}
use Rattle.check_answer.specs.Answer.{number_of, gap_of, CheckAnswer}
use Rattle.check_work.specs.Work.{CheckMemory}
use Rattle.closing_check.specs.Checked.{Checked}
use Rattle.check_alone.specs.Checked.{AloneHeld}
use Rattle.loops.specs.Run.{going, ended}

-- refusal 3 of the numbers' slice: a place a row. It is true where the refusal does not apply.
unfoldable pub gaps_lent : ℕ → ℕ → Bool
gaps_lent n gaps = eqb gaps n

-- each row's rounded |r| + E, in row order, where there is a verdict; a refusal touches nothing
abbrev pub gaps_by : CheckAnswer → Closing → List Float → List Float
gaps_by (going verdict) c before = tabulate (reach c) c.table.rows
gaps_by (ended n) c before = before

-- what the numbers of a verdict mean: each row is within its tolerance, which is that of its rule, exactly where its number is;
-- the gap told of a dimension is the largest of its rows' numbers; and no row's exact gap exceeds its number
pub record GapsMeaning (c : Closing) (answer : CheckAnswer) (gaps : List Float) : Type 0 where
  pub closed : (number_of answer ≡ 1) ↔ ((i : ℕ) → i < c.table.rows → le (get_or gaps i nan) (c.tolerance i) ≡ true)
  pub widest : gap_of answer ≡ maxima_by (row_dimension c.table) (λ i. get_or gaps i nan) c.table.rows
  pub bounded : (i : ℕ) → i < c.table.rows → pos (gap c i) ≤ℤ scaled (get_or gaps i nan)

-- of the numbers alone: `gaps` is the lent memory
pub record GapsTold (c : Closing) (answer : CheckAnswer) (gaps gapsAfter : List Float) : Type 0 where
  pub given : gapsAfter ≡ gaps_by answer c gaps
  pub means : ((n : ℕ) → answer ≡ ended n → ⊥) → GapsMeaning c answer gapsAfter

pub record GapsHeld (fits : Bool) (s : Rules) (c : Closing) (answer : CheckAnswer) (numbers numbersAfter : List ℕ) (before after : CheckMemory) (gaps gapsAfter : List Float) : Type 0 where
  pub checked : Checked fits s c answer numbers numbersAfter before after
  pub told : GapsTold c answer gaps gapsAfter

-- with work memory of its own
pub record GapsAlone (fits : Bool) (s : Rules) (c : Closing) (answer : CheckAnswer) (numbers numbersAfter : List ℕ) (gaps gapsAfter : List Float) : Type 0 where
  pub checked : AloneHeld fits s c answer numbers numbersAfter
  pub told : GapsTold c answer gaps gapsAfter

-- ---- over lent reaches, with the answer that these gave
abbrev pub kept_by : CheckAnswer → List Float → List Float → List Float
kept_by (going verdict) reaches gaps = reaches
kept_by (ended n) reaches gaps = gaps
