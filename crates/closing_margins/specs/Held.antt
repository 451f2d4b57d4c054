-- What is promised of a check that lists its margins: the check's own promise and, where it closes, the list with what its numbers mean. Document 02, m: "Where the check refuses or says open there is no list, and the memory lent for it stays as it was."
use Rattle.std.specs.Prelude.{ℕ, ◌*◌, ◌<◌, ◌≤◌, ◌≡◌, Bool, ◌&&◌, List, eqb, Float}
use Rattle.kapitsa_joint.specs.declared.maxima.Maxima.{Maxima}
use Rattle.rules.specs.Rules.{Rules}
use Rattle.check_range.specs.Closing.{Closing}
use Rattle.check_work.specs.Work.{CheckMemory}
use Rattle.closing_check.specs.Checked.{Checked}
use Rattle.check_alone.specs.Checked.{AloneHeld}
use Rattle.margins_list.specs.Margins.{AllSized, Margins, MarginsOf}
use Rattle.closing_margins.specs.Alone.{Margin}
use Rattle.margins_list.specs.Ranked.{margin_rows, margin_numbers}
use Rattle.check_answer.specs.Answer.{CheckAnswer}
use Rattle.check_answer.specs.declared.Verdict.TheVariants.{Closed}
use Rattle.loops.specs.Run.{going}

-- refusal 3 of the list's two slices: a place a row. It is true where the refusal does not apply.
unfoldable pub margins_lent : ℕ → ℕ → ℕ → Bool
margins_lent n rows margins = eqb rows n && eqb margins n

-- of the list alone: `fits` is whether refusal 3 passes, `rows` and `margins` are the lent memory
pub record MarginsTold (fits : Bool) (c : Closing) (answer : CheckAnswer) (rows : List ℕ) (margins : List Float) (rowsAfter : List ℕ) (marginsAfter : List Float) : Type 0 where
  pub answered : (g : Maxima) → answer ≡ going (Closed g) → (rowsAfter ≡ margin_rows c) × (marginsAfter ≡ margin_numbers c)
  pub listed : (g : Maxima) → answer ≡ going (Closed g) → MarginsOf c rowsAfter marginsAfter  -- which is each row once, in order, beside its number
  pub margin : (g : Maxima) → answer ≡ going (Closed g) → (i : ℕ) → i < c.table.rows → Margin fits c i
  pub kept : ((g : Maxima) → answer ≡ going (Closed g) → ⊥) → (rowsAfter ≡ rows) × (marginsAfter ≡ margins)

pub record MarginsHeld (fits : Bool) (s : Rules) (c : Closing) (answer : CheckAnswer) (numbers numbersAfter : List ℕ) (before after : CheckMemory) (rows : List ℕ) (margins : List Float) (rowsAfter : List ℕ) (marginsAfter : List Float) : Type 0 where
  pub checked : Checked fits s c answer numbers numbersAfter before after
  pub told : MarginsTold fits c answer rows margins rowsAfter marginsAfter

-- with work memory of its own
pub record MarginsAlone (fits : Bool) (s : Rules) (c : Closing) (answer : CheckAnswer) (numbers numbersAfter : List ℕ) (rows : List ℕ) (margins : List Float) (rowsAfter : List ℕ) (marginsAfter : List Float) : Type 0 where
  pub checked : AloneHeld fits s c answer numbers numbersAfter
  pub told : MarginsTold fits c answer rows margins rowsAfter marginsAfter

-- ---- over lent words and reaches, with the answer that these gave
pub record ClosedSized (answer : CheckAnswer) (number : ℕ → Float) (n words : ℕ) : Type 0 where
  pub sized : (g : Maxima) → answer ≡ going (Closed g) → AllSized number n
  pub long : (g : Maxima) → answer ≡ going (Closed g) → 8 * n ≤ words

pub record ClosedListed (answer : CheckAnswer) (dimension : ℕ → ℕ) (number : ℕ → Float) (n : ℕ) (rows : List ℕ) (margins : List Float) (rowsAfter : List ℕ) (marginsAfter : List Float) : Type 0 where
  pub listed : (g : Maxima) → answer ≡ going (Closed g) → Margins dimension number n rowsAfter marginsAfter
  pub kept : ((g : Maxima) → answer ≡ going (Closed g) → ⊥) → (rowsAfter ≡ rows) × (marginsAfter ≡ margins)
