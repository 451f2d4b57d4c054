-- The check that gives its numbers: turned back by refusal 3, or judged and the numbers taken from the check's reaches. Assumes nothing.
use Prim.Native.Nat.{ℕ, ◌≤◌}
use mathlib.Core.Path.{◌≡◌, subst}
use mathlib.Core.Bool.{Bool, true, false, not, ◌&&◌}
use mathlib.Core.List.{List}
use lib.Dec.{eqb}
use lib.ListN.{length}
use lib.Ieee.{Float}
use borrow.Author.Tests.{eqb-true}
use Rattle.loops.proofs.Both.{both}
use Rattle.kapitsa_joint.specs.Table.{table_of}
use Rattle.kapitsa_joint.specs.declared.kind.Kind.{Kind}
use Rattle.mass_operator.specs.Flat.{coefficients}
use Rattle.rules.specs.Rules.{Rules}
use Rattle.check_range.specs.Closing.{Closing, closing_for}
use Rattle.check_refusals.specs.Refusals.{given_fits, work_fits, passes3}
use Rattle.check_refusals.specs.declared.fit.TableLengths.{TableLengths}
use Rattle.check_refusals.specs.declared.fit.WorkLengths.{WorkLengths}
use Rattle.check_refusals.proofs.Fitting.{work_of}
use Rattle.check_answer.proofs.Meaning.{Held}
use Rattle.check_work.specs.Work.{CheckMemory}
use Rattle.closing_check.specs.Beside.{placed_in}
use Rattle.closing_check.specs.Checked.{Checked, Reached}
use Rattle.closing_check.proofs.Entry.{passed_3}
use Rattle.closing_gaps.specs.Gaps.{gaps_lent, kept_by, GapsHeld}
use Rattle.closing_gaps.proofs.Told.{told_on}
use Rattle.check_answer.specs.Answer.{CheckAnswer}

-- ---- refusal 3, of the numbers' slice and of all else
pub fits_both : {a b p q : Bool} → a ≡ p → b ≡ q → (a && b) ≡ (p && q)
fits_both e f = rw (e, f)

pub others_passed : {l p x y : Bool} → x ≡ l → y ≡ p → not (x && y) ≡ false → p ≡ true
others_passed {l} {p} e f h = (both l p (passed_3 (fits_both e f) h)).1

pub room_passed : (n gaps : ℕ) {p x y : Bool} → x ≡ gaps_lent n gaps → y ≡ p → not (x && y) ≡ false → gaps ≡ n
unfolding gaps_lent
room_passed n gaps {p} e f h = eqb-true gaps n (both (eqb gaps n) p (passed_3 (fits_both e f) h)).0

pub values_3 : (kind : Kind) (n b : ℕ) (t : TableLengths) (w : WorkLengths) → passes3 kind n b t w ≡ true → w.values ≡ n
unfolding passes3
values_3 kind n b t w h = (work_of n b w (both (given_fits kind n b t) (work_fits n b w) h).1).values

-- ---- a check that was judged: `found` is what the code found of the centres, `values` has the reaches
module _ (kind : Kind) (rows bodies : ℕ) (numbers : List Float) (words : List ℕ) (masses beside multipliers : List Float) (s : Rules) where
  abbrev by : Bool → Closing
  by found = closing_for kind (table_of rows bodies numbers words masses) (coefficients multipliers) s (coefficients beside) found

  pub held_on : (gaps : List Float) {found : Bool} → found ≡ placed_in kind bodies beside → {answer : CheckAnswer} {values : List Float} → length values ≡ rows → Reached answer (by found) values → Held (by (placed_in kind bodies beside)) → rows ≤ 512
      → {pass : Bool} {named namedAfter : List ℕ} {before after : CheckMemory} {gapsAfter : List Float} → Checked pass s (by (placed_in kind bodies beside)) answer named namedAfter before after → gapsAfter ≡ kept_by answer values gaps
      → GapsHeld pass s (by (placed_in kind bodies beside)) answer named namedAfter before after gaps gapsAfter
  held_on gaps q {answer} {values} long r held few h k =
      record { checked = h; told = told_on (by (placed_in kind bodies beside)) gaps long h.answered held (λ _. few) (subst (λ (b : Bool). Reached answer (by b) values) q r) k }
