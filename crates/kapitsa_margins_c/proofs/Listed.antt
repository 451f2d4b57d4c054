-- What a check that lists its margins tells C, from the promise of that check, of either kind. Assumes nothing.
use Prim.Native.Nat.{ℕ}
use mathlib.Core.Path.{◌≡◌, refl, sym, ap, subst, ◌∙◌}
use mathlib.Core.Bool.{Bool, true, false, not, ◌&&◌}
use mathlib.Core.List.{List}
use lib.Ieee.{Float}
use borrow.Author.Tests.{not-true, not-false}
use Rattle.kapitsa_joint.specs.Table.{Table}
use Rattle.kapitsa_joint.specs.declared.kind.Kind.{Kind}
use Rattle.rules.specs.Rules.{Rules}
use Rattle.check_range.specs.Closing.{Closing, closing_for}
use Rattle.check_answer.specs.Answer.{check_of, CheckAnswer}
use Rattle.check_work.specs.Work.{CheckMemory}
use Rattle.closing_check.proofs.Entry.{checked_3}
use Rattle.closing_margins.specs.Held.{MarginsTold, MarginsHeld}
use Rattle.closing_margins.proofs.Entry.{told_3}
use Rattle.kapitsa_c.specs.Closing.{VerdictTold, verdict_told}
use Rattle.kapitsa_margins_c.specs.Margins.{MarginsListed}
use Rattle.kapitsa_c.proofs.Verdicts.{told_on, untold}

module _ (kind : Kind) (s : Rules) (t : Table) (listed residual : ℕ → Float) (placed : Bool) (verdict : List ℕ) (gap : List Float) (numbers : List ℕ) (before : CheckMemory) (rows : List ℕ) (margins : List Float) where
  abbrev c : Closing
  c = closing_for kind t listed s residual placed

  -- the list of an answer is that of the definition's answer
  of_check : (fits : Bool) {a : CheckAnswer} {rowsAfter : List ℕ} {marginsAfter : List Float} → a ≡ check_of fits c → MarginsTold fits c a rows margins rowsAfter marginsAfter → MarginsTold fits c (check_of fits c) rows margins rowsAfter marginsAfter
  of_check fits {a} {rowsAfter} {marginsAfter} e k = subst (λ (a : CheckAnswer). MarginsTold fits c a rows margins rowsAfter marginsAfter) e k

  -- refusal 3 of the slices of verdict and gap, then of the others
  module _ {r v : Bool} (p : Bool) (e : r ≡ v) where
    pub unlisted : not r ≡ true → MarginsListed (v && p) s c verdict gap (record { number = 3; verdict = verdict; gap = gap }) numbers numbers before before rows margins rows margins
    unlisted h = record {
      checked = untold kind s t listed residual placed verdict gap numbers before p e h;
      listed = of_check (v && p) (checked_3 kind s t listed residual placed numbers before (sym (ap (λ (b : Bool). b && p) (sym e ∙ not-true r h))) refl).answered (told_3 (v && p) c 3 rows margins);
    }

    pub listed_on : {told : VerdictTold} {a : CheckAnswer} {numbersAfter : List ℕ} {after : CheckMemory} {rowsAfter : List ℕ} {marginsAfter : List Float} → not r ≡ false
        → MarginsHeld p s c a numbers numbersAfter before after rows margins rowsAfter marginsAfter → told ≡ verdict_told a verdict gap
        → MarginsListed (v && p) s c verdict gap told numbers numbersAfter before after rows margins rowsAfter marginsAfter
    listed_on h k w = record {
      checked = told_on kind s t listed residual placed verdict gap numbers before p e h k.checked w;
      listed = rw (sym e ∙ not-false r h) (of_check p k.checked.answered k.told);
    }
