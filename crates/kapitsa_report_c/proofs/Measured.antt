-- What a check that gives each row's number tells C, from the promise of that check, of either kind. Assumes nothing.
use Prim.Native.Nat.{ℕ}
use mathlib.Core.Path.{◌≡◌, refl, sym, ap, subst, ◌∙◌}
use mathlib.Core.Bool.{Bool, true, false, not, ◌&&◌}
use mathlib.Core.List.{List}
use lib.Ieee.{Float}
use borrow.Author.Tests.{not-true, not-false}
use Rattle.kapitsa_joint.specs.Table.{Table}
use Rattle.kapitsa_joint.specs.declared.kind.Kind.{Kind}
use Rattle.rules.specs.Rules.{Rules}
use Rattle.check_range.specs.Closing.{Closing, closing_for}
use Rattle.check_answer.specs.Answer.{check_of, CheckAnswer}
use Rattle.check_work.specs.Work.{CheckMemory}
use Rattle.closing_check.proofs.Entry.{checked_3}
use Rattle.closing_gaps.specs.Gaps.{GapsTold, GapsHeld}
use Rattle.closing_gaps.proofs.Told.{told_3}
use Rattle.kapitsa_c.specs.Closing.{VerdictTold, verdict_told}
use Rattle.kapitsa_c.proofs.Verdicts.{told_on, untold}
use Rattle.kapitsa_report_c.specs.Measuring.{GapsReported}

module _ (kind : Kind) (s : Rules) (t : Table) (listed residual : ℕ → Float) (placed : Bool) (verdict : List ℕ) (gap : List Float) (numbers : List ℕ) (before : CheckMemory) (gaps : List Float) where
  abbrev c : Closing
  c = closing_for kind t listed s residual placed

  -- the numbers of an answer are those of the definition's answer
  of_check : (fits : Bool) {a : CheckAnswer} {gapsAfter : List Float} → a ≡ check_of fits c → GapsTold c a gaps gapsAfter → GapsTold c (check_of fits c) gaps gapsAfter
  of_check fits {gapsAfter = gapsAfter} e k = subst (λ (a : CheckAnswer). GapsTold c a gaps gapsAfter) e k

  -- refusal 3 of the slices of verdict and gap, then of the others
  module _ {r v : Bool} (p : Bool) (e : r ≡ v) where
    pub unmeasured : not r ≡ true → GapsReported (v && p) s c verdict gap (record { number = 3; verdict = verdict; gap = gap }) numbers numbers before before gaps gaps
    unmeasured h = record {
      checked = untold kind s t listed residual placed verdict gap numbers before p e h;
      measured = of_check (v && p) (checked_3 kind s t listed residual placed numbers before (sym (ap (λ (b : Bool). b && p) (sym e ∙ not-true r h))) refl).answered (told_3 c 3 gaps);
    }

    pub measured_on : {told : VerdictTold} {a : CheckAnswer} {numbersAfter : List ℕ} {after : CheckMemory} {gapsAfter : List Float} → not r ≡ false
        → GapsHeld p s c a numbers numbersAfter before after gaps gapsAfter → told ≡ verdict_told a verdict gap
        → GapsReported (v && p) s c verdict gap told numbers numbersAfter before after gaps gapsAfter
    measured_on h k w = record {
      checked = told_on kind s t listed residual placed verdict gap numbers before p e h k.checked w;
      measured = rw (sym e ∙ not-false r h) (of_check p k.checked.answered k.told);
    }
