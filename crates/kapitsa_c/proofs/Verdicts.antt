-- What a check tells C, from the promise of the check, of either kind. Assumes nothing.
use Prim.Native.Nat.{ℕ, ◌<◌}
use mathlib.Core.Path.{◌≡◌, refl, sym, ap, ◌∙◌}
use mathlib.Core.Bool.{Bool, true, false, not, ◌&&◌}
use mathlib.Core.List.{List, [], ◌∷◌}
use mathlib.Core.Logic.{◌↔◌}
use native.Mathlib.Omega.{arith}
use lib.Dec.{eqb}
use lib.ListN.{length, set}
use lib.Ieee.{Float}
use borrow.Author.Tests.{not-true, not-false, eqb-true}
use Rattle.loops.proofs.Both.{both as both_true}
use Rattle.kapitsa_joint.specs.Table.{Table}
use Rattle.kapitsa_joint.specs.declared.kind.Kind.{Kind}
use Rattle.kapitsa_joint.specs.declared.maxima.Maxima.{Maxima}
use Rattle.rules.specs.Rules.{Rules}
use Rattle.rules.proofs.Ruled.{rules_above}
use Rattle.check_range.specs.Closing.{Closing, closing_for}
use Rattle.check_answer.specs.Answer.{check_of, CheckAnswer}
use Rattle.check_answer.proofs.Meaning.{refusal_above}
use Rattle.check_work.specs.Work.{CheckMemory}
use Rattle.closing_check.specs.Checked.{Checked}
use Rattle.closing_check.proofs.Held.{lent_above}
use Rattle.closing_check.proofs.Entry.{checked_3}
use Rattle.kapitsa_c.specs.Closing.{VerdictTold, both, verdict_told, verdict_fits, CheckTold}
use Rattle.check_answer.specs.declared.Verdict.TheVariants.{Closed, Open}
use Rattle.loops.specs.Run.{going, ended}

-- ---- the promise
-- 0 is told for a verdict alone
zero_is : (verdict : List ℕ) (gap : List Float) (a : CheckAnswer) → ((n : ℕ) → a ≡ ended n → 1 < n) → ((verdict_told a verdict gap).number ≡ 0) ↔ ((n : ℕ) → a ≡ ended n → ⊥)
unfolding verdict_told
zero_is verdict gap (going (Closed m)) above = (λ _ n h. let z : ◌≡◌ {A = ℕ} 0 1 = cc in omega arith, λ _. refl)
zero_is verdict gap (going (Open m)) above = (λ _ n h. let z : ◌≡◌ {A = ℕ} 0 1 = cc in omega arith, λ _. refl)
zero_is verdict gap (ended k) above = (λ e n h. let l = above k refl in omega arith, λ h. absurd (h k refl))

module _ (kind : Kind) (s : Rules) (t : Table) (listed residual : ℕ → Float) (placed : Bool) (verdict : List ℕ) (gap : List Float) (numbers : List ℕ) (before : CheckMemory) where
  abbrev c : Closing
  c = closing_for kind t listed s residual placed

  told_so : {fits : Bool} {told : VerdictTold} {a : CheckAnswer} {numbersAfter : List ℕ} {after : CheckMemory} → Checked fits s c a numbers numbersAfter before after → told ≡ verdict_told a verdict gap
      → CheckTold fits s c verdict gap told numbers numbersAfter before after
  told_so {fits} {told} {a} k h =
      let means = rw k.answered at k.means in
      let zero = zero_is verdict gap (check_of fits c) (λ n e. refusal_above fits c (rules_above _ _) (lent_above kind _) n ((means.refused n).0 e)) in
      let answered = h ∙ ap (λ (a : CheckAnswer). verdict_told a verdict gap) k.answered in
      record {
        answered = answered;
        means = means;
        zero = rw answered zero;
        named = rw k.answered at k.named;
        ruled = λ z. k.ruled (λ n e. zero.0 (ap (λ (v : VerdictTold). v.number) (sym answered) ∙ z) n (sym k.answered ∙ e));
        memory = k.memory;
      }

  -- refusal 3 of the slices of verdict and gap, then of the others
  module _ {r v : Bool} (p : Bool) (e : r ≡ v) where
    pub untold : not r ≡ true → CheckTold (v && p) s c verdict gap (record { number = 3; verdict = verdict; gap = gap }) numbers numbers before before
    unfolding verdict_told
    untold h = told_so (checked_3 kind s t listed residual placed numbers before (sym (ap (λ (b : Bool). b && p) (sym e ∙ not-true r h))) refl) refl

    pub told_on : {told : VerdictTold} {a : CheckAnswer} {numbersAfter : List ℕ} {after : CheckMemory} → not r ≡ false → Checked p s c a numbers numbersAfter before after → told ≡ verdict_told a verdict gap
        → CheckTold (v && p) s c verdict gap told numbers numbersAfter before after
    told_on h k w = rw (sym e ∙ not-false r h) (told_so k w)

-- ---- the slices of verdict and gap
pub told_lengths : (verdict : List ℕ) (gap : List Float) {r : Bool} → r ≡ verdict_fits verdict gap → not r ≡ false → (length verdict ≡ 1) × (length gap ≡ 2)
unfolding verdict_fits
told_lengths verdict gap {r} e h =
    let (p, q) = both_true (eqb (length verdict) 1) (eqb (length gap) 2) (sym e ∙ not-false r h) in
    (eqb-true (length verdict) 1 p, eqb-true (length gap) 2 q)

pub set_only : (l : List ℕ) (w : ℕ) → length l ≡ 1 → set l 0 w ≡ w ∷ []
set_only [] w e = absurd (omega arith)
set_only (x ∷ []) w e = refl
set_only (x ∷ y ∷ l) w e = absurd (omega arith)

module _ {a : CheckAnswer} {m : Maxima} (verdict : List ℕ) (gap : List Float) {gap' : List Float} where
  pub told_closed : a ≡ going (Closed m) → length verdict ≡ 1 → gap' ≡ both m → record { number = 0; verdict = set verdict 0 1; gap = gap' } ≡ verdict_told a verdict gap
  unfolding verdict_told
  told_closed e h g = rw (e, set_only verdict 1 h, g)

  pub told_open : a ≡ going (Open m) → length verdict ≡ 1 → gap' ≡ both m → record { number = 0; verdict = set verdict 0 0; gap = gap' } ≡ verdict_told a verdict gap
  unfolding verdict_told
  told_open e h g = rw (e, set_only verdict 0 h, g)

pub told_refused : {a : CheckAnswer} (verdict : List ℕ) (gap : List Float) {number : ℕ} → a ≡ ended number → record { number = number; verdict = verdict; gap = gap } ≡ verdict_told a verdict gap
unfolding verdict_told
told_refused verdict gap e = rw e
