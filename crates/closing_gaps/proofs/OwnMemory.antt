-- The numbers with work memory of their own, from those with lent memory. Assumes nothing.
use Prim.Native.Nat.{ℕ}
use mathlib.Core.Path.{◌≡◌, refl, sym, ap, ◌∙◌}
use mathlib.Core.Bool.{Bool, true, false, not, ◌&&◌}
use mathlib.Core.List.{List}
use lib.Ieee.{Float}
use borrow.Author.Tests.{not-true}
use Rattle.kapitsa_joint.specs.declared.kind.Kind.{Kind}
use Rattle.rules.specs.Rules.{Rules}
use Rattle.check_range.specs.Closing.{Closing}
use Rattle.check_refusals.specs.Refusals.{given_fits, passes3}
use Rattle.check_refusals.specs.declared.fit.TableLengths.{TableLengths}
use Rattle.check_refusals.proofs.Fitting.{WorkRoom}
use Rattle.check_work.specs.Work.{CheckMemory, work_lengths}
use Rattle.check_alone.proofs.Alone.{fits_too, alone_3}
use Rattle.closing_gaps.specs.Gaps.{GapsHeld, GapsAlone}
use Rattle.closing_gaps.proofs.Told.{told_3}
use Rattle.check_answer.specs.Answer.{CheckAnswer}
use Rattle.loops.specs.Run.{ended}

-- `room` is refusal 3 of the numbers' slice
pub gaps_alone : (kind : Kind) {n b : ℕ} (room : Bool) (l : TableLengths) {before after : CheckMemory} {s : Rules} {c : Closing} {answer : CheckAnswer} {numbers numbersAfter : List ℕ} {gaps gapsAfter : List Float}
    → given_fits kind n b l ≡ true → WorkRoom n b (work_lengths before)
    → GapsHeld (room && passes3 kind n b l (work_lengths before)) s c answer numbers numbersAfter before after gaps gapsAfter
    → GapsAlone (room && given_fits kind n b l) s c answer numbers numbersAfter gaps gapsAfter
gaps_alone kind {n} {b} room l {before} g work h =
    let e = ap (λ (p : Bool). room && p) (fits_too kind n b l (work_lengths before) g work) in
    record { checked = record { answered = rw e at h.checked.answered; means = rw e at h.checked.means; named = h.checked.named; ruled = h.checked.ruled }; told = h.told }

pub gaps_alone_3 : (room : Bool) {given r : Bool} (s : Rules) (c : Closing) (numbers : List ℕ) (gaps : List Float) → r ≡ given → not r ≡ true → GapsAlone (room && given) s c (ended 3) numbers numbers gaps gaps
gaps_alone_3 room {given} {r} s c numbers gaps e h = record { checked = alone_3 s c numbers (none room (sym e ∙ not-true r h)) refl; told = told_3 c 3 gaps }
  where
    none : (room : Bool) → given ≡ false → false ≡ (room && given)
    none true f = sym f
    none false f = refl
