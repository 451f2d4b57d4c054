-- The margins with work memory of their own, from those with lent memory. Assumes nothing.
use Prim.Native.Nat.{ℕ}
use mathlib.Core.Path.{◌≡◌, refl, sym, ap, ◌∙◌}
use mathlib.Core.Bool.{Bool, true, false, not, ◌&&◌}
use mathlib.Core.List.{List}
use lib.Ieee.{Float}
use borrow.Author.Tests.{not-true}
use Rattle.kapitsa_joint.specs.declared.kind.Kind.{Kind}
use Rattle.rules.specs.Rules.{Rules}
use Rattle.check_range.specs.Closing.{Closing}
use Rattle.check_refusals.specs.Refusals.{given_fits, passes3}
use Rattle.check_refusals.specs.declared.fit.TableLengths.{TableLengths}
use Rattle.check_refusals.proofs.Fitting.{WorkRoom}
use Rattle.check_work.specs.Work.{CheckMemory, work_lengths}
use Rattle.check_alone.proofs.Alone.{fits_too, alone_3}
use Rattle.closing_margins.specs.Held.{MarginsHeld, MarginsAlone}
use Rattle.closing_margins.proofs.Entry.{told_3}
use Rattle.check_answer.specs.Answer.{CheckAnswer}
use Rattle.loops.specs.Run.{ended}

-- `lists` is refusal 3 of the list's slices
pub margins_alone : (kind : Kind) {n b : ℕ} (lists : Bool) (l : TableLengths) {before after : CheckMemory} {s : Rules} {c : Closing} {answer : CheckAnswer} {numbers numbersAfter rows rowsAfter : List ℕ} {margins marginsAfter : List Float}
    → given_fits kind n b l ≡ true → WorkRoom n b (work_lengths before)
    → MarginsHeld (lists && passes3 kind n b l (work_lengths before)) s c answer numbers numbersAfter before after rows margins rowsAfter marginsAfter
    → MarginsAlone (lists && given_fits kind n b l) s c answer numbers numbersAfter rows margins rowsAfter marginsAfter
margins_alone kind {n} {b} lists l {before} g room h =
    let e = ap (λ (p : Bool). lists && p) (fits_too kind n b l (work_lengths before) g room) in
    record { checked = record { answered = rw e at h.checked.answered; means = rw e at h.checked.means; named = h.checked.named; ruled = h.checked.ruled }; told = rw e at h.told }

pub margins_alone_3 : (lists : Bool) {given r : Bool} (s : Rules) (c : Closing) (numbers rows : List ℕ) (margins : List Float) → r ≡ given → not r ≡ true → MarginsAlone (lists && given) s c (ended 3) numbers numbers rows margins rows margins
margins_alone_3 lists {given} {r} s c numbers rows margins e h = record { checked = alone_3 s c numbers (none lists (sym e ∙ not-true r h)) refl; told = told_3 (lists && given) c 3 rows margins }
  where
    none : (lists : Bool) → given ≡ false → false ≡ (lists && given)
    none true f = sym f
    none false f = refl
