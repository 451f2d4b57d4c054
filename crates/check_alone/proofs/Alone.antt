-- A check with its own memory answers as one with lent memory of the right lengths, and is refused by 3 without it. Assumes nothing.
use Prim.Native.Nat.{ℕ, ◌*◌, ◌≤◌}
use mathlib.Core.Path.{◌≡◌, refl, sym, ◌∙◌}
use mathlib.Core.Bool.{Bool, true, not}
use mathlib.Core.List.{List}
use native.Mathlib.Omega.{arith}
use lib.ListN.{length, take}
use lib.Seq.{length-take-le}
use lib.Ieee.{Float}
use borrow.Author.Tests.{not-true, eq-eqb}
use Rattle.loops.specs.Run.{on, check, ended}
use Rattle.loops.specs.Judge.{judge, test}
use Rattle.kapitsa_joint.specs.declared.kind.Kind.{Kind}
use Rattle.rules.specs.Rules.{Rules}
use Rattle.check_range.specs.Closing.{Closing}
use Rattle.check_refusals.specs.Refusals.{given_fits, work_fits, passes3}
use Rattle.check_refusals.specs.declared.fit.TableLengths.{TableLengths}
use Rattle.check_refusals.specs.declared.fit.WorkLengths.{WorkLengths}
use Rattle.check_refusals.proofs.Fitting.{WorkRoom}
use Rattle.check_answer.specs.Answer.{check_of, CheckAnswer}
use Rattle.check_answer.proofs.Meaning.{means_3}
use Rattle.check_work.specs.Work.{CheckMemory, memory_of, work_lengths}
use Rattle.closing_check.specs.Checked.{Checked}
use Rattle.check_alone.specs.Checked.{AloneHeld}

-- refusal 3 of what is lent and of the memory is refusal 3 of what is lent
pub fits_too : (kind : Kind) (n b : ℕ) (l : TableLengths) (w : WorkLengths) → given_fits kind n b l ≡ true → WorkRoom n b w → passes3 kind n b l w ≡ given_fits kind n b l
unfolding passes3 work_fits
fits_too kind n b l w g room = rw (g, eq-eqb _ _ room.impulses, eq-eqb _ _ room.size_impulses, eq-eqb _ _ room.values, eq-eqb _ _ room.sizes)

-- what a table of n rows and b bodies takes of arrays that are no shorter
pub taken_within : {n b : ℕ} (rows body_numbers : ℕ) (impulses size_impulses values sizes : List Float) → n ≤ rows → 6 * b ≤ body_numbers
    → length impulses ≡ body_numbers → length size_impulses ≡ body_numbers → length values ≡ rows → length sizes ≡ rows
    → WorkRoom n b (work_lengths (memory_of (take (6 * b) impulses) (take (6 * b) size_impulses) (take n values) (take n sizes)))
taken_within rows body_numbers _ _ _ _ r s i j v z = record {
  impulses = length-take-le _ _ (omega (arith, s, i));
  size_impulses = length-take-le _ _ (omega (arith, s, j));
  values = length-take-le _ _ (omega (arith, r, v));
  sizes = length-take-le _ _ (omega (arith, r, z));
}

-- and of arrays for rows and bodies that are no fewer
pub taken : {n b : ℕ} (rows bodies : ℕ) (impulses size_impulses values sizes : List Float) → n ≤ rows → b ≤ bodies → length impulses ≡ 6 * bodies → length size_impulses ≡ 6 * bodies → length values ≡ rows → length sizes ≡ rows
    → WorkRoom n b (work_lengths (memory_of (take (6 * b) impulses) (take (6 * b) size_impulses) (take n values) (take n sizes)))
taken rows bodies i j v z r s = taken_within rows (6 * bodies) i j v z r (omega arith)

pub alone : (kind : Kind) {n b : ℕ} (l : TableLengths) {before after : CheckMemory} {s : Rules} {c : Closing} {answer : CheckAnswer} {numbers numbersAfter : List ℕ} → given_fits kind n b l ≡ true → WorkRoom n b (work_lengths before)
    → Checked (passes3 kind n b l (work_lengths before)) s c answer numbers numbersAfter before after → AloneHeld (given_fits kind n b l) s c answer numbers numbersAfter
alone kind {n} {b} l {before} g room h = let e = fits_too kind n b l (work_lengths before) g room in record { answered = rw e at h.answered; means = rw e at h.means; named = h.named; ruled = h.ruled }

pub alone_3 : {fits r : Bool} (s : Rules) (c : Closing) (numbers : List ℕ) → r ≡ fits → not r ≡ true → AloneHeld fits s c (ended 3) numbers numbers
unfolding check_of judge test check on
alone_3 {fits} {r} s c numbers e h = let f = sym e ∙ not-true r h in record { answered = rw f; means = means_3 c f; named = refl; ruled = λ v. absurd (v 3 refl) }
