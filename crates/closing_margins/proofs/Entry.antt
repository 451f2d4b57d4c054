-- The check that lists its margins: turned back by refusal 3, or checked with each row's number and, where it closes, its list made of these. Assumes nothing.
use Prim.Native.Nat.{ℕ, ◌*◌, ◌<◌, ◌≤◌}
use mathlib.Core.Path.{◌≡◌, refl, sym, ap, ◌∙◌}
use mathlib.Core.Bool.{Bool, true, false, not, ◌&&◌, false≢true}
use mathlib.Core.List.{List}
use native.Mathlib.Omega.{arith}
use lib.Dec.{leb, eqb}
use lib.Ieee.{Float, nan}
use borrow.Author.Tests.{eqb-true, eq-eqb, leb-true, not-false}
use Rattle.loops.specs.Judge.{AllPass}
use Rattle.loops.proofs.Both.{both}
use Rattle.loops.proofs.Tabulate.{get_d_tabulate}
use Rattle.kapitsa_joint.specs.declared.kind.Kind.{Kind}
use Rattle.kapitsa_joint.specs.declared.maxima.Maxima.{Maxima}
use Rattle.rules.specs.Rules.{Rules}
use Rattle.check_range.specs.Closing.{Closing}
use Rattle.check_measure.specs.Verdict.{reach}
use Rattle.check_refusals.specs.Refusals.{given_fits, work_fits, passes3}
use Rattle.check_refusals.specs.declared.fit.TableLengths.{TableLengths}
use Rattle.check_refusals.specs.declared.fit.WorkLengths.{WorkLengths}
use Rattle.check_refusals.proofs.Fitting.{given_of}
use Rattle.check_work.specs.Work.{CheckMemory}
use Rattle.closing_check.specs.Beside.{closing_in}
use Rattle.closing_gaps.specs.Gaps.{gaps_lent, gaps_by, GapsHeld}
use Rattle.margins_list.specs.Margins.{AllSized, Margins, MarginsOf, dimension_at, number_at}
use Rattle.closing_margins.specs.Held.{margins_lent, MarginsTold, MarginsHeld, ClosedSized, ClosedListed}
use Rattle.closing_margins.proofs.Alone.{margin}
use Rattle.closing_margins.proofs.Sizes.{all_sized, sized_same}
use Rattle.margins_list.proofs.Told.{words_dimension, margins_same}
use Rattle.margins_list.proofs.Ranked.{margins_are}
use Rattle.check_answer.specs.Answer.{CheckAnswer}
use Rattle.check_answer.specs.declared.Verdict.TheVariants.{Closed, Open}
use Rattle.loops.specs.Run.{going, ended}

-- ---- closed is no refusal
closed_not_refused : {answer : CheckAnswer} {g : Maxima} → answer ≡ going (Closed g) → (n : ℕ) → answer ≡ ended n → ⊥
closed_not_refused {answer} {g} e n h = let z : going (Closed g) ≡ ended n = sym e ∙ h in let y : ◌≡◌ {A = ℕ} 0 1 = cc in omega arith

-- ---- refusal 3, of the list's slices and of the count of rows
pub lists_passed : (n rows margins : ℕ) {x : Bool} → x ≡ margins_lent n rows margins → not (x && leb n 512) ≡ false → (n ≤ 512) × (margins_lent n rows margins ≡ true)
lists_passed n rows margins {x} e h = let (a, b) = both x (leb n 512) (not-false (x && leb n 512) h) in (leb-true n 512 b, sym e ∙ a)

pub places_are : (n rows margins : ℕ) → margins_lent n rows margins ≡ true → (rows ≡ n) × (margins ≡ n)
unfolding margins_lent
places_are n rows margins h = let (a, b) = both (eqb rows n) (eqb margins n) h in (eqb-true rows n a, eqb-true margins n b)

module _ (kind : Kind) (n b : ℕ) (t : TableLengths) (w : WorkLengths) where
  many_3 : leb n 512 ≡ false → passes3 kind n b t w ≡ false
  unfolding passes3 given_fits
  many_3 e = rw e

  pub turned_3 : {lists x : Bool} → x ≡ lists → not (x && leb n 512) ≡ true → false ≡ (lists && passes3 kind n b t w)
  turned_3 {lists} e h = go lists (leb n 512) refl (rw e at h)
    where
      go : (l few : Bool) → leb n 512 ≡ few → not (l && few) ≡ true → false ≡ (l && passes3 kind n b t w)
      go false few q h = refl
      go true false q h = sym (many_3 q)
      go true true q h = absurd (false≢true h)

  words_3 : passes3 kind n b t w ≡ true → 8 * n ≤ t.words
  unfolding passes3
  words_3 h = omega (arith, (given_of kind n b t (both (given_fits kind n b t) (work_fits n b w) h).0).words)

pub told_3 : (pass : Bool) (c : Closing) (n : ℕ) (rows : List ℕ) (margins : List Float) → MarginsTold pass c (ended n) rows margins rows margins
told_3 pass c n rows margins = record {
  answered = λ g h. absurd (closed_not_refused h n refl);
  listed = λ g h. absurd (closed_not_refused h n refl);
  margin = λ g h. absurd (closed_not_refused h n refl);
  kept = λ _. (refl, refl);
}

-- ---- a check that has given each row's number: `numbers` of the rows, `gapsAfter` their measured ones
module _ {fits : Bool} {s : Rules} (c : Closing) {answer : CheckAnswer} {named namedAfter : List ℕ} {before after : CheckMemory} {gaps gapsAfter : List Float} (h : GapsHeld fits s c answer named namedAfter before after gaps gapsAfter) where
  closed_numbers : {g : Maxima} → answer ≡ going (Closed g) → (i : ℕ) → i < c.table.rows → number_at gapsAfter i ≡ reach c i
  closed_numbers e i l = rw (h.told.given ∙ ap (λ (a : CheckAnswer). gaps_by a c gaps) e) (get_d_tabulate (reach c) c.table.rows i nan l)

  passed : {g : Maxima} → answer ≡ going (Closed g) → fits ≡ true
  unfolding AllPass
  passed e = (h.checked.means.verdict.0 (closed_not_refused e)).0

pub sized_on : (kind : Kind) (n b : ℕ) (t : TableLengths) (w : WorkLengths) (room : Bool) {s : Rules} (c : Closing) {answer : CheckAnswer} {named namedAfter : List ℕ} {before after : CheckMemory} {gaps gapsAfter : List Float} → c.table.rows ≡ n
    → GapsHeld (room && passes3 kind n b t w) s c answer named namedAfter before after gaps gapsAfter → ClosedSized answer (number_at gapsAfter) n t.words
sized_on kind n b t w room c e h = record {
  sized = λ _ q. rw e at (sized_same (closed_numbers c h q) (all_sized h.checked.means (closed_not_refused q)));
  long = λ _ q. words_3 kind n b t w (both room (passes3 kind n b t w) (passed c h q)).1;
}

-- a place a row in every slice
pub same_fits : {n gaps : ℕ} {lists : Bool} (p : Bool) → gaps ≡ n → lists ≡ true → (gaps_lent n gaps && p) ≡ (lists && p)
unfolding gaps_lent
same_fits p e f = rw (eq-eqb _ _ e, f)

module _ (kind : Kind) (rows bodies : ℕ) (numbers : List Float) (words : List ℕ) (masses beside multipliers : List Float) (s : Rules) where
  abbrev c : Closing
  c = closing_in kind rows bodies numbers words masses beside multipliers s

  pub held_on : {fits pass : Bool} → fits ≡ pass → {answer : CheckAnswer} {named namedAfter : List ℕ} {before after : CheckMemory} {gaps gapsAfter : List Float} {margin_rows marginRowsAfter : List ℕ} {margins marginsAfter : List Float}
      → GapsHeld fits s c answer named namedAfter before after gaps gapsAfter → ClosedListed answer (dimension_at words) (number_at gapsAfter) rows margin_rows margins marginRowsAfter marginsAfter
      → MarginsHeld pass s c answer named namedAfter before after margin_rows margins marginRowsAfter marginsAfter
  held_on {pass = pass} q {answer} h l =
      let checked = rw q at h.checked in
      let listed : (g : Maxima) → answer ≡ going (Closed g) → MarginsOf c _ _ = λ g e. margins_same (λ i p. words_dimension rows bodies numbers words masses i) (closed_numbers c h e) (l.listed g e) in
      record {
        checked = checked;
        told = record {
          answered = λ g e. margins_are c (listed g e) (all_sized checked.means (closed_not_refused e));
          listed = listed;
          margin = λ g e i p. margin pass c i p (sym checked.answered ∙ e);
          kept = l.kept;
        };
      }
