-- The ways through the commit, and which number is answered exactly where. Assumes nothing.
use Prim.Native.Nat.{ℕ, ◌*◌, ◌<◌, ◌≤◌}
use mathlib.Core.Path.{◌≡◌, refl, sym, ap, subst, ◌∙◌}
use mathlib.Core.Bool.{Bool, true, false, not, ◌&&◌, true≢false, false≢true}
use mathlib.Core.List.{List, [], ◌∷◌}
use mathlib.Core.Logic.{◌⊎◌, inl, inr, ◌↔◌}
use native.Mathlib.Omega.{arith}
use lib.Dec.{eqb, leb}
use lib.ListN.{length, set}
use lib.Ieee.{Float}
use borrow.Author.Tests.{not-false, eqb-true, eqb-false, eq-eqb, ne_eqb}
use Rattle.loops.specs.Run.{Run, going, ended, on, check}
use Rattle.loops.specs.Judge.{judge, test, AllPass}
use Rattle.loops.proofs.Both.{both}
use Rattle.loops.proofs.Every.{every_iff, every_false}
use Rattle.loops.proofs.Inverse.{saw_bool}
use Rattle.loops.proofs.Judge.{judge_going}
use Rattle.position_delivery.specs.Delivery.{gained_after}
use Rattle.std.specs.Prelude.{Result, Ok, Err, IsErrAnd}
use Rattle.refusals.specs.Told.{told}
use Rattle.refusals.specs.declared.Refusal.{Refusal}
use Rattle.refusals.proofs.Again.{told_again}
use Rattle.proposals.specs.Commit.{rows_in, count_in, mark_in, commit_lent, bits_now, bits_then, same_multipliers, commit_tests, number_in, Committing, committing_by, committing, Moved, Committed}

-- ---- what has passed refusal 3
module _ (rows numbers : ℕ) (words : List ℕ) (solution started : ℕ) {b : Bool} (e : b ≡ commit_lent rows numbers words solution started) (h : not b ≡ false) where
  pub lent_lengths : (length words ≡ 4) × (numbers ≡ 27 * rows) × (solution ≡ rows_in words) × (started ≡ rows_in words)
  unfolding commit_lent
  lent_lengths =
      let (w, r) = both (eqb (length words) 4) _ (sym e ∙ not-false b h) in
      let (q, t) = both _ (eqb started (rows_in words)) r in
      let (p, s) = both _ (eqb solution (rows_in words)) q in
      let (_, n) = both (leb rows 512) (eqb numbers (27 * rows)) p in
      (eqb-true (length words) 4 w, eqb-true numbers (27 * rows) n, eqb-true solution (rows_in words) s, eqb-true started (rows_in words) t)

-- ---- the answer of three tests, by each of them
module _ (numbers : List Float) (words : List ℕ) (solution : List Float) where
  abbrev committing_of : Bool → Bool → Bool → Committing
  committing_of a b c = committing_by (judge ((3, a) ∷ (29, b) ∷ (30, c) ∷ [])) numbers words solution

  told_0 : (a b c : Bool) → ((committing_of a b c).number ≡ 0) ↔ AllPass ((3, a) ∷ (29, b) ∷ (30, c) ∷ [])
  unfolding committing_by judge test check on AllPass
  told_0 true true true = (λ e. (refl, (refl, (refl, tt))), λ p. refl)
  told_0 true true false = (λ e. absurd (omega arith), λ p. absurd (false≢true p.1.1.0))
  told_0 true false c = (λ e. absurd (omega arith), λ p. absurd (false≢true p.1.0))
  told_0 false b c = (λ e. absurd (omega arith), λ p. absurd (false≢true p.0))

  told_3 : (a b c : Bool) → ((committing_of a b c).number ≡ 3) ↔ (a ≡ false)
  unfolding committing_by judge test check on
  told_3 true true true = (λ e. absurd (omega arith), λ e. absurd (true≢false e))
  told_3 true true false = (λ e. absurd (omega arith), λ e. absurd (true≢false e))
  told_3 true false c = (λ e. absurd (omega arith), λ e. absurd (true≢false e))
  told_3 false b c = (λ e. refl, λ e. refl)

  told_29 : (a b c : Bool) → ((committing_of a b c).number ≡ 29) ↔ ((a ≡ true) × (b ≡ false))
  unfolding committing_by judge test check on
  told_29 true true true = (λ e. absurd (omega arith), λ e. absurd (true≢false e.1))
  told_29 true true false = (λ e. absurd (omega arith), λ e. absurd (true≢false e.1))
  told_29 true false c = (λ e. (refl, refl), λ e. refl)
  told_29 false b c = (λ e. absurd (omega arith), λ e. absurd (false≢true e.0))

  told_30 : (a b c : Bool) → ((committing_of a b c).number ≡ 30) ↔ ((a ≡ true) × (b ≡ true) × (c ≡ false))
  unfolding committing_by judge test check on
  told_30 true true true = (λ e. absurd (omega arith), λ e. absurd (true≢false e.2))
  told_30 true true false = (λ e. (refl, refl, refl), λ e. refl)
  told_30 true false c = (λ e. absurd (omega arith), λ e. absurd (false≢true e.1))
  told_30 false b c = (λ e. absurd (omega arith), λ e. absurd (false≢true e.0))

  told_kept : (r : Run Unit ℕ) → ¬ ((committing_by r numbers words solution).number ≡ 0) → ((committing_by r numbers words solution).numbers ≡ numbers) × ((committing_by r numbers words solution).words ≡ words)
  unfolding committing_by
  told_kept (going _) h = absurd (h refl)
  told_kept (ended k) h = (refl, refl)

-- ---- what the tests of 29 and 30 say
unmarked : (n : ℕ) → (eqb n 0 ≡ false) ↔ ¬ (n ≡ 0)
unmarked n = (eqb-false n 0, ne_eqb n 0)

and_false : (a b : Bool) → b ≡ false → (a && b) ≡ false
and_false true b h = h
and_false false b h = refl

module _ (numbers : List Float) (rows : ℕ) (words : List ℕ) (started : List Float) where
  abbrev kept_rows : Bool
  kept_rows = eqb rows (rows_in words)

  abbrev kept_numbers_lem : Bool
  kept_numbers_lem = same_multipliers numbers started (length started)

  -- a row whose bits differ is told, and one that is told differs
  differs : (kept_numbers_lem ≡ false) ↔ ((i : ℕ) × (i < length started) × ¬ (bits_now numbers i ≡ bits_then started i))
  unfolding same_multipliers
  differs = (λ h. let (i, l, e) = every_false _ (length started) h in (i, l, eqb-false (bits_now numbers i) (bits_then started i) e), λ (i, l, d). back i l d (saw_bool kept_numbers_lem))
    where
      back : (i : ℕ) → i < length started → ¬ (bits_now numbers i ≡ bits_then started i) → (kept_numbers_lem ≡ true) ⊎ (kept_numbers_lem ≡ false) → kept_numbers_lem ≡ false
      back i l d (inl h) = absurd (d (eqb-true (bits_now numbers i) (bits_then started i) ((every_iff (λ i. eqb (bits_now numbers i) (bits_then started i)) (length started)).0 h i l)))
      back i l d (inr h) = h

  moved_is : ((kept_rows && kept_numbers_lem) ≡ false) ↔ Moved numbers rows words started
  moved_is = (λ h. there (saw_bool kept_rows) h, back)
    where
      there : (kept_rows ≡ true) ⊎ (kept_rows ≡ false) → (kept_rows && kept_numbers_lem) ≡ false → Moved numbers rows words started
      there (inl e) h = inr (differs.0 (rw e at h))
      there (inr e) h = inl (eqb-false rows (rows_in words) e)

      back : Moved numbers rows words started → (kept_rows && kept_numbers_lem) ≡ false
      back (inl d) = rw (ne_eqb rows (rows_in words) d)
      back (inr d) = and_false kept_rows kept_numbers_lem (differs.1 d)

-- ---- the contract, from its equation
module _ (numbers : List Float) (rows : ℕ) (words : List ℕ) (solution started : List Float) where
  abbrev lent : Bool
  lent = commit_lent rows (length numbers) words (length solution) (length started)

  abbrev clear : Bool
  clear = eqb (mark_in words) 0

  abbrev same : Bool
  same = eqb rows (rows_in words) && same_multipliers numbers started (length started)

  pub committed_of_lem : (after : Committing) → committing numbers rows words solution started ≡ after → Committed numbers rows words solution started after
  unfolding commit_tests
  committed_of_lem after e = subst (λ (c : Committing). Committed numbers rows words solution started c) e made
    where
      twice : ((committing_of numbers words solution lent clear same).number ≡ 29) ↔ ((lent ≡ true) × ¬ (mark_in words ≡ 0))
      twice = let (there, back) = told_29 numbers words solution lent clear same in (λ h. let (l, m) = there h in (l, (unmarked (mark_in words)).0 m), λ (l, m). back (l, (unmarked (mark_in words)).1 m))

      moved : ((committing_of numbers words solution lent clear same).number ≡ 30) ↔ ((lent ≡ true) × (mark_in words ≡ 0) × Moved numbers rows words started)
      moved = let (there, back) = told_30 numbers words solution lent clear same in (
        λ h. let (l, m, d) = there h in (l, eqb-true (mark_in words) 0 m, (moved_is numbers rows words started).0 d),
        λ (l, m, d). back (l, eq-eqb (mark_in words) 0 m, (moved_is numbers rows words started).1 d),
      )

      made : Committed numbers rows words solution started (committing numbers rows words solution started)
      made = record { answered = refl; done = told_0 numbers words solution lent clear same; unfit = told_3 numbers words solution lent clear same; twice = twice; moved = moved; kept = told_kept numbers words solution (judge (commit_tests numbers rows words solution started)) }

  -- ---- the ways of `commit_proposal`; r is what the tests answered
  module _ {r : Result Unit Refusal} (judged : judge (commit_tests numbers rows words solution started) ≡ told r) where
    pub committed_refused : (e : Refusal) (b : Result Unit Refusal) → r ≡ Err e → IsErrAnd b (λ y. y ≡ e) → Committed numbers rows words solution started (record { number = number_in (told b); numbers = numbers; words = words })
    unfolding committing_by
    committed_refused e b q h = committed_of_lem _ (ap (λ (x : Run Unit ℕ). committing_by x numbers words solution) (judged ∙ ap told q) ∙ rw (told_again b e h))

    module _ (z : r ≡ Ok tt) where
      passed : judge (commit_tests numbers rows words solution started) ≡ going tt
      passed = judged ∙ ap told z

      pub passed_lengths : (length words ≡ 4) × (27 * length solution ≤ length numbers)
      unfolding commit_tests AllPass
      passed_lengths =
          let pass = (judge_going (commit_tests numbers rows words solution started)).0 passed in
          let (w, n, s, _) = lent_lengths rows (length numbers) words (length solution) (length started) refl (rw pass.0) in
          let e = eqb-true rows (rows_in words) (both (eqb rows (rows_in words)) (same_multipliers numbers started (length started)) pass.1.1.0).0 in
          (w, omega arith)

      pub committed_done : {numbersAfter : List Float} {wordsAfter : List ℕ} → numbersAfter ≡ gained_after 24 (count_in words) numbers solution → wordsAfter ≡ set words 3 1 → Committed numbers rows words solution started (record { number = 0; numbers = numbersAfter; words = wordsAfter })
      unfolding committing_by
      committed_done en ew = committed_of_lem _ (ap (λ (x : Run Unit ℕ). committing_by x numbers words solution) passed ∙ rw (en, ew))
