-- A closed check with one row judged by another tolerance x: it is closed exactly where the row's number is at most x. So that number is the smallest tolerance at which the row still closes. Assumes nothing.
use Prim.Native.Nat.{ℕ, ◌<◌}
use mathlib.Core.Path.{◌≡◌, refl, sym, ap, ◌∙◌}
use mathlib.Core.Bool.{Bool, true, false, cond}
use mathlib.Core.Logic.{◌⊎◌, inl, inr}
use native.Mathlib.Omega.{arith}
use lib.Dec.{eqb}
use lib.Ieee.{Float, le}
use borrow.Author.Tests.{eqb-true, eq-eqb}
use Rattle.loops.specs.Run.{check, going, ended}
use Rattle.loops.specs.Judge.{AllPass}
use Rattle.loops.specs.Every.{every}
use Rattle.loops.proofs.Every.{every_iff}
use Rattle.loops.proofs.Inverse.{saw_bool, check_true, check_false}
use Rattle.kapitsa_joint.specs.declared.maxima.Maxima.{Maxima}
use Rattle.check_range.specs.Closing.{Closing}
use Rattle.check_refusals.specs.Judged.{judgements}
use Rattle.check_measure.specs.Verdict.{value_of, size_of, reach, within, closes, largest_reaches}
use Rattle.check_answer.specs.Answer.{verdict_of, check_of}
use Rattle.check_answer.proofs.Meaning.{passes_of, verdict_of_lem}
use Rattle.closing_margins.specs.Alone.{alone_by, Margin}
use Rattle.closing_margins.proofs.Compared.{lt_not_le, le_self}
use Rattle.check_answer.specs.declared.Verdict.TheVariants.{Closed, Open}

-- ---- nothing but the verdict on row i reads x
module _ (c : Closing) (i : ℕ) (x : Float) where
  alone_largest : largest_reaches (alone_by c i x) ≡ largest_reaches c
  unfolding largest_reaches reach value_of size_of
  alone_largest = refl

  alone_within : (j : ℕ) → within (alone_by c i x) j ≡ le (reach c j) (cond (eqb j i) x (c.tolerance j))
  unfolding reach value_of size_of
  alone_within j = refl

  alone_here : within (alone_by c i x) i ≡ le (reach c i) x
  alone_here = alone_within i ∙ ap (λ (b : Bool). le (reach c i) (cond b x (c.tolerance i))) (eq-eqb i i refl)

  alone_other : (j : ℕ) → eqb j i ≡ false → within (alone_by c i x) j ≡ within c j
  alone_other j e = alone_within j ∙ ap (λ (b : Bool). le (reach c j) (cond b x (c.tolerance j))) e

module _ (fits : Bool) (c : Closing) {g : Maxima} (i : ℕ) (l : i < c.table.rows) (shut : check_of fits c ≡ going (Closed g)) where
  no_refusal : (n : ℕ) → check_of fits c ≡ ended n → ⊥
  no_refusal n e = let h : going (Closed g) ≡ ended n = sym shut ∙ e in let z : ◌≡◌ {A = ℕ} 0 1 = cc in omega arith

  passed : AllPass (judgements fits c)
  passed = passes_of fits c no_refusal

  closed : closes c ≡ true
  unfolding verdict_of
  closed = go (closes c) refl
    where
      go : (b : Bool) → closes c ≡ b → closes c ≡ true
      go true e = e
      go false e = let h : going (Open (largest_reaches c)) ≡ going (Closed g) = sym (verdict_of_lem fits c passed ∙ check_false _ _ _ e) ∙ shut in let z : ◌≡◌ {A = ℕ} 0 1 = cc in absurd (omega arith)

  own : (j : ℕ) → j < c.table.rows → within c j ≡ true
  unfolding closes
  own = (every_iff (within c) c.table.rows).0 closed

  -- the verdict is that of row i alone
  pub closes_alone : (x : Float) → closes (alone_by c i x) ≡ le (reach c i) x
  unfolding closes
  closes_alone x = same (every (within (alone_by c i x)) c.table.rows) (le (reach c i) x) there back
    where
      same : (p q : Bool) → (p ≡ true → q ≡ true) → (q ≡ true → p ≡ true) → p ≡ q
      same true q f g = sym (f refl)
      same false true f g = g refl
      same false false f g = refl

      there : every (within (alone_by c i x)) c.table.rows ≡ true → le (reach c i) x ≡ true
      there h = sym (alone_here c i x) ∙ (every_iff (within (alone_by c i x)) c.table.rows).0 h i l

      each : le (reach c i) x ≡ true → (j : ℕ) → j < c.table.rows → within (alone_by c i x) j ≡ true
      each h j p = go (saw_bool (eqb j i))
        where
          go : (eqb j i ≡ true) ⊎ (eqb j i ≡ false) → within (alone_by c i x) j ≡ true
          go (inl e) = let q = eqb-true j i e in rw q (alone_here c i x ∙ h)
          go (inr e) = alone_other c i x j e ∙ own j p

      back : le (reach c i) x ≡ true → every (within (alone_by c i x)) c.table.rows ≡ true
      back h = (every_iff (within (alone_by c i x)) c.table.rows).1 (each h)

  -- so is the answer, for every double x
  pub check_alone : (x : Float) → check_of fits (alone_by c i x) ≡ check (le (reach c i) x) (going (Closed (largest_reaches c))) (going (Open (largest_reaches c)))
  unfolding verdict_of
  check_alone x = verdict_of_lem fits (alone_by c i x) passed ∙ rw (closes_alone x, alone_largest c i x)

  -- document 02, m
  pub margin : Margin fits c i
  margin = record {
    opens = λ x _ h. check_alone x ∙ check_false _ _ _ (lt_not_le x (reach c i) h);
    keeps = check_alone (reach c i) ∙ check_true _ _ _ (le_self (reach c i) (c.tolerance i) (own i l));
  }
