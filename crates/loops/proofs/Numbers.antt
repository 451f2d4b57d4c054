-- Laws of lists of numbers: where a number of a joined list stands, and that it stands in one part only. Assumes nothing.
use Prim.Native.Nat.{ℕ}
use mathlib.Core.Bool.{Bool, cond, false, false≢true, true, true≢false}
use mathlib.Core.List.{List, [], ◌++◌, ◌∷◌}
use mathlib.Core.Logic.{◌⊎◌, inl, inr, ⊎_elim}
use mathlib.Core.Path.{◌∙◌, ◌≡◌, refl, subst, sym}
use borrow.Author.Tests.{eq-eqb, eqb-true}
use lib.Dec.{eqb}
use Rattle.loops.specs.Judge.{judge, test}
use Rattle.loops.specs.Numbers.{In, numbers_of, once, stands}
use Rattle.loops.specs.Run.{ended}
use Rattle.loops.proofs.Inverse.{apart, next_ended}
use Rattle.loops.proofs.Judge.{test_ended}

either : (b c : Bool) → cond b true c ≡ true → (b ≡ true) ⊎ (c ≡ true)
either true c h = inl refl
either false c h = inr h

or_second : (b c : Bool) → c ≡ true → cond b true c ≡ true
or_second true c h = refl
or_second false c h = h

not_first : (b c : Bool) → cond b false c ≡ true → (b ≡ false) × (c ≡ true)
not_first true c h = absurd (false≢true h)
not_first false c h = (refl, h)

module _ (n : ℕ) where
  pub in_none : In n [] → ⊥
  unfolding stands
  in_none h = false≢true h

  pub in_cons : (k : ℕ) (l : List ℕ) → In n (k ∷ l) → (n ≡ k) ⊎ In n l
  unfolding stands
  in_cons k l h = ⊎_elim (λ e. inl (eqb-true n k e)) inr (either (eqb n k) (stands n l) h)

  pub in_head : (k : ℕ) (l : List ℕ) → n ≡ k → In n (k ∷ l)
  unfolding stands
  in_head k l e = rw (eq-eqb n k e)

  pub in_two : (j k : ℕ) → In n (j ∷ (k ∷ [])) → (n ≡ j) ⊎ (n ≡ k)
  in_two j k h = ⊎_elim inl (λ q. inr (⊎_elim (λ e. e) (λ z. absurd (in_none z)) (in_cons k [] q))) (in_cons j (k ∷ []) h)

  pub in_right : (a b : List ℕ) → In n b → In n (a ++ b)
  unfolding stands
  in_right [] b h = h
  in_right (k ∷ a) b h = or_second (eqb n k) _ (in_right a b h)

  pub in_left : (a b : List ℕ) → In n a → In n (a ++ b)
  in_left [] b h = absurd (in_none h)
  in_left (k ∷ a) b h = ⊎_elim (in_head k (a ++ b)) (λ q. in_right (k ∷ []) (a ++ b) (in_left a b q)) (in_cons k a h)

  pub in_split : (a b : List ℕ) → In n (a ++ b) → In n a ⊎ In n b
  in_split [] b h = inr h
  in_split (k ∷ a) b h =
      ⊎_elim (λ e. inl (in_head k a e)) (λ q. ⊎_elim (λ z. inl (in_right (k ∷ []) a z)) inr (in_split a b q)) (in_cons k (a ++ b) h)

pub once_right : (a b : List ℕ) → once (a ++ b) ≡ true → once b ≡ true
unfolding once
once_right [] b h = h
once_right (k ∷ a) b h = once_right a b (not_first (stands k (a ++ b)) (once (a ++ b)) h).1

-- a number stands in one part only
pub one_place : (n : ℕ) (a b : List ℕ) → once (a ++ b) ≡ true → In n a → In n b → ⊥
unfolding once
one_place n [] b h p q = absurd (in_none n p)
one_place n (k ∷ a) b h p q =
    let (g, r) = not_first (stands k (a ++ b)) (once (a ++ b)) h in
    ⊎_elim (λ e. true≢false (sym (in_right k a b (subst (λ i. In i b) e q)) ∙ g)) (λ s. one_place n a b r s q) (in_cons n k a p)

-- tests in order refuse with one of their numbers
pub judge_numbers : (l : List (ℕ × Bool)) (n : ℕ) → judge l ≡ ended n → In n (numbers_of l)
unfolding judge numbers_of
judge_numbers [] n h = absurd (apart _ refl h)
judge_numbers (t ∷ l) n h =
    ⊎_elim (λ e. in_head n t.0 _ (sym ((test_ended t.1 t.0 n).0 e).1)) (λ e. in_right n (t.0 ∷ []) _ (judge_numbers l n e.2))
    ((next_ended (test t.1 t.0) _ n).0 h)
