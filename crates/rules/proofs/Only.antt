-- `only_below p n` is the one number below n of which p is true, and n exactly where there is none or a second. By induction on n. Assumes nothing.
use Prim.Native.Nat.{ℕ, zero, suc, ◌<◌, ◌≤◌}
use mathlib.Core.Path.{◌≡◌, sym, ◌∙◌, subst}
use mathlib.Core.Bool.{Bool, true, false, not, true≢false}
use mathlib.Core.Logic.{◌⊎◌, inl, inr}
use native.Mathlib.Nat.{eq-or-lt_of_le}
use native.Mathlib.Omega.{arith}
use lib.Dec.{ltb}
use borrow.Author.Tests.{not-true, ltb-true, ltb-false, lt-ltb, le-ltb}
use Rattle.loops.specs.Every.{every}
use Rattle.loops.proofs.Every.{every_iff}
use Rattle.loops.proofs.Inverse.{saw_bool}
use Rattle.rules.specs.Rules.{Only, only_below}

pub equal_or_less : (m n : ℕ) → m ≤ n → (m ≡ n) ⊎ (m < n)
equal_or_less m n h = eq-or-lt_of_le h

pub less_or_not : (m n : ℕ) → (m < n) ⊎ (n ≤ m)
less_or_not m n = go (saw_bool (ltb m n))
  where
    go : (ltb m n ≡ true) ⊎ (ltb m n ≡ false) → (m < n) ⊎ (n ≤ m)
    go (inl q) = inl (ltb-true m n q)
    go (inr q) = inr (ltb-false m n q)

pub only_one : {p : ℕ → Bool} {n r s : ℕ} → Only p n r → Only p n s → r ≡ s
only_one {r = r} o q = q.alone r o.below o.holds

module _ (p : ℕ → Bool) (n : ℕ) where
  -- ---- the four ways of one more number
  here : p n ≡ true → every (λ q. not (p q)) n ≡ true → only_below p (suc n) ≡ n
  unfolding only_below
  here h e = rw (h, e)

  second : p n ≡ true → every (λ q. not (p q)) n ≡ false → only_below p (suc n) ≡ suc n
  unfolding only_below
  second h e = rw (h, e)

  before : p n ≡ false → only_below p n < n → only_below p (suc n) ≡ only_below p n
  unfolding only_below
  before h l = rw (h, lt-ltb (only_below p n) n l)

  still_none : p n ≡ false → n ≤ only_below p n → only_below p (suc n) ≡ suc n
  unfolding only_below
  still_none h l = rw (h, le-ltb (only_below p n) n l)

  -- ---- what each tells of the only one
  only_last : p n ≡ true → every (λ q. not (p q)) n ≡ true → Only p (suc n) n
  only_last h e = record { below = omega arith; holds = h; alone = λ q l t. go q t (equal_or_less q n (omega arith)) }
    where
      go : (q : ℕ) → p q ≡ true → (q ≡ n) ⊎ (q < n) → q ≡ n
      go q t (inl s) = s
      go q t (inr s) = absurd (true≢false (sym t ∙ not-true (p q) ((every_iff (λ q. not (p q)) n).0 e q s)))

  only_kept : p n ≡ false → {r : ℕ} → Only p n r → Only p (suc n) r
  only_kept h {r} o = record { below = let b = o.below in omega arith; holds = o.holds; alone = λ q l t. go q t (equal_or_less q n (omega arith)) }
    where
      go : (q : ℕ) → p q ≡ true → (q ≡ n) ⊎ (q < n) → q ≡ r
      go q t (inl s) = absurd (true≢false (sym t ∙ subst (λ (k : ℕ). p k ≡ false) (sym s) h))
      go q t (inr s) = o.alone q s t

  none_before : {r : ℕ} → Only p (suc n) r → p n ≡ true → every (λ q. not (p q)) n ≡ true
  none_before {r} o h = (every_iff (λ q. not (p q)) n).1 (λ q l. go q l (saw_bool (p q)))
    where
      go : (q : ℕ) → q < n → (p q ≡ true) ⊎ (p q ≡ false) → not (p q) ≡ true
      go q l (inl t) = let a = o.alone q (omega arith) t in let b = o.alone n (omega arith) h in absurd (omega arith)
      go q l (inr t) = rw t

  only_earlier : {r : ℕ} → Only p (suc n) r → p n ≡ false → Only p n r
  only_earlier {r} o h = record { below = go (equal_or_less r n (let b = o.below in omega arith)); holds = o.holds; alone = λ q l t. o.alone q (omega arith) t }
    where
      go : (r ≡ n) ⊎ (r < n) → r < n
      go (inl s) = absurd (true≢false (sym o.holds ∙ subst (λ (k : ℕ). p k ≡ false) (sym s) h))
      go (inr s) = s

pub only_within : (p : ℕ → Bool) (n : ℕ) → only_below p n ≤ n
only_within p zero = unfold only_below in omega arith
only_within p (suc n) = go (saw_bool (p n)) (saw_bool (every (λ q. not (p q)) n)) (less_or_not (only_below p n) n)
  where
    go : (p n ≡ true) ⊎ (p n ≡ false) → (every (λ q. not (p q)) n ≡ true) ⊎ (every (λ q. not (p q)) n ≡ false) → (only_below p n < n) ⊎ (n ≤ only_below p n) → only_below p (suc n) ≤ suc n
    go (inl h) (inl e) _ = let r = here p n h e in omega arith
    go (inl h) (inr e) _ = let r = second p n h e in omega arith
    go (inr h) _ (inl l) = let r = before p n h l in omega arith
    go (inr h) _ (inr l) = let r = still_none p n h l in omega arith

pub only_below_lem : (p : ℕ → Bool) (n : ℕ) → only_below p n < n → Only p n (only_below p n)
only_below_lem p zero l = absurd (omega arith)
only_below_lem p (suc n) l = go (saw_bool (p n)) (saw_bool (every (λ q. not (p q)) n)) (less_or_not (only_below p n) n) (only_below_lem p n)
  where
    go : (p n ≡ true) ⊎ (p n ≡ false) → (every (λ q. not (p q)) n ≡ true) ⊎ (every (λ q. not (p q)) n ≡ false) → (only_below p n < n) ⊎ (n ≤ only_below p n)
        → (only_below p n < n → Only p n (only_below p n)) → Only p (suc n) (only_below p (suc n))
    go (inl h) (inl e) _ _ = subst (Only p (suc n)) (sym (here p n h e)) (only_last p n h e)
    go (inl h) (inr e) _ _ = let r = second p n h e in absurd (omega arith)
    go (inr h) _ (inl b) ih = subst (Only p (suc n)) (sym (before p n h b)) (only_kept p n h (ih b))
    go (inr h) _ (inr b) _ = let r = still_none p n h b in absurd (omega arith)

pub only_is : (p : ℕ → Bool) (n r : ℕ) → Only p n r → only_below p n ≡ r
only_is p zero r o = let b = o.below in absurd (omega arith)
only_is p (suc n) r o = go (saw_bool (p n)) (only_is p n r)
  where
    go : (p n ≡ true) ⊎ (p n ≡ false) → (Only p n r → only_below p n ≡ r) → only_below p (suc n) ≡ r
    go (inl h) _ = here p n h (none_before p n o h) ∙ o.alone n (omega arith) h
    go (inr h) ih = let e = only_earlier p n o h in let s = ih e in before p n h (let b = e.below in omega arith) ∙ s

-- where there is no such number it is n
pub only_none : (p : ℕ → Bool) (n : ℕ) → ((r : ℕ) → Only p n r → ⊥) → only_below p n ≡ n
only_none p n h = go (equal_or_less (only_below p n) n (only_within p n))
  where
    go : (only_below p n ≡ n) ⊎ (only_below p n < n) → only_below p n ≡ n
    go (inl e) = e
    go (inr l) = absurd (h (only_below p n) (only_below_lem p n l))
