-- `leading` is the place of the first test that fails. Assumes nothing.
use Prim.Native.Nat.{ℕ, zero, suc, ◌<◌, ◌≤◌}
use mathlib.Core.Path.{◌≡◌, refl, sym, ◌∙◌}
use mathlib.Core.Bool.{Bool, true, false, cond, false≢true}
use native.Mathlib.Omega.{arith}
use lib.Dec.{leb, ltb}
use borrow.Author.Tests.{leb-true, leb-false, ltb-true, ltb-false}
use Rattle.loops.specs.Every.{every}
use Rattle.loops.proofs.Every.{every_iff}
use Rattle.loops.proofs.Inverse.{check_true}
use Rattle.job_stream.specs.Chunk.{leading}

module _ (p : ℕ → Bool) where
  -- all tests before it pass
  pub leading_passes : (k : ℕ) → every p (leading p k) ≡ true
  unfolding leading
  leading_passes zero = unfold every in refl
  leading_passes (suc k) = go (every p (suc k)) refl (leading_passes k)
    where
      go : (b : Bool) → every p (suc k) ≡ b → every p (leading p k) ≡ true → every p (cond b (suc k) (leading p k)) ≡ true
      go true e r = e
      go false e r = r

  module _ (m : ℕ) (passed : every p m ≡ true) (fails : p m ≡ false) where
    not_all : (k : ℕ) → m ≤ k → every p (suc k) ≡ false
    not_all k l = go (every p (suc k)) refl
      where
        go : (b : Bool) → every p (suc k) ≡ b → b ≡ false
        go true e = absurd (false≢true (sym fails ∙ (every_iff p (suc k)).0 e m (omega arith)))
        go false e = refl

    pub leading_first : (k : ℕ) → m ≤ k → leading p k ≡ m
    unfolding leading
    leading_first zero l = omega arith
    leading_first (suc k) l = go (leb m k) (leb-true m k) (leb-false m k) (leading_first k)
      where
        go : (b : Bool) → (b ≡ true → m ≤ k) → (b ≡ false → k < m) → (m ≤ k → leading p k ≡ m) → cond (every p (suc k)) (suc k) (leading p k) ≡ m
        go true f g r = rw (not_all k (f refl)) (r (f refl))
        go false f g r = let s = g refl in let e : m ≡ suc k = omega arith in let q : every p (suc k) ≡ true = rw e at passed in rw q (sym e)

next_fails : (p : ℕ → Bool) (k : ℕ) → every p k ≡ true → every p (suc k) ≡ false → p k ≡ false
unfolding every
next_fails p k h e = sym (check_true _ _ _ h) ∙ e

module _ (p : ℕ → Bool) where
  pub leading_most : (k : ℕ) → leading p k ≤ k
  unfolding leading
  leading_most zero = omega arith
  leading_most (suc k) = go (every p (suc k)) (leading_most k)
    where
      go : (b : Bool) → leading p k ≤ k → cond b (suc k) (leading p k) ≤ suc k
      go true h = omega arith
      go false h = omega arith

  -- where it is not all of them, that test fails
  pub leading_stops : (k : ℕ) → leading p k < k → p (leading p k) ≡ false
  unfolding leading
  leading_stops zero h = absurd (omega arith)
  leading_stops (suc k) h = go (every p (suc k)) refl (leading_stops k) h
    where
      go : (b : Bool) → every p (suc k) ≡ b → (leading p k < k → p (leading p k) ≡ false) → cond b (suc k) (leading p k) < suc k → p (cond b (suc k) (leading p k)) ≡ false
      go true e r l = absurd (omega arith)
      go false e r l = last (ltb (leading p k) k) (ltb-true (leading p k) k) (ltb-false (leading p k) k)
        where
          last : (b : Bool) → (b ≡ true → leading p k < k) → (b ≡ false → k ≤ leading p k) → p (leading p k) ≡ false
          last true f g = r (f refl)
          last false f g =
              let m = leading_most k in
              let s = g refl in
              let q : leading p k ≡ k = omega arith in
              rw q (next_fails p k (rw q at (leading_passes p k)) e)
