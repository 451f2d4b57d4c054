-- Runs of one owner, and a loop that goes from the beginning of each to that of the next. Assumes nothing.
use Prim.Native.Nat.{ℕ, zero, suc, ◌+◌, ◌-◌, ◌<◌, ◌≤◌}
use mathlib.Core.Path.{◌≡◌, refl, sym, ap, subst, ◌∙◌}
use mathlib.Core.Bool.{Bool, true, false, ◌&&◌, cond}
use mathlib.Core.Logic.{◌⊎◌, inl, inr}
use native.Mathlib.Decide.{le_ind, dec_lt}
use native.Mathlib.Nat.{eq-or-lt_of_le}
use native.Mathlib.Omega.{arith}
use lib.Dec.{eqb}
use borrow.Author.Tests.{eq-eqb, ne_eqb, eqb-true, eqb-false}
use Rattle.loops.specs.Run.{Run, going, ended, turns}
use Rattle.loops.proofs.Loop.{on_going, on_ended}
use Rattle.loops.proofs.Both.{both}
use Rattle.sparse.proofs.Hop.{glide}
use Rattle.block_jacobi.specs.Runs.{begins, leading, run_length, RunIs}

-- ---- `leading`
one_fails : (a b : Bool) → a ≡ true → (a && b) ≡ false → b ≡ false
one_fails true b e h = h
one_fails false b e h = absurd (subst (λ (t : Bool). cond t ⊥ Unit) e tt)

module _ (p : ℕ → Bool) where
  pub leading_le : (m : ℕ) → leading p m ≤ m
  unfolding leading
  leading_le zero = omega arith
  leading_le (suc m) = by (eqb (leading p m) m && p m) (leading_le m)
    where
      by : (b : Bool) → leading p m ≤ m → cond b (suc m) (leading p m) ≤ suc m
      by true h = omega arith
      by false h = omega arith

  -- the indices that it counts pass
  pub leading_passes : (m k : ℕ) → k < leading p m → p k ≡ true
  unfolding leading
  leading_passes zero k h = absurd (omega arith)
  leading_passes (suc m) k h = by (eqb (leading p m) m && p m) refl h (leading_passes m k)
    where
      by : (b : Bool) → (eqb (leading p m) m && p m) ≡ b → k < cond b (suc m) (leading p m) → (k < leading p m → p k ≡ true) → p k ≡ true
      by false e l ih = ih l
      by true e l ih = order (eq-or-lt_of_le (below l))
        where
          below : k < suc m → k ≤ m
          below l = omega arith

          order : (k ≡ m) ⊎ (k < m) → p k ≡ true
          order (inl q) = rw q (both (eqb (leading p m) m) (p m) e).1
          order (inr q) = ih (rw (eqb-true (leading p m) m (both (eqb (leading p m) m) (p m) e).0) q)

  -- the first that it leaves out fails
  pub leading_fails : (m : ℕ) → leading p m < m → p (leading p m) ≡ false
  unfolding leading
  leading_fails zero h = absurd (omega arith)
  leading_fails (suc m) h = by (eqb (leading p m) m && p m) refl h (leading_fails m)
    where
      by : (b : Bool) → (eqb (leading p m) m && p m) ≡ b → cond b (suc m) (leading p m) < suc m → (leading p m < m → p (leading p m) ≡ false) → p (cond b (suc m) (leading p m)) ≡ false
      by true e l ih = absurd (omega arith)
      by false e l ih = order (eq-or-lt_of_le (leading_le m))
        where
          order : (leading p m ≡ m) ⊎ (leading p m < m) → p (leading p m) ≡ false
          order (inl q) = rw q (one_fails (eqb (leading p m) m) (p m) (eq-eqb (leading p m) m q) e)
          order (inr q) = ih q

-- ---- runs
module _ (owner : ℕ → ℕ) (start n : ℕ) where
  pub run_within : start ≤ n → start + run_length owner start n ≤ n
  unfolding run_length
  run_within h = omega (arith, leading_le (λ k. eqb (owner (start + k)) (owner start)) (n - start))

  pub run_owner : (k : ℕ) → k < run_length owner start n → owner (start + k) ≡ owner start
  unfolding run_length
  run_owner k h = eqb-true _ _ (leading_passes (λ k. eqb (owner (start + k)) (owner start)) (n - start) k h)

  pub run_next : start + run_length owner start n < n → owner (start + run_length owner start n) ≡ owner start → ⊥
  unfolding run_length
  run_next h = eqb-false _ _ (leading_fails (λ k. eqb (owner (start + k)) (owner start)) (n - start) (omega arith))

  -- a run has a row: its first
  pub run_some : start < n → 0 < run_length owner start n
  run_some h = order (dec_lt 0 (run_length owner start n))
    where
      none : (r : ℕ) → (0 < r → ⊥) → r ≡ 0
      none r g = omega (arith, g)

      order : Dec (0 < run_length owner start n) → 0 < run_length owner start n
      order (yes g) = g
      order (no g) = let e = none _ g in absurd (run_next (rw e (omega arith)) (rw e (ap owner (at_zero start))))
        where
          at_zero : (x : ℕ) → x + 0 ≡ x
          at_zero x = omega arith

  pub run_is : (r : ℕ) → start < n → r ≡ run_length owner start n → RunIs owner start n r
  run_is r h e = record { is = e; some = rw e (run_some h); within = rw e (run_within (omega arith)) }

module _ (owner : ℕ → ℕ) where
  -- a row whose owner is that of the row before begins no run
  pub goes_on : (i : ℕ) → owner (suc i) ≡ owner i → begins owner (suc i) ≡ false
  unfolding begins
  goes_on i e = rw (eq-eqb _ _ e)

  pub begins_anew : (i : ℕ) → (owner (suc i) ≡ owner i → ⊥) → begins owner (suc i) ≡ true
  unfolding begins
  begins_anew i e = rw (ne_eqb _ _ e)

  -- inside a run none begins
  pub run_inside : (start n x : ℕ) → start < x → x < start + run_length owner start n → begins owner x ≡ false
  run_inside start n zero h l = absurd (omega arith)
  run_inside start n (suc x) h l = goes_on x (owned (suc x) (omega arith) l ∙ sym (owned x (omega arith) (omega arith)))
    where
      owned : (y : ℕ) → start ≤ y → y < start + run_length owner start n → owner y ≡ owner start
      owned y h l = let e : start + (y - start) ≡ y = omega arith in rw e at (run_owner owner start n (y - start) (omega arith))

  -- behind a run the next one begins
  pub run_behind : (start n : ℕ) → start < n → start + run_length owner start n < n → begins owner (start + run_length owner start n) ≡ true
  run_behind start n h l = behind (run_length owner start n) refl (run_some owner start n h)
    where
      behind : (r : ℕ) → run_length owner start n ≡ r → 0 < r → begins owner (start + r) ≡ true
      behind zero e g = absurd (omega arith)
      behind (suc r) e g = rw (shift start r) (begins_anew (start + r) (λ q. run_next owner start n l (rw (e, shift start r) (q ∙ run_owner owner start n r (rw e (omega arith))))))
        where
          shift : (a b : ℕ) → a + suc b ≡ suc (a + b)
          shift a b = omega arith

-- ---- a loop over the runs: those before `start` were taken, and led to t
pub record Runs {S A : Type 0} (f : ℕ → S → Run S A) (owner : ℕ → ℕ) (s : S) (n start : ℕ) (t : S) : Type 0 where
  pub within : start ≤ n
  pub led : turns f s start ≡ going t
  pub first : start < n → begins owner start ≡ true

-- f does nothing at a row that begins no run
pub record Passes {S A : Type 0} (f : ℕ → S → Run S A) (owner : ℕ → ℕ) : Type 0 where
  pub pass : (i : ℕ) (t : S) → begins owner i ≡ false → f i t ≡ going t

module _ {S A : Type 0} {f : ℕ → S → Run S A} {owner : ℕ → ℕ} {s : S} {n : ℕ} where
  pub runs_none : Runs f owner s n 0 s
  unfolding turns begins
  runs_none = record { within = omega arith; led = refl; first = λ _. refl }

  pub runs_more : {start len : ℕ} {t u : S} → Runs f owner s n start t → Passes f owner → start < n → len ≡ run_length owner start n → f start t ≡ going u → Runs f owner s n (start + len) u
  unfolding turns
  runs_more {start} {len} {t} {u} h g l e q = rw e (record {
    within = run_within owner start n (omega arith);
    led = glide f s (suc start) (on_going _ _ _ h.led ∙ q) (start + run_length owner start n) (omega (arith, run_some owner start n l))
        (λ x a b. g.pass x u (run_inside owner start n x a b));
    first = run_behind owner start n l;
  })

  pub runs_stop : {start : ℕ} {t : S} {a : A} → Runs f owner s n start t → start < n → f start t ≡ ended a → turns f s n ≡ ended a
  unfolding turns
  runs_stop {a = a} h l e = le_ind (λ m. turns f s m ≡ ended a) (on_going _ _ _ h.led ∙ e) (λ m _ p. on_ended _ _ _ p) n l

  pub runs_end : {start : ℕ} {t : S} → Runs f owner s n start t → n ≤ start → turns f s n ≡ going t
  runs_end {start} h l = let e : start ≡ n = omega (arith, h.within) in rw e at h.led
