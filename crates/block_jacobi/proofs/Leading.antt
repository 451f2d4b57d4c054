-- Where a run of rows with one owner ends. Assumes nothing.
use Prim.Native.Nat.{ℕ, ◌+◌, ◌-◌, ◌<◌, ◌≤◌}
use mathlib.Core.Path.{◌≡◌, refl, sym, ◌∙◌}
use mathlib.Core.Bool.{Bool}
use mathlib.Core.List.{List}
use native.Mathlib.Decide.{le_ind}
use native.Mathlib.Numerals.{add-one}
use native.Mathlib.Omega.{arith}
use lib.Dec.{eqb}
use lib.ListN.{get_or, length}
use borrow.Author.Tests.{eq-eqb, ne_eqb}
use Rattle.block_jacobi.specs.Runs.{leading, run_length, RunIs}
use Rattle.block_jacobi.proofs.RunsOf.{run_is}

abbrev owned : List ℕ → ℕ → ℕ → Bool
owned l start k = eqb (get_or l (start + k) 0) (get_or l start 0)

-- the invariant: the rows start .. start + k - 1 have the owner of start
pub record Owned (l : List ℕ) (start n k : ℕ) : Type 0 where
  pub within : k ≤ n
  pub led : leading (λ k. eqb (get_or l (start + k) 0) (get_or l start 0)) k ≡ k

pub owned_none : (l : List ℕ) (start n : ℕ) → Owned l start n 0
unfolding leading
owned_none l start n = record { within = omega arith; led = refl }

pub owned_more : (l : List ℕ) (start n k : ℕ) → Owned l start n k → k < n → get_or l (start + k) 0 ≡ get_or l start 0 → Owned l start n (k + 1)
unfolding leading
owned_more l start n k h lt e = record { within = omega arith; led = rw (add-one k, h.led, eq-eqb k k refl, eq-eqb (get_or l (start + k) 0) (get_or l start 0) e) }

pub owned_stop : (l : List ℕ) (start n k : ℕ) → Owned l start n k → k < n → (get_or l (start + k) 0 ≡ get_or l start 0 → ⊥) → leading (λ k. eqb (get_or l (start + k) 0) (get_or l start 0)) n ≡ k
unfolding leading
owned_stop l start n k h lt e = le_ind (λ m. leading (λ k. eqb (get_or l (start + k) 0) (get_or l start 0)) m ≡ k)
    (rw (h.led, eq-eqb k k refl, ne_eqb (get_or l (start + k) 0) (get_or l start 0) e))
    (λ m b q. rw (q, ne_eqb k m (λ z. omega arith))) n lt

pub run_stop : (l : List ℕ) (start n k : ℕ) → start < length l → Owned l start n k → k < n → (get_or l (start + k) 0 ≡ get_or l start 0 → ⊥) → n ≡ length l - start → RunIs (λ i. get_or l i 0) start (length l) k
unfolding run_length
run_stop l start n k s h lt e en = run_is (λ i. get_or l i 0) start (length l) k s (rw (← en) (sym (owned_stop l start n k h lt e)))

pub run_end : (l : List ℕ) (start n k : ℕ) → start < length l → Owned l start n k → n ≤ k → n ≡ length l - start → RunIs (λ i. get_or l i 0) start (length l) k
unfolding run_length
run_end l start n k s h le en = let e : k ≡ n = omega (arith, h.within) in run_is (λ i. get_or l i 0) start (length l) k s (rw (← en) (e ∙ sym (rw e at h.led)))
