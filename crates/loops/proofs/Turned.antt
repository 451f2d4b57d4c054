-- What holds along the turns of a loop, where none is refused. Assumes nothing.
use Prim.Native.Nat.{ℕ, zero, suc, ◌<◌, ◌≤◌}
use mathlib.Core.Path.{◌≡◌, refl}
use native.Mathlib.Omega.{arith}
use Rattle.loops.specs.Run.{Run, going, ended, on, turns}

pub unlike : {S A R : Type 0} (a : A) (s : S) → ◌≡◌ {A = Run S A} (ended a) (going s) → R
unlike a s e = absurd (let z : ◌≡◌ {A = ℕ} 0 1 = cc in omega arith)

module _ {S A : Type 0} (f : ℕ → S → Run S A) (s : S) (n : ℕ) (P : ℕ → S → Type 0) (holds : P 0 s) (more : (i : ℕ) (t u : S) → i < n → P i t → f i t ≡ going u → P (suc i) u) where
  one_more : (k : ℕ) (r : Run S A) → ((t : S) → r ≡ going t → P k t) → k < n → (u : S) → on r (f k) ended ≡ going u → P (suc k) u
  unfolding on
  one_more k (going t) h l u e = more k t u l (h t refl) e
  one_more k (ended a) h l u e = unlike a u e

  pub turned : (k : ℕ) → k ≤ n → (u : S) → turns f s k ≡ going u → P k u
  unfolding turns
  turned zero l u e = let z : s ≡ u = cc in rw (← z) holds
  turned (suc k) l u e = one_more k (turns f s k) (λ t q. turned k (omega arith) t q) (omega arith) u e
