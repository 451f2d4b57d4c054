-- A loop that looks for the first index that fails a test: the ruleset `led` closes its needs. Assumes nothing.
use Prim.Native.Nat.{ℕ, suc, ◌+◌, ◌<◌, ◌≤◌}
use mathlib.Core.Path.{◌≡◌, refl, sym, ◌∙◌}
use mathlib.Core.Bool.{Bool, true, false, not}
use native.Mathlib.Numerals.{add-one}
use native.Mathlib.Decide.{le_ind}
use native.Mathlib.Omega.{arith}
use borrow.Author.Tests.{eq-eqb, ne_eqb, not-true, not-false}
use Rattle.loops.proofs.Loop.{loops}
use Rattle.block_jacobi.specs.Runs.{leading}

-- the invariant: of n indices those below i have passed
pub record Led (p : ℕ → Bool) (n i : ℕ) : Type 0 where
  pub within : i ≤ n
  pub all : leading p i ≡ i

next_one : (p : ℕ → Bool) (i : ℕ) → leading p i ≡ i → p i ≡ true → leading p (suc i) ≡ suc i
unfolding leading
next_one p i e t = rw (e, eq-eqb i i refl, t)

stop_one : (p : ℕ → Bool) (i : ℕ) → leading p i ≡ i → p i ≡ false → leading p (suc i) ≡ i
unfolding leading
stop_one p i e t = rw (e, eq-eqb i i refl, t)

stopped : (p : ℕ → Bool) (i m : ℕ) → i < m → leading p m ≡ i → leading p (suc m) ≡ i
unfolding leading
stopped p i m l e = rw (e, ne_eqb i m (λ q. omega (arith, l, q)))

module _ {p : ℕ → Bool} {n : ℕ} where
  pub led_none : Led p n 0
  unfolding leading
  led_none = record { within = omega arith; all = refl }

  pub led_more : {i : ℕ} {b : Bool} → Led p n i → i < n → b ≡ p i → not b ≡ false → Led p n (i + 1)
  led_more {i} {b} h l e t = record { within = omega arith; all = rw add-one (next_one p i h.all (sym e ∙ not-false b t)) }

  -- the loop is left at the first that fails
  pub led_stop : {i : ℕ} {b : Bool} → Led p n i → i < n → b ≡ p i → not b ≡ true → i ≡ leading p n
  led_stop {i} {b} h l e t = sym (le_ind (λ m. leading p m ≡ i) (stop_one p i h.all (sym e ∙ not-true b t)) (λ m q r. stopped p i m q r) n l)

  pub led_end : {i : ℕ} → Led p n i → n ≤ i → n ≡ leading p n
  led_end {i} h l = let e : n ≡ i = omega arith in rw e (sym h.all)

pub ruleset led = (led_none, led_more, led_stop, led_end, loops)
