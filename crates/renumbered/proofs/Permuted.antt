-- A permutation of the body numbers: bodies differ where they differed, and a test of every body does not depend on their order. Assumes nothing.
use Prim.Native.Nat.{ℕ, ◌<◌}
use mathlib.Core.Path.{◌≡◌, refl, sym, ap, ◌∙◌}
use mathlib.Core.Bool.{Bool, true, false}
use native.Mathlib.Omega.{arith}
use lib.Dec.{eqb}
use borrow.Author.Tests.{eqb-true, eqb-false, eq-eqb, ne_eqb}
use Rattle.loops.specs.Every.{every}
use Rattle.loops.proofs.Every.{every_iff}
use Rattle.renumbered.specs.Renumber.{Renumbering}

-- tests that are true together
same_bool : (a b : Bool) → (a ≡ true → b ≡ true) → (b ≡ true → a ≡ true) → a ≡ b
same_bool true b f g = sym (f refl)
same_bool false true f g = g refl
same_bool false false f g = refl

module _ (n : ℕ) (p q : ℕ → ℕ) (r : Renumbering n p q) where
  pub one_to_one : (a b : ℕ) → a < n → b < n → eqb (p a) (p b) ≡ eqb a b
  one_to_one a b h k = go (eqb a b) refl
    where
      go : (t : Bool) → eqb a b ≡ t → eqb (p a) (p b) ≡ t
      go true e = eq-eqb (p a) (p b) (ap p (eqb-true a b e))
      go false e = ne_eqb (p a) (p b) (λ s. eqb-false a b e (sym (r.back a h) ∙ ap q s ∙ r.back b k))

  pub every_permuted : (f g : ℕ → Bool) → ((b : ℕ) → b < n → g (p b) ≡ f b) → every g n ≡ every f n
  every_permuted f g e =
      same_bool (every g n) (every f n) (λ h. (every_iff f n).1 (λ b k. sym (e b k) ∙ (every_iff g n).0 h (p b) (r.new_below b k)))
      (λ h. (every_iff g n).1 (λ b k. ap g (sym (r.forth b k)) ∙ e (q b) (r.old_below b k) ∙ (every_iff f n).0 h (q b) (r.old_below b k)))

  -- of what each body has under its old number
  pub every_old : (f : ℕ → Bool) → every (λ b. f (q b)) n ≡ every f n
  every_old f = every_permuted f (λ b. f (q b)) (λ b h. ap f (r.back b h))

-- where there are no bodies, every two functions are one
pub no_bodies : (p q : ℕ → ℕ) → Renumbering 0 p q
no_bodies p q = record { new_below = λ b h. absurd (omega arith); old_below = λ b h. absurd (omega arith); back = λ b h. absurd (omega arith); forth = λ b h. absurd (omega arith) }
