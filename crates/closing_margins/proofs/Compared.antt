-- What `lt` and `le` say of any two doubles. Assumes nothing.
use Prim.Native.Nat.{ℕ, ◌+◌, ◌*◌, ◌<◌}
use mathlib.Core.Path.{◌≡◌, refl}
use mathlib.Core.Bool.{Bool, true, false, ◌&&◌, ◌||◌, false≢true}
use native.Mathlib.Omega.{arith}
use lib.Dec.{ltb, eqb}
use borrow.Author.Tests.{ltb-true, eqb-true, le-ltb, eq-eqb, ne_eqb}
use lib.Ieee.{Float, nan, inf, fin, up, down, lt, eq, le}

-- a number below another is not at least it
less_less : (a b : ℕ) → ltb a b ≡ true → (ltb b a || (eqb b a && true)) ≡ false
less_less a b h = let l = ltb-true a b h in rw (le-ltb b a (omega arith), ne_eqb b a (λ e. no a b l e))
  where
    no : (a b : ℕ) → a < b → b ≡ a → ⊥
    no a b l e = omega arith

pub lt_not_le : (x y : Float) → lt x y ≡ true → le y x ≡ false
unfolding le lt eq
lt_not_le nan y h = absurd (false≢true h)
lt_not_le (inf s) nan h = refl
lt_not_le (inf true) (inf true) h = absurd (false≢true h)
lt_not_le (inf true) (inf false) h = refl
lt_not_le (inf false) (inf t) h = absurd (false≢true h)
lt_not_le (inf true) (fin t n d) h = refl
lt_not_le (inf false) (fin t n d) h = absurd (false≢true h)
lt_not_le (fin s m e) nan h = refl
lt_not_le (fin s m e) (inf true) h = absurd (false≢true h)
lt_not_le (fin s m e) (inf false) h = refl
lt_not_le (fin false m e) (fin false n d) h = less_less (m * up e * down d) (n * up d * down e) h
lt_not_le (fin false m e) (fin true n d) h = absurd (false≢true h)
lt_not_le (fin true m e) (fin true n d) h = mirror (m * up e * down d) (n * up d * down e) h
  where
    mirror : (a b : ℕ) → ltb b a ≡ true → (ltb a b || (eqb b a && true)) ≡ false
    mirror a b h = let l = ltb-true b a h in rw (le-ltb a b (omega arith), ne_eqb b a (λ e. no a b l e))
      where
        no : (a b : ℕ) → b < a → b ≡ a → ⊥
        no a b l e = omega arith
lt_not_le (fin true m e) (fin false n d) h = across (m * up e * down d) (n * up d * down e) h
  where
    both : (p q : Bool) → (p ≡ true → q ≡ true → ⊥) → (p && q) ≡ false
    both true true k = absurd (k refl refl)
    both true false k = refl
    both false q k = refl

    across : (a b : ℕ) → ltb 0 (a + b) ≡ true → (false || (eqb b a && (false || eqb b 0))) ≡ false
    across a b h = both (eqb b a) (eqb b 0) (λ p q. no a b (ltb-true 0 (a + b) h) (eqb-true b a p) (eqb-true b 0 q))
      where
        no : (a b : ℕ) → 0 < a + b → b ≡ a → b ≡ 0 → ⊥
        no a b l p q = omega arith

level : (p : Bool) (a : ℕ) → (p || (eqb a a && true)) ≡ true
level true a = refl
level false a = rw (eq-eqb a a refl)

-- a number that is at most some number is no NaN, and so at most itself
pub le_self : (x y : Float) → le x y ≡ true → le x x ≡ true
unfolding le lt eq
le_self nan y h = h
le_self (inf true) y h = refl
le_self (inf false) y h = refl
le_self (fin true m e) y h = level (ltb (m * up e * down e) (m * up e * down e)) (m * up e * down e)
le_self (fin false m e) y h = level (ltb (m * up e * down e) (m * up e * down e)) (m * up e * down e)
