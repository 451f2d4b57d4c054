-- Finite doubles in order: each is at most itself, an order of two goes on to a third, and the larger of two is at least each. Assumes nothing.
use Prim.Native.Nat.{ℕ, ◌+◌, ◌≤◌, ◌<◌}
use mathlib.Core.Path.{◌≡◌, refl, sym, ◌∙◌}
use mathlib.Core.Bool.{Bool, true, false, cond}
use native.Mathlib.Nat.{le_refl}
use native.Mathlib.Omega.{arith}
use lib.Dec.{T}
use lib.Ieee.{Float, Format, fits, le, lt}
use lib.Ieee.Scale.{finite}
use borrow.Author.Tests.{leb-true, le-leb, ltb-true, ltb-false}
use Rattle.binary64.specs.Order.{larger}
use Rattle.rounding.specs.Value.{plus, less}
use Rattle.rounding.proofs.Compare.{lt_is, le_is}

-- a finite double of the format
pub record Number (f : Format) (x : Float) : Type 0 where
  pub held : T (fits f x)
  pub is_finite : T (finite x)

module _ (f : Format) where
  pub order_of_lem : {x y : Float} → Number f x → Number f y → le x y ≡ true → plus f x + less f y ≤ plus f y + less f x
  order_of_lem {x} {y} p q h = leb-true (plus f x + less f y) (plus f y + less f x) (sym (le_is f x y p.held q.held p.is_finite q.is_finite) ∙ h)

  pub in_order : {x y : Float} → Number f x → Number f y → plus f x + less f y ≤ plus f y + less f x → le x y ≡ true
  in_order {x} {y} p q h = le_is f x y p.held q.held p.is_finite q.is_finite ∙ le-leb (plus f x + less f y) (plus f y + less f x) h

  pub at_most_itself : {x : Float} → Number f x → le x x ≡ true
  at_most_itself {x} p = in_order p p (le_refl (plus f x + less f x))

  pub at_most_on : {x y z : Float} → Number f x → Number f y → Number f z → le x y ≡ true → le y z ≡ true → le x z ≡ true
  at_most_on {x} {y} {z} p q r a b = in_order p r (go (plus f x) (less f x) (plus f y) (less f y) (plus f z) (less f z) (order_of_lem p q a) (order_of_lem q r b))
    where
      go : (a b c d e g : ℕ) → a + d ≤ c + b → c + g ≤ e + d → a + g ≤ e + b
      go a b c d e g h k = omega arith

  module _ {x y : Float} (p : Number f x) (q : Number f y) where
    pub larger_number : Number f (larger x y)
    unfolding larger
    larger_number = go (lt x y)
      where
        go : (b : Bool) → Number f (cond b y x)
        go true = q
        go false = p

    lower : lt x y ≡ true → le x y ≡ true
    lower h = in_order p q (weaken (ltb-true (plus f x + less f y) (plus f y + less f x) (sym (lt_is f x y p.held q.held p.is_finite q.is_finite) ∙ h)))
      where
        weaken : {a b : ℕ} → a < b → a ≤ b
        weaken h = omega arith

    higher : lt x y ≡ false → le y x ≡ true
    higher h = in_order q p (ltb-false (plus f x + less f y) (plus f y + less f x) (sym (lt_is f x y p.held q.held p.is_finite q.is_finite) ∙ h))

    pub larger_left : le x (larger x y) ≡ true
    unfolding larger
    larger_left = go (lt x y) refl
      where
        go : (b : Bool) → lt x y ≡ b → le x (cond b y x) ≡ true
        go true h = lower h
        go false h = at_most_itself p

    pub larger_right : le y (larger x y) ≡ true
    unfolding larger
    larger_right = go (lt x y) refl
      where
        go : (b : Bool) → lt x y ≡ b → le y (cond b y x) ≡ true
        go true h = at_most_itself q
        go false h = higher h
