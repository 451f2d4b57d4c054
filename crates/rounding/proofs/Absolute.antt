-- The size of a number, and a number with its size as an exact input of the error analysis. Assumes nothing.
use Prim.Native.Nat.{◌+◌, ℕ}
use mathlib.Core.Bool.{false, true}
use mathlib.Core.Path.{refl, subst, sym}
use native.Mathlib.Nat.{add-zero, zero-add}
use lib.Dec.{T}
use lib.Ieee.{Float, Format, fin, fits, inf, nan, neg}
use lib.Ieee.Fits.{inf-fits, neg-fits}
use lib.Ieee.Scale.{finite}
use Rattle.binary64.specs.Order.{absolute}
use Rattle.binary64.specs.Units.{units_of}
use Rattle.rounding.proofs.Near.{Floor, Near, near_input}
use Rattle.rounding.proofs.Parts.{Parts}
use Rattle.rounding.specs.Value.{less, plus, val}

pub absolute_fits : (f : Format) (x : Float) → T (fits f x) → T (fits f (absolute x))
unfolding absolute
absolute_fits f nan t = t
absolute_fits f (inf s) t = inf-fits f false
absolute_fits f (fin true m e) t = unfold neg in neg-fits f (fin true m e) t
absolute_fits f (fin false m e) t = t

pub absolute_finite : (x : Float) → T (finite x) → T (finite (absolute x))
unfolding absolute
absolute_finite nan t = t
absolute_finite (inf s) t = t
absolute_finite (fin s m e) t = t

pub absolute_parts : (f : Format) (x : Float) → Parts f (absolute x) (plus f x + less f x) 0
unfolding absolute plus less units_of
absolute_parts f nan = record { is_plus = refl; is_less = refl }
absolute_parts f (inf s) = record { is_plus = refl; is_less = refl }
absolute_parts f (fin true m e) = record { is_plus = sym (zero-add (units_of f (fin true m e))); is_less = refl }
absolute_parts f (fin false m e) = record { is_plus = sym (add-zero (units_of f (fin false m e))); is_less = refl }

-- an input: finite, and 0 or 2 ^ i units at least
pub record Input (f : Format) (i : ℕ) (x : Float) : Type 0 where
  pub held : T (fits f x)
  pub is_finite : T (finite x)
  pub floor : Floor i (plus f x + less f x)

pub near_of : (f : Format) (i : ℕ) (x : Float) → Input f i x → Near f 0 1 i x (absolute x) (val f x)
near_of f i x n =
    let p = absolute_parts f x in
    near_input f i x (absolute x) n.held (absolute_fits f x n.held) n.is_finite p.is_plus p.is_less (subst (λ (k : ℕ). Floor i k) (sym p.is_plus) n.floor)
