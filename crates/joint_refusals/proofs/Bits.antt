-- Refusal 26's test of a double's bits, as whole numbers, is its test of the double. Assumes nothing.
use Prim.Native.Nat.{ℕ, ◌+◌}
use mathlib.Core.Path.{◌≡◌, refl}
use mathlib.Core.Bool.{Bool, true, false, ◌&&◌, ◌||◌}
use native.Mathlib.Omega.{arith}
use lib.Dec.{T, eqb, ltb}
use lib.Ieee.{Float, nan, inf, fin, binary64, fits, le, lt, eq, of_bits, to_bits}
use borrow.Author.Tests.{lt-ltb, le-ltb, eq-eqb, ne_eqb, eqb-true, eqb-false}
use Rattle.rounding.proofs.BitsTell.{signed_bits, below_infinity, from_zero, minus_zero_lem}
use Rattle.joint_refusals.specs.Tolerances.{tolerance_fits}

judged : (x : Float) → T (fits binary64 x) → (ltb (to_bits binary64 x) 0x7ff0_0000_0000_0000 || eqb (to_bits binary64 x) 0x8000_0000_0000_0000) ≡ tolerance_fits x
unfolding tolerance_fits
judged nan t = unfold to_bits le lt eq of_bits in refl
judged (inf true) t = unfold to_bits le lt eq of_bits in refl
judged (inf false) t = unfold to_bits le lt eq of_bits in refl
judged (fin false m e) t = rw (lt-ltb (to_bits binary64 (fin false m e)) 0x7ff0_0000_0000_0000 (below_infinity false m e t), from_zero m e t)
judged (fin true m e) t = rw (signed_bits m e, minus_zero_lem m e t) (signed (to_bits binary64 (fin false m e)))
  where
    -- behind a minus sign: not below, and −0.0 where nothing follows the sign
    signed : (n : ℕ) → (ltb (0x8000_0000_0000_0000 + n) 0x7ff0_0000_0000_0000 || eqb (0x8000_0000_0000_0000 + n) 0x8000_0000_0000_0000) ≡ (eqb n 0 && true)
    signed n = rw (le-ltb (0x8000_0000_0000_0000 + n) 0x7ff0_0000_0000_0000 (omega arith)) (go (eqb n 0) refl)
      where
        go : (b : Bool) → eqb n 0 ≡ b → eqb (0x8000_0000_0000_0000 + n) 0x8000_0000_0000_0000 ≡ (b && true)
        go true h = eq-eqb (0x8000_0000_0000_0000 + n) 0x8000_0000_0000_0000 (let z = eqb-true n 0 h in omega arith)
        go false h = ne_eqb (0x8000_0000_0000_0000 + n) 0x8000_0000_0000_0000 (λ e. let z = eqb-false n 0 h in z (omega arith))

pub fits_bits : (x : Float) {b : ℕ} → T (fits binary64 x) → b ≡ to_bits binary64 x → (ltb b 0x7ff0_0000_0000_0000 || eqb b 0x8000_0000_0000_0000) ≡ tolerance_fits x
fits_bits x t e = rw e (judged x t)
