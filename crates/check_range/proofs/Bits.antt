-- Refusal 18's test of a double's bits, as whole numbers, is its test of the double. Assumes nothing.
use Prim.Native.Nat.{ℕ, ◌%◌}
use mathlib.Core.Path.{◌≡◌, refl, ap, ◌∙◌}
use mathlib.Core.Bool.{Bool, false, ◌&&◌, ◌||◌}
use lib.Dec.{T, eqb, leb}
use lib.IntN.{ℤ}
use lib.Ieee.{Float, nan, inf, fin, binary64, fits, eq, le, lt, of_bits, to_bits}
use lib.Ieee.Bits.{of_bits-fits}
use Rattle.binary64.specs.Order.{absolute}
use Rattle.binary64.specs.SquareRoot.{unsigned}
use Rattle.rounding.proofs.BitsOrder.{bits_order}
use Rattle.rounding.proofs.BitsTell.{size_bits, size_fits, size_unsigned, is_zero}
use Rattle.check_range.specs.Range.{least, most, in_range}

-- ---- the two bounds
least_bits : to_bits binary64 least ≡ 0x3690_0000_0000_0000
unfolding of_bits to_bits
least_bits = refl

most_bits : to_bits binary64 most ≡ 0x4950_0000_0000_0000
unfolding of_bits to_bits
most_bits = refl

least_unsigned : T (unsigned least)
unfolding of_bits unsigned
least_unsigned = tt

most_unsigned : T (unsigned most)
unfolding of_bits unsigned
most_unsigned = tt

module _ (s : Bool) (m : ℕ) (e : ℤ) (t : T (fits binary64 (fin s m e))) where
  abbrev size : Float
  size = fin false m e

  from_least : le least size ≡ leb 0x3690_0000_0000_0000 (to_bits binary64 size)
  from_least = bits_order least size (of_bits-fits binary64 0x3690_0000_0000_0000) (size_fits s m e t) least_unsigned (size_unsigned s m e t) ∙ ap (λ (b : ℕ). leb b (to_bits binary64 size)) least_bits

  to_most : le size most ≡ leb (to_bits binary64 size) 0x4950_0000_0000_0000
  to_most = bits_order size most (size_fits s m e t) (of_bits-fits binary64 0x4950_0000_0000_0000) (size_unsigned s m e t) most_unsigned ∙ ap (leb (to_bits binary64 size)) most_bits

-- ---- the test
judged : (x : Float) → T (fits binary64 x) → (eqb (to_bits binary64 (absolute x)) 0 || (leb 0x3690_0000_0000_0000 (to_bits binary64 (absolute x)) && leb (to_bits binary64 (absolute x)) 0x4950_0000_0000_0000)) ≡ in_range x
unfolding absolute in_range
judged nan t = unfold to_bits eq le lt of_bits in refl
judged (inf s) t = unfold to_bits eq le lt of_bits in refl
judged (fin s m e) t = rw (is_zero s m e t, from_least s m e t, to_most s m e t)

pub in_bits : (x : Float) {b : ℕ} → T (fits binary64 x) → b ≡ to_bits binary64 x
    → (eqb (b % 0x8000_0000_0000_0000) 0 || (leb 0x3690_0000_0000_0000 (b % 0x8000_0000_0000_0000) && leb (b % 0x8000_0000_0000_0000) 0x4950_0000_0000_0000)) ≡ in_range x
in_bits x t e = rw (e, size_bits x t) (judged x t)
