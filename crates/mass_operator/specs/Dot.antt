-- The dot product of two vectors, each number rounded by itself: pcg.rs, checked_dot_product.
use Rattle.std.specs.Prelude.{ℕ, zero, suc, List, get_or, length, Float}
use Rattle.std.specs.Float.{nan, binary64}
use Rattle.std.specs.Float.Ieee.{add, mul}
use Rattle.loops.specs.Cleared.{plus_zero}

-- x · y over the first k numbers, ascending from +0.0
unfoldable pub dot_to : List Float → List Float → ℕ → Float
dot_to x y zero = plus_zero
dot_to x y (suc k) = add binary64 (dot_to x y k) (mul binary64 (get_or x k nan) (get_or y k nan))

unfoldable pub dot_product_of : List Float → List Float → Float
dot_product_of x y = dot_to x y (length x)
