-- A block in lent memory. Assumes nothing.
use Prim.Native.Nat.{ℕ, ◌+◌, ◌*◌, ◌-◌}
use mathlib.Core.Path.{◌≡◌}
use mathlib.Core.List.{List, ◌++◌}
use native.Mathlib.Omega.{arith}
use lib.ListN.{take, drop}
use lib.Ieee.{Float}
use Rattle.block_jacobi.specs.Blocks.{put_stretch, put_block}

-- the length of a part is what its ends leave
part : (a n : ℕ) → a + n - a ≡ n
part a n = omega arith

pub block_put : (l x y : List Float) (start : ℕ) → x ≡ y → take (36 * start) l ++ (x ++ drop (36 * start + 36 - 36 * start) (drop (36 * start) l)) ≡ put_block l start y
unfolding put_block put_stretch
block_put l x y start e = rw (e, part (36 * start) 36)
