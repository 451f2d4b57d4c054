-- The room for pairs, and the ways through `pair_room`. Assumes nothing.
use Prim.Native.Nat.{ℕ, ◌*◌, ◌-◌, ◌/◌, ◌<◌, ◌≤◌}
use mathlib.Core.Path.{◌≡◌, refl}
use mathlib.Core.Bool.{Bool, true, false, cond}
use native.Mathlib.Nat.{mul-le-mul}
use native.Mathlib.Omega.{arith}
use lib.Dec.{ltb}
use borrow.Author.Tests.{lt-ltb, le-ltb, ltb-false}
use Rattle.pairs.specs.Pairs.{pair_limit, pair_room}

pub room_none : (n : ℕ) → n ≡ 0 → 0 ≡ pair_room n
unfolding pair_room
room_none n e = rw e

-- w is n in 64 bits
module _ (w n : ℕ) (e : w ≡ n) where
  pub product_fits : n < 4294967296 → w * (w - 1) < 18446744073709551616
  product_fits h =
      let m : w * (w - 1) ≤ 4294967295 * 4294967295 = mul-le-mul {n₁ = w} {m₁ = w - 1} {n₂ = 4294967295} {m₂ = 4294967295} (omega arith) (omega arith) in omega arith

  pub room_most : pair_limit < w * (w - 1) / 2 → pair_limit ≡ pair_room n
  unfolding pair_room
  room_most h = rw (← e, lt-ltb pair_limit (w * (w - 1) / 2) h)

  pub room_all : w * (w - 1) / 2 ≤ pair_limit → w * (w - 1) / 2 ≡ pair_room n
  unfolding pair_room
  room_all h = rw (← e, le-ltb pair_limit (w * (w - 1) / 2) h)

-- no more than the limit
pub room_limit : (n : ℕ) → pair_room n ≤ pair_limit
unfolding pair_room
room_limit n = go (ltb pair_limit (n * (n - 1) / 2)) (ltb-false pair_limit (n * (n - 1) / 2))
  where
    go : (t : Bool) → (t ≡ false → n * (n - 1) / 2 ≤ pair_limit) → cond t pair_limit (n * (n - 1) / 2) ≤ pair_limit
    go true h = omega arith
    go false h = h refl
