-- The factor's memory, by mode: how long it is for at most N rows, and that parts of that length are what the mode calls for. Assumes nothing.
use Prim.Native.Nat.{ℕ, ◌+◌, ◌*◌, ◌-◌, ◌/◌, ◌<◌, ◌≤◌}
use mathlib.Core.Path.{◌≡◌, refl}
use mathlib.Core.Bool.{Bool, true, false, cond}
use native.Mathlib.Nat.{mul-le-mul, div-le_of_le-mul}
use native.Mathlib.Omega.{arith}
use lib.Dec.{ltb}
use borrow.Author.Tests.{ltb-true}
use Rattle.pairs.specs.Pairs.{pair_limit, pair_room}
use Rattle.preconditioner.specs.Mode.{mode_of, room_mode}
use Rattle.loops.specs.Cleared.{plus_zero}
use Rattle.preconditioner.specs.Room.{pattern_room, order_room, values_room}
use Rattle.preconditioner.specs.declared.mode.Mode.{Mode}
use Rattle.preconditioner.specs.declared.mode.Mode.TheVariants as modes
use Rattle.own_memory.specs.Job.{FactorRoom}

-- ---- no more places than two rows each
room_all : (n : ℕ) → pair_room n ≤ n * (n - 1) / 2
unfolding pair_room
room_all n = go (n * (n - 1) / 2) (ltb pair_limit (n * (n - 1) / 2)) (ltb-true pair_limit (n * (n - 1) / 2))
  where
    go : (x : ℕ) (t : Bool) → (t ≡ true → pair_limit < x) → cond t pair_limit x ≤ x
    go x true h = let l = h refl in omega arith
    go x false h = omega arith

pub pairs_small : (n : ℕ) → n ≤ 128 → pair_room n ≤ 8128
pairs_small n h =
    let m : n * (n - 1) ≤ 128 * 127 = mul-le-mul {n₁ = n} {m₁ = n - 1} {n₂ = 128} {m₂ = 127} h (omega arith) in
    let d : n * (n - 1) / 2 ≤ 8128 = div-le_of_le-mul 2 m in
    omega (arith, room_all n)

-- ---- what at most N rows and P pairs call for
module _ (n N P : ℕ) (h : n ≤ N) (p : pair_room n ≤ P) where
  pub pattern_within : pattern_room (modes.IncompleteCholesky plus_zero) n ≤ N + 1 + P
  unfolding pattern_room
  pattern_within = omega arith

  pub order_within : order_room (modes.IncompleteCholesky plus_zero) n ≤ N + 2 * P
  unfolding order_room
  order_within = omega arith

  pub values_within : values_room (modes.IncompleteCholesky plus_zero) n ≤ P
  unfolding values_room
  values_within = p

module _ (n N : ℕ) (h : n ≤ N) where
  pub owners_within : pattern_room modes.BlockJacobi n ≤ N
  unfolding pattern_room
  owners_within = h

  pub blocks_within : values_room modes.BlockJacobi n ≤ 36 * N
  unfolding values_room
  blocks_within = omega arith

-- ---- the mode's memory
mode_0 : (mode : ℕ) → mode ≡ 0 → modes.Diagonal ≡ room_mode mode
unfolding mode_of
mode_0 mode e = rw e

pub mode_1 : (mode : ℕ) → mode ≡ 1 → modes.IncompleteCholesky plus_zero ≡ room_mode mode
unfolding mode_of
mode_1 mode e = rw e

pub mode_2 : (mode : ℕ) → mode ≡ 2 → modes.BlockJacobi ≡ room_mode mode
unfolding mode_of
mode_2 mode e = rw e

pub factor_room : {n mode pattern order values : ℕ} {k : Mode} → k ≡ room_mode mode → pattern ≡ pattern_room k n → order ≡ order_room k n → values ≡ values_room k n → FactorRoom mode n pattern order values
factor_room e p o v = record { pattern_long = rw e at p; order_long = rw e at o; values_long = rw e at v }

pub no_order : (n : ℕ) → 0 ≡ order_room modes.BlockJacobi n
unfolding order_room
no_order n = refl

pub no_factor : (n mode : ℕ) → mode ≡ 0 → FactorRoom mode n 0 0 0
unfolding pattern_room order_room values_room
no_factor n mode e = factor_room {n = n} {k = modes.Diagonal} (mode_0 mode e) refl refl refl
