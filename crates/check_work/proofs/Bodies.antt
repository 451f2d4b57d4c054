-- Where the bodies of a lent row stand in a slice of six doubles a body. Assumes nothing.
use Prim.Native.Nat.{ℕ, ◌+◌, ◌*◌, ◌<◌, ◌≤◌}
use mathlib.Core.Path.{◌≡◌}
use mathlib.Core.List.{List}
use native.Mathlib.Omega.{arith}
use lib.Ieee.{Float}
use Rattle.kapitsa_joint.specs.Row.{jacobian_of}
use Rattle.kapitsa_joint.specs.declared.row.RowJacobian.{RowJacobian}
use Rattle.check_measure.specs.Verdict.{size_of_row}
use Rattle.check_work.specs.Rows.{rows_in, row_sizes_in, Valid}

-- ---- below the body count
module _ {n b : ℕ} {numbers : List Float} {words : List ℕ} (v : Valid n b numbers words) (i : ℕ) (h : i < n) where
  pub below_a : (rows_in numbers words i).body_a < b
  unfolding jacobian_of
  below_a = v.a i h

  pub below_b : (rows_in numbers words i).body_b < b
  unfolding jacobian_of
  below_b = v.b i h

  pub size_below_a : (row_sizes_in numbers words i).body_a < b
  unfolding size_of_row
  size_below_a = below_a

  pub size_below_b : (row_sizes_in numbers words i).body_b < b
  unfolding size_of_row
  size_below_b = below_b

  pub room : {m : ℕ} → m ≡ 6 * b → (6 * (rows_in numbers words i).body_a + 6 ≤ m) × (6 * (rows_in numbers words i).body_b + 6 ≤ m)
  room e = (omega (arith, below_a), omega (arith, below_b))

-- ---- of a row that a call has read, and of its sizes
module _ {j k : RowJacobian} {m : ℕ} (e : j ≡ k) (h : (6 * k.body_a + 6 ≤ m) × (6 * k.body_b + 6 ≤ m)) where
  pub read : (6 * j.body_a + 6 ≤ m) × (6 * j.body_b + 6 ≤ m)
  read = rw e h

  pub size_read : {r : RowJacobian} → r ≡ size_of_row j → (6 * r.body_a + 6 ≤ m) × (6 * r.body_b + 6 ≤ m)
  unfolding size_of_row
  size_read s = rw (s, e) h

-- ---- as many rows by another count
pub valid_same : {n m b : ℕ} {numbers : List Float} {words : List ℕ} → m ≡ n → Valid n b numbers words → Valid m b numbers words
valid_same e v = rw e v
