-- A byte past the end. Assumes nothing.
use Prim.Native.Nat.{ℕ, ◌≤◌}
use mathlib.Core.Path.{◌≡◌, sym}
use mathlib.Core.List.{List}
use lib.ListN.{get_or, length, get_or-eq_default}

pub byte_past : (list : List ℕ) (at : ℕ) → length list ≤ at → 0 ≡ get_or list at 0
byte_past list at h = sym (get_or-eq_default list 0 {n = at} h)
