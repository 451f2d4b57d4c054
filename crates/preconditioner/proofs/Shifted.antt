-- The shifted diagonal while it is made, and that a shift of 0 gives the diagonal itself. Assumes nothing.
use Prim.Native.Nat.{ℕ, ◌≤◌}
use mathlib.Core.Path.{◌≡◌}
use mathlib.Core.List.{List}
use lib.ListN.{length}
use lib.Ieee.{Float, nan, binary64, add, mul}
use Rattle.preconditioner.specs.Shift.{one, shifted_by, shifted}
use Rattle.preconditioner.proofs.InPlace.{Changes, changes_end}

-- ---- `shift_diagonal`
unfoldable pub scaling : Float → ℕ → Float → Float
scaling scale i d = mul binary64 d scale

pub diagonal_shifted : (shift : Float) (x l : List Float) (i : ℕ) → Changes nan (scaling (add binary64 one shift)) x i l → length x ≤ i → l ≡ shifted shift x
unfolding shifted shifted_by scaling
diagonal_shifted shift x l i c b = changes_end c b
