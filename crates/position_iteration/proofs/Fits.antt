-- What stands in lent memory for n rows stands there for k, where k are as many. Assumes nothing.
use Prim.Native.Nat.{ℕ, ◌*◌, ◌≤◌}
use mathlib.Core.Path.{◌≡◌, sym, subst}
use mathlib.Core.List.{List}
use native.Mathlib.Omega.{arith}
use lib.ListN.{length}
use lib.Ieee.{Float}
use Rattle.compact_table.specs.Compact.{Linked}
use Rattle.preconditioner.specs.Room.{Memory}
use Rattle.preconditioner.specs.Held.{Ready}
use Rattle.preconditioner.specs.declared.apply.Preconditioner.{Preconditioner}
use Rattle.position_iteration.specs.Standing.{Standing}

-- `first`, `renew`
pub ready_fits : (p : Preconditioner) (n : ℕ) (m : Memory) (k : ℕ) → k ≡ n → Ready p n m → Ready p k m
ready_fits p n m k e h = subst (λ (i : ℕ). Ready p i m) (sym e) h
