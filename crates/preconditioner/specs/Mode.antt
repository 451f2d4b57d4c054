-- Document 01: "a mode: 0 diagonal, 1 incomplete Cholesky, 2 block Jacobi". Another number is refusal 3's.
use Rattle.std.specs.Prelude.{ℕ, zero, suc, Float}
use Rattle.loops.specs.Cleared.{plus_zero}
use Rattle.preconditioner.specs.declared.mode.Mode.{Mode}
use Rattle.preconditioner.specs.declared.mode.Mode.TheVariants as modes

-- The factor of mode 1 takes a shift: document 02, f; "modes 0 and 2 pay no heed to it"
unfoldable pub mode_of : ℕ → Float → Mode
mode_of zero shift = modes.Diagonal
mode_of (suc zero) shift = modes.IncompleteCholesky shift
mode_of (suc (suc n)) shift = modes.BlockJacobi

-- as far as lengths go, which do not depend on the shift
abbrev pub room_mode : ℕ → Mode
room_mode word = mode_of word plus_zero
