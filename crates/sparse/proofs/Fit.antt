-- A pivot that is fit has a root: refusal 19 is never met there. Assumes nothing.
use Prim.Native.Nat.{ℕ, zero, suc, ◌+◌, ◌*◌, ◌<◌}
use mathlib.Core.Path.{◌≡◌, refl, sym, ap, ◌∙◌}
use mathlib.Core.Bool.{Bool, true, false, not, false≢true}
use native.Mathlib.Nat.{mul-pos, zero-lt-suc}
use native.Mathlib.Omega.{arith}
use borrow.Author.Tests.{lt-ltb, not-false}
use lib.IntN.{ℤ}
use lib.Ieee.{Float, nan, inf, fin, le, lt, of_bits, of_fields, up, down}
use lib.Ieee.Fits.{up_pos, down_pos}
use Rattle.std.specs.Prelude.{Result, Ok, Err}
use Rattle.loops.specs.Run.{ended}
use Rattle.loops.proofs.Inverse.{apart}
use Rattle.std.specs.Result.{result_unwrap_or}
use Rattle.refusals.specs.Number.{number_of}
use Rattle.refusals.specs.Told.{told}
use Rattle.refusals.specs.declared.Refusal.{Refusal}
use Rattle.binary64.specs.Order.{min_positive}
use Rattle.binary64.specs.Answer.{root_of}
use Rattle.sparse.specs.Cholesky.{fit, root_value}

pub fit_of : (x : Float) (t : Bool) → t ≡ fit x → not t ≡ false → fit x ≡ true
fit_of x t e h = sym e ∙ not-false t h

under : (m : ℕ) (k : ℤ) (n : ℕ) (d : ℤ) → le (fin true (suc m) k) (fin false n d) ≡ true
unfolding le lt
under m k n d = let h : 0 < suc m * up k * down d = mul-pos (mul-pos (zero-lt-suc m) (up_pos k)) (down_pos d) in rw (lt-ltb 0 (suc m * up k * down d + n * up d * down k) (omega arith))

-- a negative number is below MIN
negative : (m : ℕ) (k : ℤ) → le (fin true (suc m) k) min_positive ≡ true
unfolding of_bits of_fields
negative m k = under m k _ _

pub fit_root : (x : Float) (n : ℕ) → fit x ≡ true → root_of x ≡ ended n → ⊥
unfolding fit root_of
fit_root nan n h e = false≢true h
fit_root (inf s) n h e = false≢true h
fit_root (fin s zero k) n h e = apart _ refl e
fit_root (fin false (suc m) k) n h e = apart _ refl e
fit_root (fin true (suc m) k) n h e = false≢true (sym (ap not (negative m k)) ∙ h)

-- what `pivot_root` answers
pub root_taken : (x : Float) (r : Result Float Refusal) {y : Float} → told r ≡ root_of x → fit x ≡ true → y ≡ result_unwrap_or r x → y ≡ root_value (root_of x)
unfolding root_value
root_taken x (Ok y) e h t = t ∙ rw (← e)
root_taken x (Err n) e h t = absurd (fit_root x (number_of n) h (sym e))
