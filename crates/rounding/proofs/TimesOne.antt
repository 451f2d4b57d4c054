-- A double that is not negative, times 1.0, is itself: for the shift 0 of a pivot. Assumes nothing.
use mathlib.Core.Path.{◌≡◌, refl, sym, ap, ◌∙◌}
use Prim.Native.Nat.{ℕ, ◌*◌, ◌^◌, ◌<◌, suc}
use native.Mathlib.Nat.{mul-one, mul_comm}
use mathlib.Core.Bool.{Bool, true, false}
use lib.Dec.{T}
use lib.Pow.{pow-add}
use lib.IntN.{pos}
use lib.Ieee.{Float, nan, inf, fin, Format, binary64, emax, low, up, down, round, fits, add, mul, of_bits}
use lib.Ieee.Exact.{HasValue}
use lib.Ieee.Fits.{down_pos, round-fits}
use lib.Ieee.Scale.{grid, overflow}
use Rattle.binary64.specs.SquareRoot.{unsigned}
use Rattle.binary64.specs.Units.{units_of}
use Rattle.binary64.proofs.Units.{units_exact, shape, bounded, value_units, value_unsigned, by_units}
use Rattle.rounding.proofs.Grid.{grid_exact}
use Rattle.rounding.proofs.Parts.{round_val}

pub times_one : (f : Format) (x : Float) → T (fits f x) → T (unsigned x) → mul f x (fin false 1 (pos 0)) ≡ x
unfolding unsigned mul
times_one f nan t g = absurd g
times_one f (inf s) t g = absurd g
times_one f (fin true m e) t g = absurd g
times_one f (fin false m e) t g =
    let r = shape f (fin false m e) t tt in
    let U = units_of f (fin false m e) in
    let z : mul f (fin false m e) (fin false 1 (pos 0)) ≡ round f false (m * up e) (down e) = rw (mul-one (m * up e), mul-one (down e)) in
    let k : grid f (m * up e) (down e) ≡ U = grid_exact f (m * up e) (down e) r.m r.j (down_pos e) r.few (units_exact f false m e t ∙ ap (λ (n : ℕ). n * down e) r.is) ∙ sym r.is in
    let b : U < overflow f = rw (pow-add 2 (low f) (suc (emax f)), mul_comm (2 ^ low f) (2 ^ suc (emax f))) (bounded f (fin false m e) t tt) in
    let v : HasValue (round f false (m * up e) (down e)) false (grid f (m * up e) (down e)) (2 ^ low f) = round_val f false (m * up e) (down e) (rw k b) in
    let y = round f false (m * up e) (down e) in
    z ∙ by_units f y (fin false m e) (round-fits f false (m * up e) (down e)) t (value_unsigned y (grid f (m * up e) (down e)) (2 ^ low f) v) tt (value_units f y (grid f (m * up e) (down e)) v ∙ k)

-- 1 + 0 is 1, of either zero
pub one_more : (s : Bool) → add binary64 (of_bits binary64 0x3ff0000000000000) (fin s 0 (pos 0)) ≡ fin false 1 (pos 0)
unfolding add of_bits
one_more true = refl
one_more false = refl
