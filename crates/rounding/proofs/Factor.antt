-- The factor of the error bound, N * 2 ^ -(prec - 2), as a program computes it: an integer N below 2 ^ prec as a float, times a power of two. Neither step rounds. Assumes nothing.
use Prim.Native.Nat.{◌*◌, ◌+◌, ◌-◌, ◌<◌, ◌^◌, ◌≤◌, suc, ℕ}
use mathlib.Core.Bool.{false}
use mathlib.Core.Path.{◌∙◌, ◌≡◌, ap, subst, sym}
use native.Mathlib.Nat.{le_refl, le_trans, lt_of_le_of_lt, lt_of_lt_of_le, mul-le-mul, mul-one, mul-pos}
use native.Mathlib.Omega.{arith}
use lib.Dec.{T}
use lib.Ieee.{Float, Format, emax, fits, low, mul, of_int, prec, round}
use lib.Ieee.Fits.{of_int-fits, reach}
use lib.Ieee.Scale.{finite, grid, overflow}
use lib.IntN.{pos}
use lib.Pow.{pow_mono, pow_pos, shl_lt}
use Rattle.rounding.proofs.Grid.{grid_exact, grid_zero}
use Rattle.rounding.proofs.Parts.{Parts, round_finite, round_parts}
use Rattle.rounding.proofs.Rounded.{Rounded, rounded_finite, rounded_parts}
use Rattle.rounding.proofs.Sizes.{mul_pos_is}
use Rattle.rounding.specs.Value.{plus}

count_grid : (f : Format) (N : ℕ) → N < 2 ^ prec f → grid f N 1 ≡ N * 2 ^ low f
count_grid f N h = grid_exact f N 1 N (low f) (pow_pos 0) h (sym (mul-one (N * 2 ^ low f)))

count_under : (f : Format) (N : ℕ) → N < 2 ^ prec f → grid f N 1 < overflow f
count_under f N h =
    subst (λ (n : ℕ). n < overflow f) (sym (count_grid f N h))
    (lt_of_lt_of_le (shl_lt (prec f) (low f) h) (pow_mono (le_trans (swap (prec f) (low f) (suc (emax f)) (reach f)) (le_refl (low f + suc (emax f))))))
  where
    swap : (p l e : ℕ) → p ≤ e → p + l ≤ l + e
    swap p l e h = omega arith

pub count_finite : (f : Format) (N : ℕ) → N < 2 ^ prec f → T (finite (of_int f (pos N)))
unfolding of_int
count_finite f N h = round_finite f false N 1 (count_under f N h)

pub count_parts : (f : Format) (N : ℕ) → N < 2 ^ prec f → Parts f (of_int f (pos N)) (N * 2 ^ low f) 0
unfolding of_int
count_parts f N h = subst (λ (n : ℕ). Parts f (round f false N 1) n 0) (count_grid f N h) (round_parts f false N 1 (round_finite f false N 1 (count_under f N h)))

-- times 2 ^ (h - low)
module _ (f : Format) (N h : ℕ) (d : Float) (few : N < 2 ^ prec f) (fd : T (fits f d)) (id : T (finite d)) (pd : Parts f d (2 ^ h) 0) (low-enough : h ≤ low f) where
  is_rounded : Rounded f (mul f (of_int f (pos N)) d) (N * 2 ^ low f * 2 ^ h) 0 (2 ^ low f * 2 ^ low f)
  is_rounded =
      let n = count_parts f N few in
      subst (λ (k : ℕ). Rounded f (mul f (of_int f (pos N)) d) k 0 (2 ^ low f * 2 ^ low f)) (ap (λ (k : ℕ). k * plus f d) n.is_plus ∙ ap (λ (k : ℕ). N * 2 ^ low f * k) pd.is_plus)
      (mul_pos_is f (of_int f (pos N)) d (of_int-fits f (pos N)) fd (count_finite f N few) id n.is_less pd.is_less)

  its_grid : grid f (N * 2 ^ low f * 2 ^ h) (2 ^ low f * 2 ^ low f) ≡ N * 2 ^ h
  its_grid = grid_exact f (N * 2 ^ low f * 2 ^ h) (2 ^ low f * 2 ^ low f) N h (mul-pos (pow_pos (low f)) (pow_pos (low f))) few (turn N (2 ^ low f) (2 ^ h))
    where
      turn : (N U H : ℕ) → N * U * H * U ≡ N * H * (U * U)
      turn N U H = omega arith

  plain : grid f (N * 2 ^ low f * 2 ^ h - 0) (2 ^ low f * 2 ^ low f) ≡ N * 2 ^ h
  plain = let e : N * 2 ^ low f * 2 ^ h - 0 ≡ N * 2 ^ low f * 2 ^ h = omega arith in ap (λ (k : ℕ). grid f k (2 ^ low f * 2 ^ low f)) e ∙ its_grid

  nothing : grid f (0 - N * 2 ^ low f * 2 ^ h) (2 ^ low f * 2 ^ low f) ≡ 0
  nothing = let e : 0 - N * 2 ^ low f * 2 ^ h ≡ 0 = omega arith in ap (λ (k : ℕ). grid f k (2 ^ low f * 2 ^ low f)) e ∙ grid_zero f (2 ^ low f * 2 ^ low f) (mul-pos (pow_pos (low f)) (pow_pos (low f)))

  small : N * 2 ^ h < overflow f
  small = lt_of_le_of_lt (mul-le-mul (le_refl N) (pow_mono low-enough)) (subst (λ (k : ℕ). k < overflow f) (count_grid f N few) (count_under f N few))

  pub factor_finite : T (finite (mul f (of_int f (pos N)) d))
  factor_finite = rounded_finite f (mul f (of_int f (pos N)) d) (N * 2 ^ low f * 2 ^ h) 0 (2 ^ low f * 2 ^ low f) is_rounded (subst (λ (k : ℕ). k < overflow f) (sym plain) small) (subst (λ (k : ℕ). k < overflow f) (sym nothing) (pow_pos (low f + suc (emax f))))

  pub factor_parts : Parts f (mul f (of_int f (pos N)) d) (N * 2 ^ h) 0
  factor_parts =
      let r = rounded_parts f (mul f (of_int f (pos N)) d) (N * 2 ^ low f * 2 ^ h) 0 (2 ^ low f * 2 ^ low f) (mul-pos (pow_pos (low f)) (pow_pos (low f))) is_rounded factor_finite in
      record { is_plus = r.is_plus ∙ plain; is_less = r.is_less ∙ nothing }
