-- One row's verdict: its reach does not overflow and is at least +0.0, and it is within a tolerance only if the exact gap is, and not within it only if the exact gap with twice the radius is not. Assumes nothing.
use Prim.Native.Nat.{ℕ, zero, suc, ◌+◌, ◌*◌, ◌^◌, ◌<◌, ◌≤◌, zero-le}
use mathlib.Core.Path.{◌≡◌, refl, sym, ap, ◌∙◌, subst}
use mathlib.Core.Bool.{true, false}
use native.Mathlib.Nat.{le_trans, le_of_eq, mul_assoc, zero-mul, mul-le-mul_right}
use native.Mathlib.Omega.{arith}
use lib.Dec.{T, lit≤, lit<}
use lib.IntN.{ℤ, pos, negsuc, neg_ℤ, nat_abs, ◌+ℤ◌, ◌-ℤ◌, ◌*ℤ◌, neg_ℤ-neg_ℤ, neg_ℤ-+ℤ}
use lib.Signed.{◌≤ℤ◌, ◌<ℤ◌}
use lib.Pow.{pow_pos}
use lib.Ieee.{Float, binary64, mul, neg, le, fits, of_int, of_bits}
use lib.Ieee.Fits.{mul-fits}
use lib.Ieee.Scale.{finite}
use borrow.Author.Tests.{le-leb}
use Rattle.loops.specs.Cleared.{plus_zero}
use Rattle.binary64.specs.Units.{units_of}
use Rattle.binary64.specs.Order.{absolute}
use Rattle.rounding.specs.Value.{plus, less}
use Rattle.rounding.proofs.Parts.{Parts}
use Rattle.rounding.proofs.Compare.{le_is}
use Rattle.rounding.proofs.Near.{Near, near_neg, near_scale, near_weaken, near_sub}
use Rattle.rounding.proofs.Absolute.{absolute_fits, absolute_finite, absolute_parts}
use Rattle.rounding.proofs.Most.{Most, most_add, most_mul, most_weaken}
use Rattle.rounding.proofs.Factor.{factor_finite, factor_parts}
use Rattle.rounding.proofs.Verdict as Verdict
use Rattle.check_measure.specs.Verdict.{measured_of, weight_of, tick, radius_factor, radius_of, reach_of}
use Rattle.check_measure.specs.Gap.{exact, scale, scaled}
use Rattle.check_measure.proofs.Term.{four, Term, zero_fits, zero_finite, zero_plus}
use Rattle.check_measure.proofs.Values.{Listed}

-- ---- (n+16) * 2^-51
tick_fits : T (fits binary64 tick)
unfolding of_bits fits
tick_fits = tt

tick_finite : T (finite tick)
unfolding of_bits
tick_finite = tt

tick_parts : Parts binary64 tick (2 ^ 1023) 0
unfolding of_bits plus less units_of
tick_parts = record { is_plus = refl; is_less = refl }

module _ (n : ℕ) (few : n ≤ 512) where
  small : n + 16 < 2 ^ 53
  small = omega arith

  factor_is : Parts binary64 (radius_factor n) ((n + 16) * 2 ^ 1023) 0
  unfolding radius_factor
  factor_is = factor_parts binary64 (n + 16) 1023 tick small tick_fits tick_finite tick_parts (lit≤ tt)

  factor_held : T (fits binary64 (radius_factor n))
  unfolding radius_factor
  factor_held = mul-fits binary64 (of_int binary64 (pos (n + 16))) tick

  factor_most : Most binary64 528 1023 (radius_factor n)
  factor_most = record {
    held = factor_held;
    is_finite = unfold radius_factor in factor_finite binary64 (n + 16) 1023 tick small tick_fits tick_finite tick_parts (lit≤ tt);
    no_less = factor_is.is_less;
    most = le_trans (le_of_eq factor_is.is_plus) (mul-le-mul_right (2 ^ 1023) (room n few));
  }
    where
      room : (n : ℕ) → n ≤ 512 → n + 16 ≤ 528
      room n h = omega arith

  factor_scale : plus binary64 (radius_factor n) * 2 ^ 51 ≡ (n + 16) * 2 ^ 1074
  factor_scale = ap (λ (k : ℕ). k * 2 ^ 51) factor_is.is_plus ∙ mul_assoc (n + 16) (2 ^ 1023) (2 ^ 51)

-- ---- the exact gap: the sign does not matter
neg_times : (a : ℤ) (S : ℕ) → neg_ℤ a *ℤ pos S ≡ neg_ℤ (a *ℤ pos S)
neg_times (pos zero) S = let z : 0 * S ≡ 0 = zero-mul S in rw z
neg_times (pos (suc k)) S = refl
neg_times (negsuc k) S = sym (neg_ℤ-neg_ℤ (pos (suc k * S)))

abs_neg : (a : ℤ) → nat_abs (neg_ℤ a) ≡ nat_abs a
abs_neg (pos zero) = refl
abs_neg (pos (suc k)) = refl
abs_neg (negsuc k) = refl

pub gap_is : (e Z : ℤ) (S : ℕ) → nat_abs (neg_ℤ e *ℤ pos S -ℤ Z) ≡ nat_abs (e *ℤ pos S +ℤ Z)
gap_is e Z S = ap nat_abs (ap (λ (a : ℤ). a -ℤ Z) (neg_times e S) ∙ sym (neg_ℤ-+ℤ (e *ℤ pos S) Z)) ∙ abs_neg (e *ℤ pos S +ℤ Z)

-- ---- a row with its error, its value, its value on sizes and its exact value
module _ (n : ℕ) (few : n ≤ 512) (error value size : Float) (Z : ℤ) (listed : Listed error) (term : Term four (n + 10) (36 * n) value size Z) where
  abbrev r : Float
  r = measured_of error value

  abbrev w : Float
  w = weight_of error size

  abbrev G : ℤ
  G = neg_ℤ (exact error) *ℤ pos scale -ℤ Z

  near : Near binary64 (suc (n + 10)) scale 474 r w G
  unfolding measured_of weight_of
  near =
      near_sub binary64 (n + 10) scale 474 (neg error) (absolute error) value size (neg_ℤ (exact error) *ℤ pos scale) Z (omega arith)
      (near_weaken binary64 0 (n + 10) scale 924 474 (neg error) (absolute error) (neg_ℤ (exact error) *ℤ pos scale) zero-le (lit≤ tt)
      (near_scale binary64 0 1 924 scale (neg error) (absolute error) (neg_ℤ (exact error)) (near_neg binary64 0 1 924 error (absolute error) (exact error) listed.near)))
      term.near

  weight_most : Most binary64 18433 1674 w
  unfolding weight_of
  weight_most =
      most_add binary64 1 18432 1674 (absolute error) size (lit< tt) (lit< tt)
      (most_weaken binary64 1 1224 1 1674 (absolute error) (lit≤ tt) listed.most)
      (most_weaken binary64 (36 * n) 1674 18432 1674 size (mul-le-mul_right (2 ^ 1674) (rows n few)) term.most)
    where
      rows : (n : ℕ) → n ≤ 512 → 36 * n ≤ 18432
      rows n h = omega arith

  measured_most : Most binary64 18433 1674 (absolute r)
  measured_most =
      let c = near.close weight_most.is_finite in
      let p = absolute_parts binary64 r in
      record {
        held = absolute_fits binary64 r near.fits_x;
        is_finite = absolute_finite r c.is_finite;
        no_less = p.is_less;
        most = le_trans (le_of_eq p.is_plus) (le_trans c.within weight_most.most);
      }

  radius_most : Most binary64 9732624 1674 (radius_of n error size)
  unfolding radius_of
  radius_most =
      most_weaken binary64 9732624 1623 9732624 1674 (mul binary64 w (radius_factor n)) (lit≤ tt)
      (most_mul binary64 18433 528 1674 1023 1623 w (radius_factor n) (lit< tt) (lit< tt) refl weight_most (factor_most n few))

  reach_most : Most binary64 9751057 1674 (reach_of n error value size)
  unfolding reach_of
  reach_most = most_add binary64 18433 9732624 1674 (absolute r) (radius_of n error size) (lit< tt) (lit< tt) measured_most radius_most

  pub reach_held : T (fits binary64 (reach_of n error value size))
  reach_held = reach_most.held

  pub reach_finite : T (finite (reach_of n error value size))
  reach_finite = reach_most.is_finite

  -- and it is no negative number
  pub reach_least : le plus_zero (reach_of n error value size) ≡ true
  reach_least =
      let z = reach_of n error value size in
      le_is binary64 plus_zero z zero_fits reach_most.held zero_finite reach_finite
      ∙ le-leb (plus binary64 plus_zero + less binary64 z) (plus binary64 z + less binary64 plus_zero) (none (plus binary64 plus_zero) (less binary64 z) (plus binary64 z + less binary64 plus_zero) zero_plus reach_most.no_less)
    where
      none : (a b c : ℕ) → a ≡ 0 → b ≡ 0 → a + b ≤ c
      none a b c p q = omega arith

  module _ (tolerance : Float) (held : T (fits binary64 tolerance)) (is_finite : T (finite tolerance)) where
    pub row_closed : le (reach_of n error value size) tolerance ≡ true → pos (nat_abs (scaled error +ℤ Z)) ≤ℤ scaled tolerance
    unfolding reach_of radius_of
    row_closed h =
        subst (λ (k : ℕ). pos k ≤ℤ scaled tolerance) (gap_is (exact error) Z scale)
        (Verdict.closed binary64 (suc (n + 10)) scale 474 (n + 16) r w (absolute r) (radius_factor n) tolerance G near (absolute_fits binary64 r near.fits_x) (absolute_parts binary64 r) (factor_held n few) (factor_is n few).is_less (factor_scale n few) (omega arith) (lit≤ tt)
        held is_finite reach_finite h)

    pub row_open : le (reach_of n error value size) tolerance ≡ false → scaled tolerance <ℤ (pos (nat_abs (scaled error +ℤ Z)) +ℤ pos 2 *ℤ scaled (radius_of n error size))
    unfolding reach_of radius_of
    row_open h =
        subst (λ (k : ℕ). scaled tolerance <ℤ (pos k +ℤ pos 2 *ℤ scaled (mul binary64 w (radius_factor n)))) (gap_is (exact error) Z scale)
        (Verdict.still_open binary64 (suc (n + 10)) scale 474 (n + 16) r w (absolute r) (radius_factor n) tolerance G near (absolute_fits binary64 r near.fits_x) (absolute_parts binary64 r) (factor_held n few) (factor_is n few).is_less (factor_scale n few) (omega arith) (lit≤ tt)
        held is_finite reach_finite (pow_pos 3222) h)
