-- A number of the operator with its error bound and its upper bound, at a level: what the numbers of the same degree share. A level has the scale of its exact integers, and the powers of two (in units) that the sizes are zero or between.
-- A sum of two terms stays on the level, a product with a listed number rises to the next. Assumes nothing.
use Prim.Native.Nat.{ℕ, suc, ◌+◌, ◌*◌, ◌^◌, ◌<◌, ◌≤◌, zero-le}
use mathlib.Core.Path.{◌≡◌, refl, sym, subst}
use mathlib.Core.Logic.{inl}
use native.Mathlib.Nat.{add-zero, zero-add, mul-one, one-mul, zero-mul, lt_of_lt_of_le, le_refl, mul-le-mul_right}
use native.Mathlib.Omega.{arith}
use lib.Dec.{T, lit≤}
use lib.IntN.{ℤ, pos, ◌+ℤ◌, ◌*ℤ◌}
use lib.Pow.{pow_mono, shl_lt}
use lib.Ieee.{Float, binary64, add, mul, fits, of_bits}
use lib.Ieee.Scale.{finite, overflow}
use Rattle.loops.specs.Cleared.{plus_zero}
use Rattle.rounding.specs.Value.{plus, less}
use Rattle.rounding.proofs.Near.{Near, near_add, near_mul, near_weaken}
use Rattle.rounding.proofs.Most.{Most, most_add, most_mul, most_weaken}
use Rattle.rounding.proofs.Gap.{Gap, gap_refl}
use Rattle.binary64.specs.Units.{units_of}

pub record Level : Type 0 where
  pub scale : ℕ
  pub floor : ℕ
  pub top : ℕ

-- the next level, one degree up
pub record Up (L M : Level) : Type 0 where
  pub right : L.scale * 1 * 2 ^ 1074 ≡ M.scale
  pub left : 1 * L.scale * 2 ^ 1074 ≡ M.scale
  pub floors : M.floor + 1074 ≡ L.floor + 924
  pub floors_left : M.floor + 1074 ≡ 924 + L.floor
  pub normal : 52 ≤ M.floor
  pub tops : M.top + 1074 ≡ L.top + 1224
  pub tops_left : M.top + 1074 ≡ 1224 + L.top
  pub room : M.top ≤ 2000

-- a listed number is 0 or from 2 ^ -150 to 2 ^ 150: from 2 ^ 924 to 2 ^ 1224 units
abbrev pub one : Level
one = record { scale = 1; floor = 924; top = 1224 }

abbrev pub two : Level
two = record { scale = 2 ^ 1074; floor = 774; top = 1374 }

abbrev pub three : Level
three = record { scale = 2 ^ 2148; floor = 624; top = 1524 }

abbrev pub four : Level
four = record { scale = 2 ^ 3222; floor = 474; top = 1674 }

pub one_two : Up one two
one_two = record { right = refl; left = refl; floors = refl; floors_left = refl; normal = lit≤ tt; tops = refl; tops_left = refl; room = lit≤ tt }

pub two_three : Up two three
two_three = record { right = refl; left = refl; floors = refl; floors_left = refl; normal = lit≤ tt; tops = refl; tops_left = refl; room = lit≤ tt }

pub three_four : Up three four
three_four = record { right = refl; left = refl; floors = refl; floors_left = refl; normal = lit≤ tt; tops = refl; tops_left = refl; room = lit≤ tt }

-- x is computed, w the same on sizes, X exact; x is off by at most k steps of w, and w is at most A of the level's top
pub record Term (L : Level) (k A : ℕ) (x w : Float) (X : ℤ) : Type 0 where
  pub near : Near binary64 k L.scale L.floor x w X
  pub most : Most binary64 A L.top w

-- a bound of fewer than 2 ^ 53 tops does not overflow
below_overflow : (A a : ℕ) → A < 2 ^ 53 → a ≤ 2000 → A * 2 ^ a < overflow binary64
below_overflow A a h l = lt_of_lt_of_le (shl_lt 53 a h) (pow_mono (sum a l))
  where
    sum : (a : ℕ) → a ≤ 2000 → 53 + a ≤ 2098
    sum a l = omega arith

module _ (L : Level) (few : L.top ≤ 2000) where
  pub term_add : (k h K A B : ℕ) {x w y v : Float} {X Y : ℤ} → k ≤ K → h ≤ K → K ≤ 4000 → A + B < 2 ^ 53 → Term L k A x w X → Term L h B y v Y → Term L (suc K) (A + B) (add binary64 x y) (add binary64 w v) (X +ℤ Y)
  term_add k h K A B {x} {w} {y} {v} {X} {Y} p q r s m n = record {
    near = near_add binary64 K L.scale L.floor x w y v X Y (steps K r)
        (near_weaken binary64 k K L.scale L.floor L.floor x w X p (le_refl L.floor) m.near)
        (near_weaken binary64 h K L.scale L.floor L.floor y v Y q (le_refl L.floor) n.near);
    most = most_add binary64 A B L.top w v s (below_overflow (A + B) L.top s few) m.most n.most;
  }
    where
      steps : (K : ℕ) → K ≤ 4000 → 2 * K + 2 ≤ 2 ^ 53
      steps K h = omega arith

pub term_weaken : (L : Level) (k h A B : ℕ) {x w : Float} {X : ℤ} → k ≤ h → A ≤ B → Term L k A x w X → Term L h B x w X
term_weaken L k h A B {x} {w} {X} p q m = record {
  near = near_weaken binary64 k h L.scale L.floor L.floor x w X p (le_refl L.floor) m.near;
  most = most_weaken binary64 A L.top B L.top w (mul-le-mul_right (2 ^ L.top) q) m.most;
}

-- ---- times a listed number, on the right or on the left
module _ (L M : Level) (u : Up L M) (k A : ℕ) (K : k ≤ 4000) (few : A < 2 ^ 53) {x w y v : Float} {X Y : ℤ} (m : Term L k A x w X) (n : Term one 0 1 y v Y) where
  steps_right : 2 * suc (k + 0) + 4 * (k * 0) ≤ 2 ^ 53
  steps_right = omega arith

  steps_left : 2 * suc (0 + k) + 4 * (0 * k) ≤ 2 ^ 53
  steps_left = omega arith

  pub term_right : Term M (suc k) A (mul binary64 x y) (mul binary64 w v) (X *ℤ Y)
  term_right = record {
    near =
        subst (λ (h : ℕ). Near binary64 (suc h) M.scale M.floor (mul binary64 x y) (mul binary64 w v) (X *ℤ Y)) (add-zero k)
        (subst (λ (S : ℕ). Near binary64 (suc (k + 0)) S M.floor (mul binary64 x y) (mul binary64 w v) (X *ℤ Y)) u.right
        (near_mul binary64 k 0 L.scale 1 L.floor 924 M.floor x w y v X Y steps_right u.normal u.floors m.near n.near));
    most = subst (λ (B : ℕ). Most binary64 B M.top (mul binary64 w v)) (mul-one A)
        (most_mul binary64 A 1 L.top 1224 M.top w v (subst (λ (B : ℕ). B < 2 ^ 53) (sym (mul-one A)) few) (below_overflow (A * 1) M.top (subst (λ (B : ℕ). B < 2 ^ 53) (sym (mul-one A)) few) u.room) u.tops m.most n.most);
  }

  pub term_left : Term M (suc k) A (mul binary64 y x) (mul binary64 v w) (Y *ℤ X)
  term_left = record {
    near =
        subst (λ (h : ℕ). Near binary64 (suc h) M.scale M.floor (mul binary64 y x) (mul binary64 v w) (Y *ℤ X)) (zero-add k)
        (subst (λ (S : ℕ). Near binary64 (suc (0 + k)) S M.floor (mul binary64 y x) (mul binary64 v w) (Y *ℤ X)) u.left
        (near_mul binary64 0 k 1 L.scale 924 L.floor M.floor y v x w Y X steps_left u.normal u.floors_left n.near m.near));
    most = subst (λ (B : ℕ). Most binary64 B M.top (mul binary64 v w)) (one-mul A)
        (most_mul binary64 1 A 1224 L.top M.top v w (subst (λ (B : ℕ). B < 2 ^ 53) (sym (one-mul A)) few) (below_overflow (1 * A) M.top (subst (λ (B : ℕ). B < 2 ^ 53) (sym (one-mul A)) few) u.room) u.tops_left n.most m.most);
  }

-- ---- +0.0
pub zero_fits : T (fits binary64 plus_zero)
unfolding of_bits fits
zero_fits = tt

pub zero_finite : T (finite plus_zero)
unfolding of_bits
zero_finite = tt

pub zero_plus : plus binary64 plus_zero ≡ 0
unfolding of_bits plus units_of
zero_plus = refl

pub zero_less : less binary64 plus_zero ≡ 0
unfolding of_bits less units_of
zero_less = refl

zero_gap : (D B S : ℕ) → Gap D B (0 * S) (0 * S) 0 0
zero_gap D B S = rw (zero-mul S) (gap_refl D B 0 0)

pub term_zero : (L : Level) (k A : ℕ) → Term L k A plus_zero plus_zero (pos 0)
term_zero L k A = record {
  near = record {
    fits_x = zero_fits;
    fits_w = zero_fits;
    close = λ t. record {
      is_finite = zero_finite;
      no_less = zero_less;
      within = rw (zero_plus, zero_less) (lit≤ tt);
      gap = rw (zero_plus, zero_less) (zero_gap (2 ^ 53) (2 * k * (0 * L.scale)) L.scale);
      floor = inl zero_plus;
    };
  };
  most = record { held = zero_fits; is_finite = zero_finite; no_less = zero_less; most = rw zero_plus zero-le };
}
