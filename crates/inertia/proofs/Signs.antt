-- What is rounded with a plus sign is never -0.0, nor is anything of at least one unit. So what is subtracted from a number that is not -0.0
-- leaves none, and a quotient of such a number by one of at most 1 is none. Generic in the format. Assumes nothing.
use Prim.Native.Nat.{ℕ, zero, suc, ◌+◌, ◌-◌, ◌*◌, ◌^◌, ◌<◌, ◌≤◌}
use mathlib.Core.Path.{◌≡◌, refl, sym, ap, ◌∙◌, subst}
use mathlib.Core.Bool.{Bool, true, false, not, ◌&&◌, cond, beq, true≢false, false≢true}
use native.Mathlib.Nat.{mul-pos, mul_assoc, mul_comm, one-mul, mul_right_comm, mul-sub, mul-le-mul_right, le_of_eq, le_trans, le-add_right, lt_of_not-le, suc-mul, zero-lt-suc}
use native.Mathlib.Omega.{arith}
use borrow.Author.Tests.{ltb-true}
use lib.Dec.{T, ltb, eqb}
use lib.IntN.{ℤ}
use lib.Pow.{pow_pos, pow_mono}
use lib.Ieee.{Float, nan, inf, fin, Format, low, prec, up, down, round, sum, add, sub, neg, div, fits}
use lib.Ieee.Fits.{up_pos, down_pos, two, two-le_pos}
use lib.Ieee.Scale.{finite, grid}
use Rattle.binary64.specs.Units.{units_of}
use Rattle.binary64.proofs.Units.{units_of_lem, units_exact, units_pos}
use Rattle.rounding.specs.Value.{plus, less}
use Rattle.rounding.proofs.Grid.{grid_mono, grid_exact}
use Rattle.rounding.proofs.Parts.{round_val, round_under, round_parts}
use Rattle.inertia.specs.MinusZero.{no_minus_zero}

-- ---- rounding
round_plus : (f : Format) (a c : ℕ) → T (no_minus_zero (round f false a c))
unfolding no_minus_zero
round_plus f a c = go (round f false a c) refl
  where
    go : (z : Float) → z ≡ round f false a c → T (no_minus_zero z)
    go nan e = tt
    go (inf s) e = tt
    go (fin false m k) e = tt
    go (fin true (suc m) k) e = tt
    go (fin true zero k) e =
        let under = round_under f false a c (subst (λ (z : Float). T (finite z)) e tt) in
        absurd (true≢false (rw (← e) at (round_val f false a c under)).0)

-- one unit is rounded to itself
one_unit : (f : Format) → grid f 1 (2 ^ low f) ≡ 1
one_unit f = grid_exact f 1 (2 ^ low f) 1 0 (pow_pos (low f)) (pow_mono (two-le_pos (prec f) (two f))) refl

round_some : (f : Format) (s : Bool) (a c : ℕ) → 0 < c → c ≤ a * 2 ^ low f → T (no_minus_zero (round f s a c))
unfolding no_minus_zero plus less
round_some f s a c C h = go (round f s a c) refl
  where
    least : 1 ≤ grid f a c
    least = le_trans (le_of_eq (sym (one_unit f))) (grid_mono f 1 (2 ^ low f) a c (pow_pos (low f)) C (le_trans (le_of_eq (one-mul c)) h))

    none : (s : Bool) (g : ℕ) → 1 ≤ g → cond s 0 g ≡ 0 → cond s g 0 ≡ 0 → ⊥
    none true g l e h = omega arith
    none false g l e h = omega arith

    go : (z : Float) → z ≡ round f s a c → T (no_minus_zero z)
    go nan e = tt
    go (inf t) e = tt
    go (fin false m k) e = tt
    go (fin true (suc m) k) e = tt
    go (fin true zero k) e =
        let p = round_parts f s a c (subst (λ (z : Float). T (finite z)) e tt) in
        let u : units_of f (fin true 0 k) ≡ 0 = units_of_lem f true 0 k 0 (omega arith) in
        absurd (none s (grid f a c) least (sym (ap (plus f) e ∙ p.is_plus)) (sym (sym u ∙ ap (less f) e ∙ p.is_less)))

-- ---- a difference
-- ±a / c and ±b / c, of u and v units each
module _ (f : Format) (a b c u v : ℕ) (C : 0 < c) (p : a * 2 ^ low f ≡ u * c) (q : b * 2 ^ low f ≡ v * c) where
  -- two of different sizes are a unit apart
  apart : (a b u v : ℕ) → a * 2 ^ low f ≡ u * c → b * 2 ^ low f ≡ v * c → a < b → c ≤ (b - a) * 2 ^ low f
  apart a b u v p q l =
      let U = 2 ^ low f in
      let more : suc a * U ≤ b * U = mul-le-mul_right U l in
      let less : u < v = lt_of_not-le (λ (g : v ≤ u). closed (a * U) (b * U) U (u * c) (v * c) (pow_pos (low f)) (subst (λ (n : ℕ). n ≤ b * U) (suc-mul a U) more) p q (mul-le-mul_right c g)) in
      let step : suc u * c ≤ v * c = mul-le-mul_right c less in
      le_trans (room (u * c) (v * c) c (subst (λ (n : ℕ). n ≤ v * c) (suc-mul u c) step)) (le_of_eq (sym (mul_comm (b - a) U ∙ mul-sub U b a ∙ cc (mul_comm U b, mul_comm U a, p, q))))
    where
      closed : (A B U x y : ℕ) → 0 < U → A + U ≤ B → A ≡ x → B ≡ y → y ≤ x → ⊥
      closed A B U x y h l p q g = omega arith

      room : (x y c : ℕ) → x + c ≤ y → c ≤ y - x
      room x y c h = omega arith

  summed : 0 < u → c ≤ (a + b) * 2 ^ low f
  summed h =
      let step : 1 * c ≤ u * c = mul-le-mul_right c h in
      le_trans (le_of_eq (sym (one-mul c))) (le_trans step (le_trans (le_of_eq (sym p)) (mul-le-mul_right (2 ^ low f) (le-add_right a b))))

  sum_clean : (s t : Bool) → (s ≡ true → 0 < u) → T (no_minus_zero (sum f s a t b c))
  unfolding sum
  sum_clean false false h = round_plus f (a + b) c
  sum_clean true true h = round_some f true (a + b) c C (summed (h refl))
  sum_clean false true h = go (ltb a b) refl
    where
      go : (k : Bool) → ltb a b ≡ k → T (no_minus_zero (cond k (round f true (b - a) c) (round f false (a - b) c)))
      go true e = round_some f true (b - a) c C (apart a b u v p q (ltb-true a b e))
      go false e = round_plus f (a - b) c
  sum_clean true false h = go (ltb a b) (ltb b a) refl
    where
      go : (k l : Bool) → ltb b a ≡ l → T (no_minus_zero (cond k (round f false (b - a) c) (round f (true && l) (a - b) c)))
      go true l e = round_plus f (b - a) c
      go false true e = round_some f true (a - b) c C (apart b a v u q p (ltb-true b a e))
      go false false e = round_plus f (a - b) c

scaled : (m U u d e : ℕ) → m * U ≡ u * d → m * e * U ≡ u * (d * e)
scaled m U u d e h = mul_right_comm m e U ∙ ap (λ (n : ℕ). n * e) h ∙ mul_assoc u d e

pub sub_clean : (f : Format) (x y : Float) → T (fits f x) → T (fits f y) → T (no_minus_zero x) → T (no_minus_zero (sub f x y))
unfolding sub add neg no_minus_zero
sub_clean f nan y t w h = tt
sub_clean f (inf s) nan t w h = tt
sub_clean f (inf s) (inf r) t w h = go (beq s (not r))
  where
    go : (b : Bool) → T (no_minus_zero (cond b (inf s) nan))
    go true = tt
    go false = tt
sub_clean f (inf s) (fin r n d) t w h = tt
sub_clean f (fin s m e) nan t w h = tt
sub_clean f (fin s m e) (inf r) t w h = tt
sub_clean f (fin s m e) (fin r n d) t w h =
    let p = scaled (m * up e) (2 ^ low f) (units_of f (fin s m e)) (down e) (down d) (units_exact f s m e t) in
    let q = scaled (n * up d) (2 ^ low f) (units_of f (fin r n d)) (down d) (down e) (units_exact f r n d w) in
    sum_clean f (m * up e * down d) (n * up d * down e) (down e * down d) (units_of f (fin s m e)) (units_of f (fin r n d)) (mul-pos (down_pos e) (down_pos d)) p
    (q ∙ ap (λ (c : ℕ). units_of f (fin r n d) * c) (mul_comm (down d) (down e))) s (not r) (some s m e t h)
  where
    some : (s : Bool) (m : ℕ) (e : ℤ) → T (fits f (fin s m e)) → T (no_minus_zero (fin s m e)) → s ≡ true → 0 < units_of f (fin s m e)
    some true zero e t h g = absurd h
    some true (suc m) e t h g = units_pos f true m e t
    some false m e t h g = absurd (false≢true g)

-- ---- a quotient
-- finite, with no minus sign, and at most 1
pub record AtMostOne (x : Float) : Type 0 where
  pub digits : ℕ
  pub power : ℤ
  pub is : x ≡ fin false digits power
  pub most : digits * up power ≤ down power

quotient_some : (f : Format) (m : ℕ) (e : ℤ) (n : ℕ) (d : ℤ) → T (fits f (fin true (suc m) e)) → n * up d ≤ down d → n * up d * down e ≤ suc m * up e * down d * 2 ^ low f
quotient_some f m e n d t h =
    let u = units_of f (fin true (suc m) e) in
    let one : 1 * (down e * down d) ≤ u * (down e * down d) = mul-le-mul_right (down e * down d) (units_pos f true m e t) in
    le_trans (mul-le-mul_right (down e) h)
    (le_trans (le_of_eq (mul_comm (down d) (down e) ∙ sym (one-mul (down e * down d))))
    (le_trans one (le_of_eq (sym (scaled (suc m * up e) (2 ^ low f) u (down e) (down d) (units_exact f true (suc m) e t))))))

-- what is not rounded: divided by zero
by_zero : (b c s : Bool) (z : Float) → T (no_minus_zero z) → T (no_minus_zero (cond b (cond c nan (inf s)) z))
unfolding no_minus_zero
by_zero true true s z h = tt
by_zero true false s z h = tt
by_zero false c s z h = h

pub div_clean : (f : Format) (x y : Float) → T (fits f x) → T (no_minus_zero x) → AtMostOne y → T (no_minus_zero (div f x y))
unfolding div no_minus_zero
div_clean f x y t h l = subst (λ (y : Float). T (no_minus_zero (div f x y))) (sym l.is) (go x l.digits l.power t h l.most)
  where
    go : (x : Float) (n : ℕ) (d : ℤ) → T (fits f x) → T (no_minus_zero x) → n * up d ≤ down d → T (no_minus_zero (div f x (fin false n d)))
    go nan n d t h l = tt
    go (inf s) n d t h l = tt
    go (fin false m e) n d t h l = by_zero (eqb n 0) (eqb m 0) false _ (round_plus f (m * up e * down d) (n * up d * down e))
    go (fin true zero e) n d t h l = absurd h
    go (fin true (suc m) e) zero d t h l = by_zero true (eqb (suc m) 0) true nan tt
    go (fin true (suc m) e) (suc n) d t h l =
        let some = mul-pos (mul-pos (zero-lt-suc n) (up_pos d)) (down_pos e) in
        by_zero (eqb (suc n) 0) (eqb (suc m) 0) true _ (round_some f true (suc m * up e * down d) (suc n * up d * down e) some (quotient_some f m e (suc n) d t l))

-- zero and above, by a number above zero
pub plus_div_clean : (f : Format) (m : ℕ) (e : ℤ) (n : ℕ) (d : ℤ) → T (no_minus_zero (div f (fin false m e) (fin false n d)))
unfolding div
plus_div_clean f m e n d = by_zero (eqb n 0) (eqb m 0) false _ (round_plus f (m * up e * down d) (n * up d * down e))
