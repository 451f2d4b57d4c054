-- Two bits of the root at a call: which digit from 0 to 3 comes next, what it takes, and that both bits are settled by it. Nothing here is about floats. Assumes nothing.
use mathlib.Core.Path.{◌≡◌, refl, ◌∙◌}
use Prim.Native.Nat.{ℕ, suc, ◌+◌, ◌-◌, ◌*◌, ◌/◌, ◌%◌, ◌^◌, ◌<◌, ◌≤◌}
use mir.Val.{bool_byte}
use native.Mathlib.Nat.{pow-succ'}
use mathlib.Core.Bool.{Bool, true, false, cond}
use lib.Dec.{ltb}
use lib.Bits.{bit_and, and_mask}
use native.Mathlib.Omega.{arith}
use borrow.Author.Tests.{ltb-true, ltb-false}
use Rattle.binary64.specs.RootDigits.{Settles, digit_of, share_of}

-- ---- which digit it is
pub digit_case : (a r : ℕ) (P : ℕ → Type 0) → (r ≤ a * 8 → P 0) → (a * 8 < r → r ≤ a * 16 + 3 → P 1) → (a * 16 + 3 < r → r ≤ a * 24 + 8 → P 2) → (a * 24 + 8 < r → P 3) → P (digit_of a r)
unfolding digit_of
digit_case a r P zero one two three = third (ltb (a * 24 + 8) r) refl
  where
    first : (x : Bool) → ltb (a * 8) r ≡ x → r ≤ a * 16 + 3 → P (cond x 1 0)
    first true e h = one (ltb-true (a * 8) r e) h
    first false e h = zero (ltb-false (a * 8) r e)

    second : (x : Bool) → ltb (a * 16 + 3) r ≡ x → r ≤ a * 24 + 8 → P (cond x 2 (cond (ltb (a * 8) r) 1 0))
    second true e h = two (ltb-true (a * 16 + 3) r e) h
    second false e h = first (ltb (a * 8) r) refl (ltb-false (a * 16 + 3) r e)

    third : (x : Bool) → ltb (a * 24 + 8) r ≡ x → P (cond x 3 (cond (ltb (a * 16 + 3) r) 2 (cond (ltb (a * 8) r) 1 0)))
    third true e = three (ltb-true (a * 24 + 8) r e)
    third false e = second (ltb (a * 16 + 3) r) refl (ltb-false (a * 24 + 8) r e)

-- ---- two bits are settled
sixteen : (i : ℕ) → 4 ^ (i + 2) ≡ 16 * 4 ^ i
sixteen i = let e : i + 2 ≡ suc (suc i) = omega arith in rw (e, pow-succ', pow-succ') (omega arith)

four : (i : ℕ) → 2 ^ (i + 2) ≡ 4 * 2 ^ i
four i = let e : i + 2 ≡ suc (suc i) = omega arith in rw (e, pow-succ', pow-succ') (omega arith)

-- what is there of the radicand, with the next four digits read
abbrev there : ℕ → ℕ → ℕ
there b c = b * 16 + c / 1125899906842624

-- the digit n, if it fits and the next one does not
settled : (a b c n : ℕ) → 8 * a * n + n * n ≤ there b c → there b c ≤ 8 * a * n + n * n + 8 * a + 2 * n → n ≤ 3
    → Settles 2 a b c (a * 4 + n) (there b c - (8 * a * n + n * n)) (c % 1125899906842624 * 16)
settled a b c n h u k = record {
  more = λ d i p.
      let f = sixteen i in
      let t = four i in
      let s = p.square in
      record { square = rw f (omega arith); least = omega arith; few = omega arith; small = rw t (omega arith) };
}

pub settle_two : (a b c : ℕ) → b ≤ 2 * a → c < 18014398509481984
    → Settles 2 a b c (a * 4 + digit_of a (there b c)) (there b c - share_of a (there b c)) (c % 1125899906842624 * 16)
unfolding share_of
settle_two a b c l k =
    digit_case a (there b c) (λ n. Settles 2 a b c (a * 4 + n) (there b c - (8 * a * n + n * n)) (c % 1125899906842624 * 16))
    (λ h. settled a b c 0 (omega arith) (omega arith) (omega arith))
    (λ h u. settled a b c 1 (omega arith) (omega arith) (omega arith))
    (λ h u. settled a b c 2 (omega arith) (omega arith) (omega arith))
    (λ h. settled a b c 3 (omega arith) (omega arith) (omega arith))

-- the digit takes no more than is there
share_within : (a r : ℕ) → share_of a r ≤ r
unfolding share_of
share_within a r = digit_case a r (λ n. 8 * a * n + n * n ≤ r) (λ h. omega arith) (λ h u. omega arith) (λ h u. omega arith) (λ h. omega arith)

digit_small : (a r : ℕ) → digit_of a r ≤ 3
digit_small a r = digit_case a r (λ n. n ≤ 3) (λ h. omega arith) (λ h u. omega arith) (λ h u. omega arith) (λ h. omega arith)

-- ---- as the code has them
pub digit_sum : (a r : ℕ) → bool_byte (ltb (a * 8) r) + bool_byte (ltb (a * 16 + 3) r) + bool_byte (ltb (a * 24 + 8) r) ≡ digit_of a r
unfolding digit_of
digit_sum a r = go (ltb (a * 8) r) (ltb (a * 16 + 3) r) (ltb (a * 24 + 8) r) refl refl refl
  where
    go : (x y z : Bool) → ltb (a * 8) r ≡ x → ltb (a * 16 + 3) r ≡ y → ltb (a * 24 + 8) r ≡ z → bool_byte x + bool_byte y + bool_byte z ≡ cond z 3 (cond y 2 (cond x 1 0))
    go true true true e f g = refl
    go true true false e f g = refl
    go true false false e f g = refl
    go false false false e f g = refl
    go true false true e f g = let p = ltb-false (a * 16 + 3) r f in let q = ltb-true (a * 24 + 8) r g in absurd (omega arith)
    go false true z e f g = let p = ltb-false (a * 8) r e in let q = ltb-true (a * 16 + 3) r f in absurd (omega arith)
    go false false true e f g = let p = ltb-false (a * 8) r e in let q = ltb-true (a * 24 + 8) r g in absurd (omega arith)

-- two of the three bytes, and all
pub bytes_two : (x y : Bool) → bool_byte x + bool_byte y < 18446744073709551616
bytes_two true true = omega arith
bytes_two true false = omega arith
bytes_two false true = omega arith
bytes_two false false = omega arith

pub bytes_three : (x y z : Bool) → bool_byte x + bool_byte y + bool_byte z < 18446744073709551616
bytes_three true true true = omega arith
bytes_three true true false = omega arith
bytes_three true false true = omega arith
bytes_three true false false = omega arith
bytes_three false true true = omega arith
bytes_three false true false = omega arith
bytes_three false false true = omega arith
bytes_three false false false = omega arith

pub digit_adds : (a r d : ℕ) → d ≡ digit_of a r → a < 9007199254740992 → a * 4 + d < 18446744073709551616
digit_adds a r d e h = let k = digit_small a r in rw e (omega arith)

pub share_takes : (a r s : ℕ) → s ≡ share_of a r → s ≤ r
share_takes a r s e = rw e (share_within a r)

shifted : (c : ℕ) → bit_and c 1125899906842623 * 16 % 18446744073709551616 ≡ c % 1125899906842624 * 16
shifted c = let m : bit_and c 1125899906842623 ≡ c % 1125899906842624 = and_mask c 50 in rw m (omega arith)

pub settle_two_code : (a b c d s : ℕ) → d ≡ digit_of a (there b c) → s ≡ share_of a (there b c) → b ≤ 2 * a → c < 18014398509481984
    → Settles 2 a b c (a * 4 + d) (there b c - s) (bit_and c 1125899906842623 * 16 % 18446744073709551616)
settle_two_code a b c d s ed es l k = rw (ed, es, shifted) (settle_two a b c l k)

-- the four ways of `next_share`
module _ (a r x : ℕ) where
  share_by : (k : ℕ) → x ≡ k → (r ≤ a * 8 → k ≡ 0) → (a * 8 < r → r ≤ a * 16 + 3 → k ≡ a * 8 + 1) → (a * 16 + 3 < r → r ≤ a * 24 + 8 → k ≡ a * 16 + 4) → (a * 24 + 8 < r → k ≡ a * 24 + 9) → x ≡ share_of a r
  unfolding share_of
  share_by k e zero one two three =
      e ∙ digit_case a r (λ n. k ≡ 8 * a * n + n * n) (λ h. let z = zero h in omega arith) (λ h u. let z = one h u in omega arith) (λ h u. let z = two h u in omega arith) (λ h. let z = three h in omega arith)

  pub share_none : r ≤ a * 16 + 3 → r ≤ a * 8 → x ≡ 0 → x ≡ share_of a r
  share_none u h e = share_by 0 e (λ _. refl) (λ k _. omega arith) (λ k _. omega arith) (λ k. omega arith)

  pub share_one : r ≤ a * 16 + 3 → a * 8 < r → x ≡ a * 8 + 1 → x ≡ share_of a r
  share_one u h e = share_by (a * 8 + 1) e (λ k. omega arith) (λ _ _. refl) (λ k _. omega arith) (λ k. omega arith)

  pub share_two : a * 16 + 3 < r → r ≤ a * 24 + 8 → x ≡ a * 16 + 4 → x ≡ share_of a r
  share_two h u e = share_by (a * 16 + 4) e (λ k. omega arith) (λ _ k. omega arith) (λ _ _. refl) (λ k. omega arith)

  pub share_three : a * 24 + 8 < r → x ≡ a * 24 + 9 → x ≡ share_of a r
  share_three h e = share_by (a * 24 + 9) e (λ k. omega arith) (λ _ k. omega arith) (λ _ k. omega arith) (λ _. refl)
