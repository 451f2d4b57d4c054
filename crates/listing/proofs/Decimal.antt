-- A number's decimal digits are those of its tenth and the last one: `decimal_small`, `decimal_more`, and what they come to at the calls of `put_decimal`. Assumes nothing.
use Prim.Native.Nat.{ℕ, zero, suc, ◌/◌, ◌%◌, ◌<◌, ◌≤◌}
use mathlib.Core.Path.{◌≡◌, refl, sym, ap, ◌∙◌}
use mathlib.Core.Bool.{Bool, true, false, cond}
use mathlib.Core.List.{List, [], ◌∷◌, ◌++◌}
use native.Mathlib.Omega.{arith}
use lib.Dec.{ltb}
use borrow.Author.Tests.{lt-ltb, le-ltb, ltb-false}
use Rattle.listing.specs.Written.{Room, Wrote}
use Rattle.listing.specs.Digits.{decimal_digit, decimal_by, decimal}
use Rattle.listing.proofs.Joined.{room_first, room_rest, wrote_join}

-- how far it counts does not matter
by_enough : (k m n : ℕ) → n < k → n < m → decimal_by k n ≡ decimal_by m n
unfolding decimal_by
by_enough zero m n h g = absurd (omega arith)
by_enough (suc k) zero n h g = absurd (omega arith)
by_enough (suc k) (suc m) n h g = go (ltb n 10) (ltb-false n 10) (λ l. by_enough k m (n / 10) (omega arith) (omega arith))
  where
    go : (b : Bool) → (b ≡ false → 10 ≤ n) → (10 ≤ n → decimal_by k (n / 10) ≡ decimal_by m (n / 10))
        → cond b (decimal_digit n ∷ []) (decimal_by k (n / 10) ++ (decimal_digit (n % 10) ∷ [])) ≡ cond b (decimal_digit n ∷ []) (decimal_by m (n / 10) ++ (decimal_digit (n % 10) ∷ []))
    go true f r = refl
    go false f r = ap (λ d. d ++ (decimal_digit (n % 10) ∷ [])) (r (f refl))

pub decimal_small : (n : ℕ) → n < 10 → decimal n ≡ decimal_digit n ∷ []
unfolding decimal decimal_by
decimal_small n h = rw (lt-ltb n 10 h)

pub decimal_more : (n : ℕ) → 10 ≤ n → decimal n ≡ decimal (n / 10) ++ (decimal_digit (n % 10) ∷ [])
unfolding decimal decimal_by
decimal_more n h = rw (le-ltb n 10 h) (ap (λ d. d ++ (decimal_digit (n % 10) ∷ [])) (by_enough n (suc (n / 10)) (n / 10) (omega arith) (omega arith)))

-- ---- at the calls: d is the last digit

module _ {n d : ℕ} (e : d ≡ decimal_digit (n % 10)) where
  small : n < 10 → decimal n ≡ d ∷ []
  small h = decimal_small n h ∙ ap (λ k. decimal_digit k ∷ []) (omega arith) ∙ ap (λ k. k ∷ []) (sym e)

  more : 10 ≤ n → decimal n ≡ decimal (n / 10) ++ (d ∷ [])
  more h = decimal_more n h ∙ ap (λ k. decimal (n / 10) ++ (k ∷ [])) (sym e)

  module _ {out : List ℕ} {at : ℕ} where
    pub room_small : n < 10 → Room out at (decimal n) → Room out at (d ∷ [])
    room_small h r = rw (small h) at r

    pub wrote_small : {out' : List ℕ} {end : ℕ} → n < 10 → Wrote out at (d ∷ []) out' end → Wrote out at (decimal n) out' end
    wrote_small h w = rw (small h) w

    pub room_tenth : 10 ≤ n → Room out at (decimal n) → Room out at (decimal (n / 10))
    room_tenth h r = room_first (d ∷ []) (rw (more h) at r)

    module _ {out₁ : List ℕ} {mid : ℕ} (h : 10 ≤ n) (w : Wrote out at (decimal (n / 10)) out₁ mid) where
      pub room_last : Room out at (decimal n) → Room out₁ mid (d ∷ [])
      room_last r = room_rest (rw (more h) at r) w

      pub wrote_last : {out₂ : List ℕ} {end : ℕ} → Wrote out₁ mid (d ∷ []) out₂ end → Wrote out at (decimal n) out₂ end
      wrote_last v = rw (more h) (wrote_join w v)
