-- An integer Z as the difference `above Z` - `under Z` of natural numbers. What a sum, a product and a comparison are by these differences is all that the proofs here need of the integers: the rest is `omega`. Assumes nothing.
use Prim.Native.Nat.{◌*◌, ◌+◌, ◌-◌, ◌<◌, ◌≤◌, suc, zero, ℕ}
use mathlib.Core.Bool.{Bool, cond, false, not, true}
use mathlib.Core.Path.{◌≡◌, refl}
use native.Mathlib.Omega.{arith}
use lib.Dec.{T, le→leb, ltb, ltb→lt, lt→ltb, nltb→le}
use lib.IntN.{◌*ℤ◌, ◌+ℤ◌, nat_abs, negsuc, neg_ℤ, pos, sub_ℕ, ℤ}
use lib.Signed.{◌<ℤ◌, ◌≤ℤ◌, le_z_yes, lt_z_yes}

abbrev pub above : ℤ → ℕ
above (pos n) = n
above (negsuc n) = 0

abbrev pub under : ℤ → ℕ
under (pos n) = 0
under (negsuc n) = suc n

pub sub_parts : (a b : ℕ) → above (sub_ℕ a b) + b ≡ under (sub_ℕ a b) + a
sub_parts a b = go (ltb a b) (ltb→lt a b) (nltb→le a b)
  where
    go : (t : Bool) → (T t → a < b) → (T (not t) → b ≤ a) → above (cond t (negsuc (b - suc a)) (pos (a - b))) + b ≡ under (cond t (negsuc (b - suc a)) (pos (a - b))) + a
    go true h k = let l : a < b = h tt in omega arith
    go false h k = let l : b ≤ a = k tt in omega arith

pub neg_above : (a : ℤ) → above (neg_ℤ a) ≡ under a
neg_above (pos zero) = refl
neg_above (pos (suc n)) = refl
neg_above (negsuc n) = refl

pub neg_under : (a : ℤ) → under (neg_ℤ a) ≡ above a
neg_under (pos zero) = refl
neg_under (pos (suc n)) = refl
neg_under (negsuc n) = refl

pub add_parts : (a b : ℤ) → above (a +ℤ b) + (under a + under b) ≡ under (a +ℤ b) + (above a + above b)
add_parts (pos a) (pos b) = omega arith
add_parts (pos a) (negsuc b) = omega (arith, sub_parts a (suc b))
add_parts (negsuc a) (pos b) = omega (arith, sub_parts b (suc a))
add_parts (negsuc a) (negsuc b) = omega arith

pub mul_parts : (a b : ℤ) → above (a *ℤ b) + (above a * under b + under a * above b) ≡ under (a *ℤ b) + (above a * above b + under a * under b)
mul_parts (pos a) (pos b) = omega arith
mul_parts (pos a) (negsuc b) = omega (arith, neg_above (pos (a * suc b)), neg_under (pos (a * suc b)))
mul_parts (negsuc a) (pos b) = omega (arith, neg_above (pos (suc a * b)), neg_under (pos (suc a * b)))
mul_parts (negsuc a) (negsuc b) = omega arith

pub abs_parts : (a : ℤ) → nat_abs a ≡ above a + under a
abs_parts (pos n) = omega arith
abs_parts (negsuc n) = omega arith

-- ---- order
pub le_parts : (a b : ℤ) → above a + under b ≤ above b + under a → a ≤ℤ b
le_parts (pos a) (pos b) h = le_z_yes (le→leb a b (omega arith))
le_parts (pos a) (negsuc b) h = absurd (omega arith)
le_parts (negsuc a) (pos b) h = le_z_yes tt
le_parts (negsuc a) (negsuc b) h = le_z_yes (le→leb b a (omega arith))

pub lt_parts : (a b : ℤ) → above a + under b < above b + under a → a <ℤ b
lt_parts (pos a) (pos b) h = lt_z_yes (lt→ltb a b (omega arith))
lt_parts (pos a) (negsuc b) h = absurd (omega arith)
lt_parts (negsuc a) (pos b) h = lt_z_yes tt
lt_parts (negsuc a) (negsuc b) h = lt_z_yes (lt→ltb b a (omega arith))
