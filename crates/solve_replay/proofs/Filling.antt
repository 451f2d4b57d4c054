-- Memory that is lent filled with one value, and groups of words that are unpacked into it. Assumes nothing.
use Prim.Native.Nat.{ℕ, ◌+◌, ◌*◌, ◌<◌, ◌≤◌}
use mathlib.Core.Path.{◌≡◌, sym, ap, ◌∙◌}
use mathlib.Core.List.{List}
use native.Mathlib.Omega.{arith}
use lib.ListN.{length, replicate, take, length-replicate, get_or-replicate}
use lib.Seq.{ext_get_or, get_or-take, length-take-le}

-- a part that is lent: the first w of m, where the counts call for k
module _ {A : Type 0} (m : ℕ) (l : List A) (w k : ℕ) (e : m ≡ length l) (p : w ≡ k) (h : k ≤ m) where
  pub within : w ≤ length l
  within = omega arith

  pub lent_long : length (take w l) ≡ k
  lent_long = length-take-le w l within ∙ p

module _ {A : Type 0} (x : A) where
  pub filled_long : (k : ℕ) (l : List A) → l ≡ replicate k x → length l ≡ k
  filled_long k l e = ap length e ∙ length-replicate k x

  pub long_filled : (k : ℕ) (l : List A) → l ≡ replicate k x → k ≡ length l
  long_filled k l e = sym (filled_long k l e)

  -- the first w of k
  pub filled_part : (k : ℕ) (l : List A) (w n : ℕ) → l ≡ replicate k x → w ≡ n → n ≤ k → take w l ≡ replicate n x
  filled_part k l w n e q h = rw (e, q)
      (ext_get_or x (take n (replicate k x)) (replicate n x) (long ∙ sym (length-replicate n x))
      (λ i p. let b : i < n = omega (arith, long) in get_or-take n (replicate k x) i x b ∙ get_or-replicate k i x x (omega arith) ∙ sym (get_or-replicate n i x x b)))
    where
      long : length (take n (replicate k x)) ≡ n
      long = length-take-le n (replicate k x) (rw length-replicate h)

-- ---- a group of n records of k words, where w stands for n
module _ (l : List ℕ) (k n w at : ℕ) (e : l ≡ replicate (k * n) 0) (q : w ≡ n) (h : k * n ≤ 20000) where
  pub group_fits : at < 4000000000 → (at < 4000000000) × (length l ≡ k * w) × (length l ≤ 20000)
  group_fits a = (a, filled_long 0 (k * n) l e ∙ ap (λ (x : ℕ). k * x) (sym q), omega (arith, filled_long 0 (k * n) l e))

  pub group_near : (r : ℕ) → r ≤ at + 9 * length l → r ≤ at + 180000
  group_near r b = omega (arith, filled_long 0 (k * n) l e)
