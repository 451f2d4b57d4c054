-- The compact table while it is gathered: a row that is put into it is there, and every other row is as it was. Assumes nothing.
use Prim.Native.Nat.{ℕ, ◌+◌, ◌*◌, ◌<◌, ◌≤◌}
use mathlib.Core.Path.{◌≡◌, refl, ◌∙◌}
use mathlib.Core.Bool.{Bool, true, false, not}
use mathlib.Core.Logic.{◌⊎◌, inl, inr}
use mathlib.Core.List.{List}
use native.Mathlib.Omega.{arith}
use lib.Dec.{T, ltb, ltb→lt, nltb→le}
use lib.ListN.{length, get_or, set, length-set}
use lib.Seq.{get_or-set_same, get_or-set_other}
use lib.Ieee.{Float}
use Rattle.kapitsa_math.specs.Lent.{spread_of, put_spread_of}
use Rattle.kapitsa_math.proofs.Stored.{put_spread_length, put_spread_same, put_spread_other}
use Rattle.kapitsa_joint.specs.declared.row.RowJacobian.{RowJacobian}
use Rattle.compact_table.specs.Compact.{compact_of, put_jacobian_of, put_link_of, Gathered}

-- ---- twelve doubles
module _ (l : List Float) (i : ℕ) (j : RowJacobian) where
  abbrev p1 : List Float
  p1 = put_spread_of l (12 * i) j.linear_a

  abbrev p2 : List Float
  p2 = put_spread_of p1 (12 * i + 1) j.angular_a

  abbrev p3 : List Float
  p3 = put_spread_of p2 (12 * i + 6) j.linear_b

  abbrev p4 : List Float
  p4 = put_spread_of p3 (12 * i + 7) j.angular_b

  l1 : length p1 ≡ length l
  l1 = put_spread_length l (12 * i) j.linear_a

  l2 : length p2 ≡ length l
  l2 = put_spread_length p1 (12 * i + 1) j.angular_a ∙ l1

  l3 : length p3 ≡ length l
  l3 = put_spread_length p2 (12 * i + 6) j.linear_b ∙ l2

  pub put_jacobian_length : length (put_jacobian_of l i j) ≡ length l
  unfolding put_jacobian_of
  put_jacobian_length = put_spread_length p3 (12 * i + 7) j.angular_b ∙ l3

  kept : (k : ℕ) → (k + 5 ≤ 12 * i) ⊎ (12 * i + 12 ≤ k) → spread_of p4 k ≡ spread_of l k
  kept k (inl h) =
      put_spread_other p3 (12 * i + 7) j.angular_b k (λ m n s t e. omega arith) ∙ put_spread_other p2 (12 * i + 6) j.linear_b k (λ m n s t e. omega arith)
      ∙ put_spread_other p1 (12 * i + 1) j.angular_a k (λ m n s t e. omega arith) ∙ put_spread_other l (12 * i) j.linear_a k (λ m n s t e. omega arith)
  kept k (inr h) =
      put_spread_other p3 (12 * i + 7) j.angular_b k (λ m n s t e. omega arith) ∙ put_spread_other p2 (12 * i + 6) j.linear_b k (λ m n s t e. omega arith)
      ∙ put_spread_other p1 (12 * i + 1) j.angular_a k (λ m n s t e. omega arith) ∙ put_spread_other l (12 * i) j.linear_a k (λ m n s t e. omega arith)

  module _ (room : 12 * i + 12 ≤ length l) where
    first : spread_of p4 (12 * i) ≡ j.linear_a
    first =
        put_spread_other p3 (12 * i + 7) j.angular_b (12 * i) (λ m n s t e. omega arith) ∙ put_spread_other p2 (12 * i + 6) j.linear_b (12 * i) (λ m n s t e. omega arith)
        ∙ put_spread_other p1 (12 * i + 1) j.angular_a (12 * i) (λ m n s t e. omega arith) ∙ put_spread_same l (12 * i) j.linear_a (omega arith)

    second : spread_of p4 (12 * i + 1) ≡ j.angular_a
    second =
        put_spread_other p3 (12 * i + 7) j.angular_b (12 * i + 1) (λ m n s t e. omega arith) ∙ put_spread_other p2 (12 * i + 6) j.linear_b (12 * i + 1) (λ m n s t e. omega arith)
        ∙ put_spread_same p1 (12 * i + 1) j.angular_a (omega (arith, l1))

    third : spread_of p4 (12 * i + 6) ≡ j.linear_b
    third = put_spread_other p3 (12 * i + 7) j.angular_b (12 * i + 6) (λ m n s t e. omega arith) ∙ put_spread_same p2 (12 * i + 6) j.linear_b (omega (arith, l2))

    fourth : spread_of p4 (12 * i + 7) ≡ j.angular_b
    fourth = put_spread_same p3 (12 * i + 7) j.angular_b (omega (arith, l3))

-- ---- two words
pub put_link_length : (l : List ℕ) (i : ℕ) (j : RowJacobian) → length (put_link_of l i j) ≡ length l
unfolding put_link_of
put_link_length l i j = simp length-set

module _ (l : List ℕ) (i : ℕ) (j : RowJacobian) where
  abbrev m1 : List ℕ
  m1 = set l (2 * i) j.body_a

  abbrev m2 : List ℕ
  m2 = set m1 (2 * i + 1) j.body_b

  kept_link : (k : ℕ) → (k < 2 * i) ⊎ (2 * i + 2 ≤ k) → get_or m2 k 0 ≡ get_or l k 0
  kept_link k h = get_or-set_other m1 (2 * i + 1) k j.body_b 0 (second_off k h) ∙ get_or-set_other l (2 * i) k j.body_a 0 (first_off k h)
    where
      first_off : (k : ℕ) → (k < 2 * i) ⊎ (2 * i + 2 ≤ k) → k ≡ 2 * i → ⊥
      first_off k (inl h) e = omega arith
      first_off k (inr h) e = omega arith

      second_off : (k : ℕ) → (k < 2 * i) ⊎ (2 * i + 2 ≤ k) → k ≡ 2 * i + 1 → ⊥
      second_off k (inl h) e = omega arith
      second_off k (inr h) e = omega arith

  module _ (room : 2 * i + 2 ≤ length l) where
    link_a : get_or m2 (2 * i) 0 ≡ j.body_a
    link_a = get_or-set_other m1 (2 * i + 1) (2 * i) j.body_b 0 (off (2 * i)) ∙ get_or-set_same l (2 * i) j.body_a 0 (omega arith)
      where
        off : (k : ℕ) → k ≡ k + 1 → ⊥
        off k e = omega arith

    link_b : get_or m2 (2 * i + 1) 0 ≡ j.body_b
    link_b = get_or-set_same m1 (2 * i + 1) j.body_b 0 (omega (arith, length-set l (2 * i) j.body_a))

-- ---- a row
module _ (jacobians : List Float) (links : List ℕ) (i : ℕ) (j : RowJacobian) where
  pub compact_same : 12 * i + 12 ≤ length jacobians → 2 * i + 2 ≤ length links → compact_of (put_jacobian_of jacobians i j) (put_link_of links i j) i ≡ j
  unfolding compact_of put_jacobian_of put_link_of
  compact_same p q = rw (first jacobians i j p, second jacobians i j p, third jacobians i j p, fourth jacobians i j p, link_a links i j q, link_b links i j q)

  pub compact_other : (k : ℕ) → (k < i) ⊎ (i < k) → compact_of (put_jacobian_of jacobians i j) (put_link_of links i j) k ≡ compact_of jacobians links k
  unfolding compact_of put_jacobian_of put_link_of
  compact_other k h =
      rw (
        kept jacobians i j (12 * k) (side (12 * k) (omega arith) (omega arith) h),
        kept jacobians i j (12 * k + 1) (side (12 * k + 1) (omega arith) (omega arith) h),
        kept jacobians i j (12 * k + 6) (side (12 * k + 6) (omega arith) (omega arith) h),
        kept jacobians i j (12 * k + 7) (side (12 * k + 7) (omega arith) (omega arith) h),
        kept_link links i j (2 * k) (link (2 * k) (omega arith) (omega arith) h),
        kept_link links i j (2 * k + 1) (link (2 * k + 1) (omega arith) (omega arith) h),
      )
    where
      side : (m : ℕ) → 12 * k ≤ m → m ≤ 12 * k + 7 → (k < i) ⊎ (i < k) → (m + 5 ≤ 12 * i) ⊎ (12 * i + 12 ≤ m)
      side m p q (inl h) = inl (omega arith)
      side m p q (inr h) = inr (omega arith)

      link : (m : ℕ) → 2 * k ≤ m → m ≤ 2 * k + 1 → (k < i) ⊎ (i < k) → (m < 2 * i) ⊎ (2 * i + 2 ≤ m)
      link m p q (inl h) = inl (omega arith)
      link m p q (inr h) = inr (omega arith)

-- ---- the loop: `Gathered g i`, one row more a turn
pub gathered_none : (g : ℕ → RowJacobian) (jacobians : List Float) (links : List ℕ) → Gathered g 0 jacobians links jacobians links
gathered_none g jacobians links = record { long_jacobians = refl; long_links = refl; at = λ i h. absurd (omega arith) }

pub gathered_more : {g : ℕ → RowJacobian} {i : ℕ} (n : ℕ) {jacobians₀ jacobians jacobians' : List Float} {links₀ links links' : List ℕ} → Gathered g i jacobians₀ links₀ jacobians links
    → i < n → 12 * n ≤ length jacobians₀ → 2 * n ≤ length links₀ → jacobians' ≡ put_jacobian_of jacobians i (g i) → links' ≡ put_link_of links i (g i) → Gathered g (i + 1) jacobians₀ links₀ jacobians' links'
gathered_more {g} {i} n {jacobians₀} {jacobians} {jacobians'} {links₀} {links} {links'} h s p q a b = rw (a, b) (record {
  long_jacobians = put_jacobian_length jacobians i (g i) ∙ h.long_jacobians;
  long_links = put_link_length links i (g i) ∙ h.long_links;
  at = λ k t. go k t (ltb k i) (ltb→lt k i) (nltb→le k i);
})
  where
    go : (k : ℕ) → k < i + 1 → (s : Bool) → (T s → k < i) → (T (not s) → i ≤ k) → compact_of (put_jacobian_of jacobians i (g i)) (put_link_of links i (g i)) k ≡ g k
    go k t true y m = compact_other jacobians links i (g i) k (inl (y tt)) ∙ h.at k (y tt)
    go k t false y m =
        let f : k ≡ i = omega (arith, m tt) in
        rw f (compact_same jacobians links i (g i) (omega (arith, h.long_jacobians)) (omega (arith, h.long_links)))

pub gathered_all : {g : ℕ → RowJacobian} {i n : ℕ} {jacobians₀ jacobians : List Float} {links₀ links : List ℕ} → Gathered g i jacobians₀ links₀ jacobians links → n ≤ i → Gathered g n jacobians₀ links₀ jacobians links
gathered_all h p = record { long_jacobians = h.long_jacobians; long_links = h.long_links; at = λ k t. h.at k (omega arith) }
