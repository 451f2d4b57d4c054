-- A vector put into a slice and read out of it again. Assumes nothing.
use Prim.Native.Nat.{ℕ, ◌+◌, ◌*◌, ◌<◌, ◌≤◌}
use mathlib.Core.Logic.{◌⊎◌, inl, inr}
use native.Mathlib.Omega.{arith}
use mathlib.Core.List.{List}
use mathlib.Core.Path.{◌≡◌, ap, ◌∙◌}
use lib.ListN.{length, get_or, set, length-set}
use lib.Seq.{get_or-set_same, get_or-set_other}
use lib.Ieee.{Float, nan}
use Rattle.kapitsa_math.specs.Lent.{vec_of, put_vec_of, spread_of, put_spread_of}
use Rattle.kapitsa_math.specs.declared.vector.Vec3.{Vec3}

-- the slice keeps its length
pub put_vec_length : (l : List Float) (at : ℕ) (v : Vec3) → length (put_vec_of l at v) ≡ length l
unfolding put_vec_of
put_vec_length l at v = simp length-set

pub put_vec_long : {m : List Float} (l : List Float) (at : ℕ) (v : Vec3) → m ≡ put_vec_of l at v → length m ≡ length l
put_vec_long l at v e = ap length e ∙ put_vec_length l at v

-- it is there, and what lies before or behind it is as it was
pub put_vec_same : (l : List Float) (at : ℕ) (v : Vec3) → at + 3 ≤ length l → vec_of (put_vec_of l at v) at ≡ v
unfolding put_vec_of vec_of
put_vec_same l at v h =
    let a = set l at v.x in
    let b = set a (at + 1) v.y in
    let la : length a ≡ length l = length-set l at v.x in
    let lb : length b ≡ length a = length-set a (at + 1) v.y in
    let x : get_or (set b (at + 2) v.z) at nan ≡ v.x =
    get_or-set_other b (at + 2) at v.z nan (apart at (at + 2) (omega arith)) ∙ get_or-set_other a (at + 1) at v.y nan (apart at (at + 1) (omega arith)) ∙ get_or-set_same l at v.x nan (omega arith) in
    let y : get_or (set b (at + 2) v.z) (at + 1) nan ≡ v.y = get_or-set_other b (at + 2) (at + 1) v.z nan (apart (at + 1) (at + 2) (omega arith)) ∙ get_or-set_same a (at + 1) v.y nan (omega arith) in
    let z : get_or (set b (at + 2) v.z) (at + 2) nan ≡ v.z = get_or-set_same b (at + 2) v.z nan (omega arith) in
    rw (x, y, z)
  where
    apart : (i j : ℕ) → i < j → i ≡ j → ⊥
    apart i j h e = omega arith

kept_one : (l : List Float) (at : ℕ) (v : Vec3) (k : ℕ) → (k < at) ⊎ (at + 3 ≤ k) → get_or (put_vec_of l at v) k nan ≡ get_or l k nan
unfolding put_vec_of
kept_one l at v k h =
    get_or-set_other (set (set l at v.x) (at + 1) v.y) (at + 2) k v.z nan (off k at 2 (omega arith) h)
    ∙ get_or-set_other (set l at v.x) (at + 1) k v.y nan (off k at 1 (omega arith) h)
    ∙ get_or-set_other l at k v.x nan (at_none k at h)
  where
    off : (k at i : ℕ) → i < 3 → (k < at) ⊎ (at + 3 ≤ k) → k ≡ at + i → ⊥
    off k at i l (inl h) e = omega arith
    off k at i l (inr h) e = omega arith

    at_none : (k at : ℕ) → (k < at) ⊎ (at + 3 ≤ k) → k ≡ at → ⊥
    at_none k at (inl h) e = omega arith
    at_none k at (inr h) e = omega arith

pub put_vec_other : (l : List Float) (at : ℕ) (v : Vec3) (k : ℕ) → (k + 3 ≤ at) ⊎ (at + 3 ≤ k) → vec_of (put_vec_of l at v) k ≡ vec_of l k
unfolding vec_of
put_vec_other l at v k h = rw (kept_one l at v k (first k at h), kept_one l at v (k + 1) (near k at 1 (omega arith) h), kept_one l at v (k + 2) (near k at 2 (omega arith) h))
  where
    first : (k at : ℕ) → (k + 3 ≤ at) ⊎ (at + 3 ≤ k) → (k < at) ⊎ (at + 3 ≤ k)
    first k at (inl h) = inl (omega arith)
    first k at (inr h) = inr h

    near : (k at i : ℕ) → i < 3 → (k + 3 ≤ at) ⊎ (at + 3 ≤ k) → (k + i < at) ⊎ (at + 3 ≤ k + i)
    near k at i l (inl h) = inl (omega arith)
    near k at i l (inr h) = inr (omega arith)

-- ---- at every second place
pub put_spread_length : (l : List Float) (at : ℕ) (v : Vec3) → length (put_spread_of l at v) ≡ length l
unfolding put_spread_of
put_spread_length l at v = simp length-set

pub put_spread_long : {m : List Float} (l : List Float) (at : ℕ) (v : Vec3) → m ≡ put_spread_of l at v → length m ≡ length l
put_spread_long l at v e = ap length e ∙ put_spread_length l at v

pub put_spread_same : (l : List Float) (at : ℕ) (v : Vec3) → at + 5 ≤ length l → spread_of (put_spread_of l at v) at ≡ v
unfolding put_spread_of spread_of
put_spread_same l at v h =
    let a = set l at v.x in
    let b = set a (at + 2) v.y in
    let la : length a ≡ length l = length-set l at v.x in
    let lb : length b ≡ length a = length-set a (at + 2) v.y in
    let x : get_or (set b (at + 4) v.z) at nan ≡ v.x =
    get_or-set_other b (at + 4) at v.z nan (apart at (at + 4) (omega arith)) ∙ get_or-set_other a (at + 2) at v.y nan (apart at (at + 2) (omega arith)) ∙ get_or-set_same l at v.x nan (omega arith) in
    let y : get_or (set b (at + 4) v.z) (at + 2) nan ≡ v.y = get_or-set_other b (at + 4) (at + 2) v.z nan (apart (at + 2) (at + 4) (omega arith)) ∙ get_or-set_same a (at + 2) v.y nan (omega arith) in
    let z : get_or (set b (at + 4) v.z) (at + 4) nan ≡ v.z = get_or-set_same b (at + 4) v.z nan (omega arith) in
    rw (x, y, z)
  where
    apart : (i j : ℕ) → i < j → i ≡ j → ⊥
    apart i j h e = omega arith

kept_between : (l : List Float) (at : ℕ) (v : Vec3) (k : ℕ) → (k ≡ at → ⊥) → (k ≡ at + 2 → ⊥) → (k ≡ at + 4 → ⊥) → get_or (put_spread_of l at v) k nan ≡ get_or l k nan
unfolding put_spread_of
kept_between l at v k p q r =
    get_or-set_other (set (set l at v.x) (at + 2) v.y) (at + 4) k v.z nan r
    ∙ get_or-set_other (set l at v.x) (at + 2) k v.y nan q
    ∙ get_or-set_other l at k v.x nan p

-- a vector that shares no place with it is as it was, be it between its numbers
pub put_spread_other : (l : List Float) (at : ℕ) (v : Vec3) (k : ℕ) → ((i j : ℕ) → i < 3 → j < 3 → k + 2 * i ≡ at + 2 * j → ⊥) → spread_of (put_spread_of l at v) k ≡ spread_of l k
unfolding spread_of
put_spread_other l at v k h = rw (one 0 {p = k} (omega arith) (omega arith), one 1 {p = k + 2} (omega arith) (omega arith), one 2 {p = k + 4} (omega arith) (omega arith))
  where
    one : (i : ℕ) {p : ℕ} → i < 3 → p ≡ k + 2 * i → get_or (put_spread_of l at v) p nan ≡ get_or l p nan
    one i {p} s e = kept_between l at v p (λ q. h i 0 s (omega arith) (omega arith)) (λ q. h i 1 s (omega arith) (omega arith)) (λ q. h i 2 s (omega arith) (omega arith))
