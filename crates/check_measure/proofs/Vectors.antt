-- Vectors of terms: sums, products with a listed number or vector, and a matrix of listed numbers on a vector. Assumes nothing.
use Prim.Native.Nat.{ℕ, suc, ◌+◌, ◌^◌, ◌<◌, ◌≤◌}
use native.Mathlib.Nat.{le_refl}
use native.Mathlib.Omega.{arith}
use lib.IntN.{ℤ}
use lib.Ieee.{Float}
use Rattle.kapitsa_math.specs.Vector.{dot_of, add_of, scale_of}
use Rattle.kapitsa_math.specs.Matrix.{mul_vector_of}
use Rattle.kapitsa_math.specs.declared.vector.Vec3.{Vec3}
use Rattle.kapitsa_math.specs.declared.matrix.Mat3.{Mat3}
use Rattle.check_measure.specs.Gap.{Exact3, exact_vec, dot_z, add_z, scale_z, mul_z}
use Rattle.check_measure.proofs.Term.{Level, Up, one, Term, term_add, term_weaken, term_right, term_left}

pub record TermVec (L : Level) (k A : ℕ) (v w : Vec3) (Z : Exact3) : Type 0 where
  pub x : Term L k A v.x w.x Z.x
  pub y : Term L k A v.y w.y Z.y
  pub z : Term L k A v.z w.z Z.z

pub vec_weaken : (L : Level) (k h A B : ℕ) {v w : Vec3} {Z : Exact3} → k ≤ h → A ≤ B → TermVec L k A v w Z → TermVec L h B v w Z
vec_weaken L k h A B p q t = record { x = term_weaken L k h A B p q t.x; y = term_weaken L k h A B p q t.y; z = term_weaken L k h A B p q t.z }

pub vec_add : (L : Level) → L.top ≤ 2000 → (k h K A B : ℕ) {v w v' w' : Vec3} {Z Z' : Exact3} → k ≤ K → h ≤ K → K ≤ 4000 → A + B < 2 ^ 53 → TermVec L k A v w Z → TermVec L h B v' w' Z'
    → TermVec L (suc K) (A + B) (add_of v v') (add_of w w') (add_z Z Z')
unfolding add_of add_z
vec_add L few k h K A B p q r s m n = record {
  x = term_add L few k h K A B p q r s m.x n.x;
  y = term_add L few k h K A B p q r s m.y n.y;
  z = term_add L few k h K A B p q r s m.z n.z;
}

module _ (L M : Level) (u : Up L M) (k A : ℕ) (K : k ≤ 4000) (few : A < 2 ^ 53) where
  -- a vector times a listed number
  pub vec_right : {v w : Vec3} {Z : Exact3} {c d : Float} {C : ℤ} → TermVec L k A v w Z → Term one 0 1 c d C → TermVec M (suc k) A (scale_of v c) (scale_of w d) (scale_z Z C)
  unfolding scale_of scale_z
  vec_right m n = record { x = term_right L M u k A K few m.x n; y = term_right L M u k A K few m.y n; z = term_right L M u k A K few m.z n }

  -- a listed vector times a number
  pub vec_left : {v w : Vec3} {Z : Exact3} {c d : Float} {C : ℤ} → TermVec one 0 1 v w Z → Term L k A c d C → TermVec M (suc k) A (scale_of v c) (scale_of w d) (scale_z Z C)
  unfolding scale_of scale_z
  vec_left m n = record { x = term_left L M u k A K few n m.x; y = term_left L M u k A K few n m.y; z = term_left L M u k A K few n m.z }

  module _ (tight : k ≤ 3000) (room : A ≤ 2 ^ 40) where
    -- a listed vector on a vector
    pub dot_term : {v w p q : Vec3} {U P : Exact3} → TermVec one 0 1 v w U → TermVec L k A p q P → Term M (k + 3) (A + A + A) (dot_of v p) (dot_of w q) (dot_z U P)
    unfolding dot_of dot_z
    dot_term m n =
        let a = term_left L M u k A K few n.x m.x in
        let b = term_left L M u k A K few n.y m.y in
        let c = term_left L M u k A K few n.z m.z in
        let s = term_add M u.room (suc k) (suc k) (suc k) A A (le_refl (suc k)) (le_refl (suc k)) (omega arith) (omega arith) a b in
        term_weaken M (suc (suc (suc k))) (k + 3) (A + A + A) (A + A + A) (omega arith) (le_refl (A + A + A))
        (term_add M u.room (suc (suc k)) (suc k) (suc (suc k)) (A + A) A (le_refl (suc (suc k))) (omega arith) (omega arith) (omega arith) s c)

    -- a matrix of listed numbers on a vector
    pub mat_term : {m n : Mat3} {p q : Vec3} {P : Exact3} → TermVec one 0 1 m.x n.x (exact_vec m.x) → TermVec one 0 1 m.y n.y (exact_vec m.y) → TermVec one 0 1 m.z n.z (exact_vec m.z)
        → TermVec L k A p q P → TermVec M (k + 3) (A + A + A) (mul_vector_of m p) (mul_vector_of n q) (mul_z m P)
    unfolding mul_vector_of mul_z
    mat_term f g h t =
        let a = vec_left f t.x in
        let b = vec_left g t.y in
        let c = vec_left h t.z in
        let s = vec_add M u.room (suc k) (suc k) (suc k) A A (le_refl (suc k)) (le_refl (suc k)) (omega arith) (omega arith) a b in
        vec_weaken M (suc (suc (suc k))) (k + 3) (A + A + A) (A + A + A) (omega arith) (le_refl (A + A + A))
        (vec_add M u.room (suc (suc k)) (suc k) (suc (suc k)) (A + A) A (le_refl (suc (suc k))) (omega arith) (omega arith) (omega arith) s c)
