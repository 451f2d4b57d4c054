-- A sum or product that went not finite stays so. So a dot product or a matrix product is finite only where all that it was made of is, and testing the result refuses exactly what the Rust's checked forms refuse. Assumes nothing.
use mathlib.Core.Path.{◌≡◌, refl, subst}
use mathlib.Core.Bool.{Bool, true, false, ◌&&◌}
use lib.Dec.{T}
use lib.Ieee.{Float, binary64, add, mul}
use lib.Ieee.Fits.{and_i, and_l, and_r}
use lib.Ieee.Scale.{finite}
use Rattle.loops.specs.Run.{check}
use Rattle.rounding.proofs.Rounded.{add_finite, mul_finite}
use Rattle.kapitsa_math.specs.Vector.{dot_of, add_of, scale_of, is_finite_of}
use Rattle.kapitsa_math.specs.Matrix.{mul_vector_of, finite_columns_of}
use Rattle.kapitsa_math.specs.Checked.{checked_value_of, checked_dot_of, checked_mul_vector_of}
use Rattle.kapitsa_math.specs.declared.vector.Vec3.{Vec3}
use Rattle.kapitsa_math.specs.declared.matrix.Mat3.{Mat3}
use Rattle.std.specs.Prelude.{Some, None}

-- the three numbers of a finite vector
pub record FiniteVector (v : Vec3) : Type 0 where
  pub x : T (finite v.x)
  pub y : T (finite v.y)
  pub z : T (finite v.z)

pub vector_finite : (v : Vec3) → T (is_finite_of v) → FiniteVector v
unfolding is_finite_of
vector_finite v t =
    let a = finite v.x in
    let b = finite v.y in
    let c = finite v.z in
    record { x = and_l a b (and_l (a && b) c t); y = and_r a b (and_l (a && b) c t); z = and_r (a && b) c t }

pub finite_vector : (v : Vec3) → FiniteVector v → T (is_finite_of v)
unfolding is_finite_of
finite_vector v f = and_i (finite v.x && finite v.y) (finite v.z) (and_i (finite v.x) (finite v.y) f.x f.y) f.z

pub dot_finite : (v w : Vec3) → T (finite (dot_of v w)) → FiniteVector v × FiniteVector w
unfolding dot_of
dot_finite v w t =
    let s = add_finite binary64 (add binary64 (mul binary64 v.x w.x) (mul binary64 v.y w.y)) (mul binary64 v.z w.z) t in
    let r = add_finite binary64 (mul binary64 v.x w.x) (mul binary64 v.y w.y) s.0 in
    let a = mul_finite binary64 v.x w.x r.0 in
    let b = mul_finite binary64 v.y w.y r.1 in
    let c = mul_finite binary64 v.z w.z s.1 in
    (record { x = a.0; y = b.0; z = c.0 }, record { x = a.1; y = b.1; z = c.1 })

pub sum_finite : (v w : Vec3) → FiniteVector (add_of v w) → FiniteVector v × FiniteVector w
unfolding add_of
sum_finite v w f =
    let a = add_finite binary64 v.x w.x f.x in
    let b = add_finite binary64 v.y w.y f.y in
    let c = add_finite binary64 v.z w.z f.z in
    (record { x = a.0; y = b.0; z = c.0 }, record { x = a.1; y = b.1; z = c.1 })

pub scaled_finite : (v : Vec3) (c : Float) → FiniteVector (scale_of v c) → FiniteVector v × T (finite c)
unfolding scale_of
scaled_finite v c f =
    let a = mul_finite binary64 v.x c f.x in
    (record { x = a.0; y = (mul_finite binary64 v.y c f.y).0; z = (mul_finite binary64 v.z c f.z).0 }, a.1)

pub product_finite : (m : Mat3) (v : Vec3) → FiniteVector (mul_vector_of m v) → T (finite_columns_of m) × FiniteVector v
unfolding mul_vector_of finite_columns_of
product_finite m v f =
    let s = sum_finite (add_of (scale_of m.x v.x) (scale_of m.y v.y)) (scale_of m.z v.z) f in
    let r = sum_finite (scale_of m.x v.x) (scale_of m.y v.y) s.0 in
    let a = scaled_finite m.x v.x r.0 in
    let b = scaled_finite m.y v.y r.1 in
    let c = scaled_finite m.z v.z s.1 in
    (and_i (is_finite_of m.x && is_finite_of m.y) (is_finite_of m.z) (and_i (is_finite_of m.x) (is_finite_of m.y) (finite_vector m.x a.0) (finite_vector m.y b.0)) (finite_vector m.z c.0), record { x = a.1; y = b.1; z = c.1 })

-- ---- the Rust's checked forms test the result alone
held : {b : Bool} → b ≡ true → T b
held e = rw e tt

pub checked_dot_final : (v w : Vec3) → checked_dot_of v w ≡ checked_value_of (dot_of v w)
unfolding checked_dot_of checked_value_of check
checked_dot_final v w = go (finite (dot_of v w)) refl (is_finite_of v && is_finite_of w) refl
  where
    go : (b : Bool) → finite (dot_of v w) ≡ b → (c : Bool) → (is_finite_of v && is_finite_of w) ≡ c → check c (check b (Some (dot_of v w)) None) None ≡ check b (Some (dot_of v w)) None
    go b e true h = refl
    go false e false h = refl
    go true e false h =
        let f = dot_finite v w (held e) in
        absurd (subst T h (and_i (is_finite_of v) (is_finite_of w) (finite_vector v f.0) (finite_vector w f.1)))

pub checked_product_final : (m : Mat3) (v : Vec3) → checked_mul_vector_of m v ≡ check (is_finite_of (mul_vector_of m v)) (Some (mul_vector_of m v)) None
unfolding checked_mul_vector_of check
checked_product_final m v = go (is_finite_of (mul_vector_of m v)) refl (finite_columns_of m && is_finite_of v) refl
  where
    go : (b : Bool) → is_finite_of (mul_vector_of m v) ≡ b → (c : Bool) → (finite_columns_of m && is_finite_of v) ≡ c → check c (check b (Some (mul_vector_of m v)) None) None ≡ check b (Some (mul_vector_of m v)) None
    go b e true h = refl
    go false e false h = refl
    go true e false h =
        let f = product_finite m v (vector_finite (mul_vector_of m v) (held e)) in
        absurd (subst T h (and_i (finite_columns_of m) (is_finite_of v) f.0 (finite_vector v f.1)))
