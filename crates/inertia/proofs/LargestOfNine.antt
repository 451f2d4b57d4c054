-- The scale of a finite matrix is at least as large as each number on its diagonal, so these divided by it are at most 1. Assumes nothing.
use Prim.Native.Nat.{◌*◌, ◌^◌, ◌≤◌}
use mathlib.Core.Path.{◌≡◌, refl}
use mathlib.Core.Bool.{Bool, true, false, cond, ◌&&◌}
use native.Mathlib.Nat.{le_refl, le_of_lt}
use borrow.Author.Tests.{ltb-true, ltb-false}
use lib.Dec.{T, ltb}
use lib.Ieee.{Float, nan, inf, fin, binary64, low, up, down, lt, div}
use lib.Ieee.Positive.{num, den, den_pos, through}
use Rattle.loops.specs.Cleared.{plus_zero}
use Rattle.loops.proofs.Both.{both}
use Rattle.binary64.specs.SquareRoot.{unsigned}
use Rattle.binary64.specs.Order.{absolute, larger}
use Rattle.rounding.specs.Value.{plus}
use Rattle.kapitsa_math.specs.Vector.{abs_of, is_finite_of}
use Rattle.kapitsa_math.specs.Matrix.{finite_columns_of}
use Rattle.kapitsa_math.proofs.Finite.{vector_finite}
use Rattle.kapitsa_math.specs.declared.vector.Vec3.{Vec3}
use Rattle.kapitsa_math.specs.declared.matrix.Mat3.{Mat3}
use Rattle.inertia.specs.Divided.{largest_of, scale_of}
use Rattle.inertia.proofs.Scale.{size_unsigned, larger_unsigned, largest_unsigned, zero_unsigned}
use Rattle.inertia.proofs.SmallRoots.{quotient_most}

-- the size of x is at most that of y, as fractions
pub record Under (x y : Float) : Type 0 where
  pub most : num x * den y ≤ num y * den x

under_trans : (x y z : Float) → Under x y → Under y z → Under x z
under_trans x y z h k = record { most = through (num x) (num y) (num z) (den x) (den y) (den z) (den_pos y) h.most k.most }

record Both (x y z : Float) : Type 0 where
  left : Under x z
  right : Under y z

larger_above : (x y : Float) → T (unsigned x) → T (unsigned y) → Both x y (larger x y)
unfolding larger lt unsigned
larger_above nan y t u = absurd t
larger_above (inf s) y t u = absurd t
larger_above (fin true m e) y t u = absurd t
larger_above (fin false m e) nan t u = absurd u
larger_above (fin false m e) (inf s) t u = absurd u
larger_above (fin false m e) (fin true n d) t u = absurd u
larger_above (fin false m e) (fin false n d) t u = go (ltb (m * up e * down d) (n * up d * down e)) refl
  where
    go : (b : Bool) → ltb (m * up e * down d) (n * up d * down e) ≡ b → Both (fin false m e) (fin false n d) (cond b (fin false n d) (fin false m e))
    go true h = record { left = record { most = le_of_lt (ltb-true (m * up e * down d) (n * up d * down e) h) }; right = record { most = le_refl _ } }
    go false h = record { left = record { most = le_refl _ }; right = record { most = ltb-false (m * up e * down d) (n * up d * down e) h } }

-- a size is that of its number
of_size : (x s : Float) → Under (absolute x) s → Under x s
unfolding absolute
of_size nan s h = record { most = h.most }
of_size (inf b) s h = record { most = h.most }
of_size (fin b m e) s h = record { most = h.most }

pub record AtLeast (v : Vec3) (least s : Float) : Type 0 where
  pub before : Under least s
  pub x : Under v.x s
  pub y : Under v.y s
  pub z : Under v.z s

largest_above : (v : Vec3) (least : Float) → T (is_finite_of v) → T (unsigned least) → AtLeast v least (largest_of v least)
unfolding largest_of abs_of
largest_above v least t u =
    let f = vector_finite v t in
    let p = absolute v.x in
    let q = absolute v.y in
    let r = absolute v.z in
    let a = larger least p in
    let b = larger a q in
    let c = larger b r in
    let ua = larger_unsigned least p u (size_unsigned v.x f.x) in
    let ub = larger_unsigned a q ua (size_unsigned v.y f.y) in
    let ha = larger_above least p u (size_unsigned v.x f.x) in
    let hb = larger_above a q ua (size_unsigned v.y f.y) in
    let hc = larger_above b r ub (size_unsigned v.z f.z) in
    let up-a = under_trans a b c hb.left hc.left in
    record {
      before = under_trans least a c ha.left up-a;
      x = of_size v.x c (under_trans p a c ha.right up-a);
      y = of_size v.y c (under_trans q b c hb.right hc.left);
      z = of_size v.z c hc.right;
    }

held : {b : Bool} → b ≡ true → T b
held e = rw e tt

pub record ScaleAbove (m : Mat3) : Type 0 where
  pub x : Under m.x.x (scale_of m)
  pub y : Under m.y.y (scale_of m)
  pub z : Under m.z.z (scale_of m)

pub scale_above : (m : Mat3) → finite_columns_of m ≡ true → ScaleAbove m
unfolding scale_of finite_columns_of
scale_above m h =
    let (p, z) = both (is_finite_of m.x && is_finite_of m.y) (is_finite_of m.z) h in
    let (x, y) = both (is_finite_of m.x) (is_finite_of m.y) p in
    let a = largest_of m.x plus_zero in
    let b = largest_of m.y a in
    let c = largest_of m.z b in
    let ua = largest_unsigned m.x plus_zero (held x) zero_unsigned in
    let ub = largest_unsigned m.y a (held y) ua in
    let ha = largest_above m.x plus_zero (held x) zero_unsigned in
    let hb = largest_above m.y a (held y) ua in
    let hc = largest_above m.z b (held z) ub in
    record { x = under_trans m.x.x a c ha.x (under_trans a b c hb.before hc.before); y = under_trans m.y.y b c hb.y hc.before; z = hc.z }

pub divided_most : (x s : Float) → T (unsigned s) → Under x s → plus binary64 (div binary64 x s) ≤ 2 ^ low binary64
unfolding unsigned
divided_most x nan t h = absurd t
divided_most x (inf b) t h = absurd t
divided_most x (fin true n d) t h = absurd t
divided_most x (fin false n d) t h = quotient_most binary64 x n d h.most
