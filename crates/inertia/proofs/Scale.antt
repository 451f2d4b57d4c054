-- The scale of a finite matrix has no minus sign; where it is not zero, it is above zero. Assumes nothing.
use Prim.Native.Nat.{ℕ, zero, suc, ◌*◌}
use mathlib.Core.Path.{◌≡◌, refl, sym, ◌∙◌, subst}
use mathlib.Core.Bool.{Bool, true, false, cond, ◌&&◌, true≢false}
use native.Mathlib.Nat.{zero-mul, zero-lt-suc}
use native.Mathlib.Omega.{arith}
use borrow.Author.Tests.{not-true}
use lib.Dec.{T, eqb, lt→ltb}
use lib.IntN.{pos}
use lib.Ieee.{Float, nan, inf, fin, up, down, lt, eq, of_bits}
use lib.Ieee.Positive.{positive}
use lib.Ieee.Scale.{finite}
use Rattle.loops.specs.Cleared.{plus_zero}
use Rattle.loops.proofs.Both.{both}
use Rattle.binary64.specs.SquareRoot.{unsigned}
use Rattle.binary64.specs.Order.{absolute, larger}
use Rattle.kapitsa_math.specs.Vector.{abs_of, is_finite_of}
use Rattle.kapitsa_math.specs.Matrix.{finite_columns_of}
use Rattle.kapitsa_math.proofs.Finite.{vector_finite}
use Rattle.kapitsa_math.specs.declared.vector.Vec3.{Vec3}
use Rattle.kapitsa_math.specs.declared.matrix.Mat3.{Mat3}
use Rattle.inertia.specs.Divided.{largest_of, scale_of}
use Rattle.inertia.specs.Factor.{has_scale}

pub size_unsigned : (x : Float) → T (finite x) → T (unsigned (absolute x))
unfolding unsigned absolute
size_unsigned nan t = absurd t
size_unsigned (inf s) t = absurd t
size_unsigned (fin s m e) t = tt

pub larger_unsigned : (x y : Float) → T (unsigned x) → T (unsigned y) → T (unsigned (larger x y))
unfolding larger
larger_unsigned x y t u = go (lt x y)
  where
    go : (b : Bool) → T (unsigned (cond b y x))
    go true = u
    go false = t

pub largest_unsigned : (v : Vec3) (least : Float) → T (is_finite_of v) → T (unsigned least) → T (unsigned (largest_of v least))
unfolding largest_of abs_of
largest_unsigned v least t u =
    let f = vector_finite v t in
    let a = larger_unsigned least (absolute v.x) u (size_unsigned v.x f.x) in
    let b = larger_unsigned _ (absolute v.y) a (size_unsigned v.y f.y) in
    larger_unsigned _ (absolute v.z) b (size_unsigned v.z f.z)

held : {b : Bool} → b ≡ true → T b
held e = rw e tt

pub zero_unsigned : T (unsigned plus_zero)
unfolding unsigned of_bits
zero_unsigned = tt

pub scale_unsigned : (m : Mat3) → finite_columns_of m ≡ true → T (unsigned (scale_of m))
unfolding scale_of finite_columns_of
scale_unsigned m h =
    let (p, z) = both (is_finite_of m.x && is_finite_of m.y) (is_finite_of m.z) h in
    let (x, y) = both (is_finite_of m.x) (is_finite_of m.y) p in
    largest_unsigned m.z _ (held z) (largest_unsigned m.y _ (held y) (largest_unsigned m.x plus_zero (held x) zero_unsigned))

nought_is : plus_zero ≡ fin false 0 (pos 0)
unfolding of_bits
nought_is = refl

pub scale_positive : (s : Float) → T (unsigned s) → has_scale s ≡ true → T (positive s)
unfolding unsigned has_scale eq
scale_positive s t h = go s t (subst (λ (z : Float). eq s z ≡ false) nought_is (not-true (eq s plus_zero) h))
  where
    level : (a b : ℕ) → a ≡ 0 → b ≡ 0 → (eqb a b && true) ≡ true
    level a b e h = rw (e, h)

    go : (s : Float) → T (unsigned s) → eq s (fin false 0 (pos 0)) ≡ false → T (positive s)
    go nan t h = absurd t
    go (inf s) t h = absurd t
    go (fin true m e) t h = absurd t
    go (fin false zero e) t h = absurd (true≢false (sym (level (0 * up e * 1) (0 * 1 * down e) (omega arith) (zero-mul (down e))) ∙ h))
    go (fin false (suc m) e) t h = lt→ltb 0 (suc m) (zero-lt-suc m)
