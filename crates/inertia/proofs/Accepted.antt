-- What an accepted factor means: a row's pivot is finite, so every number that it was made of is; a pivot's root is above zero. Assumes nothing.
use Prim.Native.Nat.{ℕ}
use mathlib.Core.Path.{◌≡◌, refl, sym, ap, ◌∙◌, subst}
use mathlib.Core.Bool.{Bool, false, not}
use native.Mathlib.Omega.{arith}
use borrow.Author.Tests.{not-false}
use lib.Dec.{T}
use lib.Ieee.{Float, nan, inf, fin, binary64, sub, mul, neg, eq, of_bits}
use lib.Ieee.Positive.{positive, positive-finite}
use lib.Ieee.Scale.{finite}
use Rattle.std.specs.Prelude.{Option, Some, None, Result, Ok, Err}
use Rattle.loops.specs.Run.{going}
use Rattle.loops.specs.Cleared.{plus_zero}
use Rattle.loops.proofs.Inverse.{next_going, going_inj}
use Rattle.rounding.proofs.Rounded.{add_finite, mul_finite}
use Rattle.binary64.specs.SquareRoot.{unsigned}
use Rattle.kapitsa_math.specs.Matrix.{finite_columns_of}
use Rattle.kapitsa_math.proofs.Finite.{finite_vector}
use Rattle.kapitsa_math.specs.declared.vector.Vec3.{Vec3}
use Rattle.kapitsa_math.specs.declared.matrix.Mat3.{Mat3}
use Rattle.inertia.specs.Divided.{scale_of}
use Rattle.inertia.specs.Triangle.{less_sum, sum_of_one, sum_of_two, first_run, second_x, second_pivot, second_run, third_x, third_y, third_pivot, third_run, triangle_run}
use Rattle.inertia.specs.Factor.{has_scale}
use Rattle.inertia.specs.Answers.{cholesky_out}
use Rattle.inertia.specs.Meaning.{TriangleMeaning, FactorMeaning, TriangleTells, PivotTells, FirstMeaning, SecondMeaning, ThirdMeaning, RowTells}
use Rattle.inertia.specs.declared.triangle.Cholesky3.{Cholesky3}
use Rattle.inertia.specs.declared.triangle.CholeskyError.{CholeskyError}
use Rattle.inertia.proofs.Scale.{scale_unsigned, scale_positive}

-- ---- a difference and a sum of squares are finite only where what they were made of is
less_finite : (x s : Float) → T (finite (less_sum x s)) → T (finite s)
unfolding less_sum sub neg
less_finite x s t = turned s (add_finite binary64 x (neg s) t).1
  where
    turned : (s : Float) → T (finite (neg s)) → T (finite s)
    turned nan t = t
    turned (inf b) t = t
    turned (fin b m e) t = tt

one_finite : (a : Float) → T (finite (sum_of_one a a)) → T (finite a)
unfolding sum_of_one
one_finite a t = (mul_finite binary64 a a (add_finite binary64 plus_zero (mul binary64 a a) t).1).0

two_finite : (a b : Float) → T (finite (sum_of_two a a b b)) → T (finite a) × T (finite b)
unfolding sum_of_two
two_finite a b t =
    let (l, r) = add_finite binary64 (sum_of_one a a) (mul binary64 b b) t in
    (one_finite a l, (mul_finite binary64 b b r).0)

-- ---- the three rows
done_inside : {v w : Vec3} → Some v ≡ Some w → v ≡ w
done_inside k = cc

tells : {Means : Vec3 → Type 0} (row : Vec3) → Means row → RowTells Means (Some row)
tells {Means} row m = record { accepted = λ v k. subst Means (done_inside k) m }

pub row_none : (Means : Vec3 → Type 0) → RowTells Means None
row_none Means = record { accepted = λ v k. absurd (none k) }
  where
    none : {v : Vec3} → None ≡ Some v → ⊥
    none k = let z : ◌≡◌ {A = ℕ} 0 1 = cc in omega arith

pub first_tells : (n : Mat3) {r : Option Float} {p : Float} → PivotTells (less_sum n.x.x plus_zero) r → r ≡ Some p → RowTells FirstMeaning (Some record { x = p; y = plus_zero; z = plus_zero })
first_tells n {p = p} t h = tells record { x = p; y = plus_zero; z = plus_zero } (record { pivot = (t.accepted p h).1; above = (refl, refl) })

pub second_tells : (n : Mat3) (a : Vec3) {r : Option Float} {p : Float} → PivotTells (second_pivot n a) r → r ≡ Some p → RowTells SecondMeaning (Some record { x = second_x n a; y = p; z = plus_zero })
unfolding second_pivot
second_tells n a {p = p} t h =
    let x = second_x n a in
    let (f, q) = t.accepted p h in
    tells record { x = x; y = p; z = plus_zero } (record { left = one_finite x (less_finite n.y.y (sum_of_one x x) f); pivot = q; above = refl })

pub third_tells : (n : Mat3) (a b : Vec3) {r : Option Float} {p : Float} → PivotTells (third_pivot n a b) r → r ≡ Some p → RowTells ThirdMeaning (Some record { x = third_x n a; y = third_y n a b; z = p })
unfolding third_pivot
third_tells n a b {p = p} t h =
    let x = third_x n a in
    let y = third_y n a b in
    let (f, q) = t.accepted p h in
    tells record { x = x; y = y; z = p } (record { left = two_finite x y (less_finite n.z.z (sum_of_two x x y y) f); pivot = q })

-- ---- together
zero_finite : (x : Float) → x ≡ plus_zero → T (finite x)
unfolding of_bits
zero_finite x e = rw e tt

rows_meaning : (a b c : Vec3) (scale : Float) → FirstMeaning a → SecondMeaning b → ThirdMeaning c → TriangleMeaning record { first = a; second = b; third = c; scale = scale }
rows_meaning a b c scale f s t = record {
  pivots = (f.pivot, s.pivot, t.pivot);
  finite = (
    finite_vector a (record { x = positive-finite a.x f.pivot; y = zero_finite a.y f.above.0; z = zero_finite a.z f.above.1 }),
    finite_vector b (record { x = s.left; y = positive-finite b.y s.pivot; z = zero_finite b.z s.above }),
    finite_vector c (record { x = t.left.0; y = t.left.1; z = positive-finite c.z t.pivot }),
  );
  lower = (f.above.0, f.above.1, s.above);
}

factor_inside : {f g : Cholesky3} → ◌≡◌ {A = Result Cholesky3 CholeskyError} (Ok f) (Ok g) → f ≡ g
factor_inside k = cc

pub triangle_tells : (scale : Float) {r s t : Option Vec3} {a b c : Vec3} → RowTells FirstMeaning r → r ≡ Some a → RowTells SecondMeaning s → s ≡ Some b → RowTells ThirdMeaning t → t ≡ Some c
    → TriangleTells (Ok record { first = a; second = b; third = c; scale = scale })
triangle_tells scale {a = a} {b = b} {c = c} p e q f o g =
    record { accepted = λ h k. subst TriangleMeaning (factor_inside k) (rows_meaning a b c scale (p.accepted a e) (q.accepted b f) (o.accepted c g)) }

none : {e : CholeskyError} {f : Cholesky3} → Err e ≡ Ok f → ⊥
none k = let z : ◌≡◌ {A = ℕ} 0 1 = cc in omega arith

pub triangle_none : (e : CholeskyError) → TriangleTells (Err e)
triangle_none e = record { accepted = λ f k. absurd (none k) }

pub factor_none : (e : CholeskyError) → FactorMeaning (Err e)
factor_none e = record { accepted = λ f k. absurd (none k) }

-- the scale is kept beside the triangle
kept : (n : Mat3) (scale : Float) (f : Cholesky3) → triangle_run n scale ≡ going f → f.scale ≡ scale
unfolding triangle_run
kept n scale f h =
    let (a, e, g) = (next_going (first_run n) _ f).0 h in
    let (b, i, k) = (next_going (second_run n a) _ f).0 g in
    let (c, j, l) = (next_going (third_run n a b) _ f).0 k in
    ap (λ (f : Cholesky3). f.scale) (sym (going_inj l))

pub factor_tells : (m : Mat3) {b : Bool} {scale : Float} (n : Mat3) (r : Result Cholesky3 CholeskyError) → b ≡ finite_columns_of m → not b ≡ false → scale ≡ scale_of m → eq scale plus_zero ≡ false
    → triangle_run n scale ≡ cholesky_out r → TriangleTells r → FactorMeaning r
unfolding has_scale
factor_tells m {b = b} {scale = scale} n r e h p l g t =
    let u : T (unsigned scale) = subst (λ (s : Float). T (unsigned s)) (sym p) (scale_unsigned m (sym e ∙ not-false b h)) in
    let q : T (positive scale) = scale_positive scale u (ap not l) in
    record { accepted = λ f k. record { triangle = t.accepted f k; scaled = subst (λ (s : Float). T (positive s)) (sym (kept n scale f (g ∙ ap cholesky_out k))) q } }
