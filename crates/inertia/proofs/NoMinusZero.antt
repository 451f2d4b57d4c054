-- The inverse has no -0.0: the pivots are at most 1, no difference on the way through a unit vector begins at -0.0, and no quotient by a pivot comes to less than a unit. Assumes nothing.
use Prim.Native.Nat.{ℕ, ◌^◌, ◌≤◌}
use mathlib.Core.Path.{◌≡◌, refl, ap, ◌∙◌, subst}
use mathlib.Core.Bool.{Bool, true, false, not, ◌&&◌}
use native.Mathlib.Nat.{le_of_eq, le_trans}
use native.Mathlib.Omega.{arith}
use borrow.Author.Tests.{not-true}
use lib.Dec.{T}
use lib.Ieee.{Float, nan, inf, fin, binary64, low, sub, mul, div, le, fits, of_bits}
use lib.Ieee.Fits.{add-fits, sub-fits, mul-fits, div-fits, and_i}
use lib.Ieee.Positive.{positive}
use lib.Ieee.Scale.{finite}
use Rattle.std.specs.Prelude.{Result, Ok, Err}
use Rattle.loops.specs.Run.{going}
use Rattle.loops.specs.Judge.{test, judge, AllPass}
use Rattle.loops.specs.Cleared.{plus_zero}
use Rattle.loops.proofs.Judge.{test_going, judge_going}
use Rattle.loops.proofs.Inverse.{next_going, going_inj}
use Rattle.loops.proofs.Both.{both}
use Rattle.binary64.specs.Units.{units_of}
use Rattle.binary64.specs.SquareRoot.{unsigned, square_root}
use Rattle.rounding.specs.Value.{plus, less}
use Rattle.kapitsa_math.specs.Vector.{is_finite_of}
use Rattle.kapitsa_math.specs.Matrix.{finite_columns_of}
use Rattle.kapitsa_math.specs.declared.vector.Vec3.{Vec3}
use Rattle.kapitsa_math.specs.declared.matrix.Mat3.{Mat3}
use Rattle.inertia.specs.Divided.{scale_of, divided_vec_of, divided_of}
use Rattle.inertia.specs.Triangle.{passes_pivot, pivot_run, less_sum, sum_of_one, sum_of_two, first_run, second_x, second_pivot, second_run, third_x, third_y, third_pivot, third_run, triangle_run}
use Rattle.inertia.specs.Factor.{matrix_tests, factor_run}
use Rattle.inertia.specs.Solve.{less_product, forward_x, forward_y, forward_z, forward_of, backward_x, backward_y, backward_z, backward_of, solution_of, solve_run}
use Rattle.inertia.specs.Inverse.{unit_x, unit_y, unit_z, columns_run, inverse_run}
use Rattle.inertia.specs.MinusZero.{no_minus_zero, NoMinusZeros, MatrixMeaning, InverseMeaning}
use Rattle.inertia.specs.Answers.{cholesky_out}
use Rattle.inertia.specs.declared.triangle.Cholesky3.{Cholesky3}
use Rattle.inertia.specs.declared.triangle.CholeskyError.{CholeskyError}
use Rattle.inertia.proofs.Inverting.{inverse_done}
use Rattle.inertia.proofs.Pivot.{above_positive}
use Rattle.inertia.proofs.Scale.{scale_unsigned, scale_positive}
use Rattle.inertia.proofs.Signs.{AtMostOne, sub_clean, div_clean, plus_div_clean}
use Rattle.inertia.proofs.SmallRoots.{root_most, square_no_less, sum_no_less, difference_most}
use Rattle.inertia.proofs.LargestOfNine.{scale_above, divided_most}

held : {b : Bool} → b ≡ true → T b
held e = rw e tt

-- ---- the pivots
units_plus : (x : Float) → T (positive x) → units_of binary64 x ≡ plus binary64 x
unfolding plus
units_plus nan p = absurd p
units_plus (inf s) p = absurd p
units_plus (fin true m e) p = absurd p
units_plus (fin false m e) p = refl

pivot_small : (x s p : Float) → T (fits binary64 x) → T (fits binary64 s) → plus binary64 x ≤ 2 ^ low binary64 → less binary64 s ≡ 0 → pivot_run (less_sum x s) ≡ going p → AtMostOne p
unfolding pivot_run passes_pivot less_sum
pivot_small x s p t u h k g =
    let v = sub binary64 x s in
    let (i, e, q) = (next_going (test (passes_pivot v) 23) (λ _. going (square_root binary64 v)) p).0 g in
    let (f, l) = both (finite v) (not (le v plus_zero)) ((test_going (passes_pivot v) 23).0 e) in
    let w = units_plus v (above_positive v f (not-true (le v plus_zero) l)) in
    subst AtMostOne (going_inj q) (root_most binary64 v (le_trans (le_of_eq w) (difference_most binary64 x s t u h k (held f))))

zero_no_less : less binary64 plus_zero ≡ 0
unfolding less of_bits
zero_no_less = refl

zero_fits : T (fits binary64 plus_zero)
unfolding fits of_bits
zero_fits = tt

one_no_less : (a : Float) → less binary64 (sum_of_one a a) ≡ 0
unfolding sum_of_one
one_no_less a = sum_no_less binary64 plus_zero (mul binary64 a a) zero_fits (mul-fits binary64 a a) zero_no_less (square_no_less binary64 a)

two_no_less : (a b : Float) → less binary64 (sum_of_two a a b b) ≡ 0
unfolding sum_of_two
two_no_less a b = sum_no_less binary64 (sum_of_one a a) (mul binary64 b b) (unfold sum_of_one in add-fits binary64 plus_zero (mul binary64 a a)) (mul-fits binary64 b b) (one_no_less a) (square_no_less binary64 b)

record Small (f : Cholesky3) : Type 0 where
  first : AtMostOne f.first.x
  second : AtMostOne f.second.y
  third : AtMostOne f.third.z

module _ (m : Mat3) (s : Float) where
  abbrev n : Mat3
  n = divided_of m s

  first_small : (a : Vec3) → plus binary64 (div binary64 m.x.x s) ≤ 2 ^ low binary64 → first_run n ≡ going a → AtMostOne a.x
  unfolding first_run divided_of divided_vec_of
  first_small a h g =
      let (p, e, q) = (next_going (pivot_run (less_sum n.x.x plus_zero)) _ a).0 g in
      subst (λ (v : Vec3). AtMostOne v.x) (going_inj q) (pivot_small n.x.x plus_zero p (div-fits binary64 m.x.x s) zero_fits h zero_no_less e)

  second_small : (a b : Vec3) → plus binary64 (div binary64 m.y.y s) ≤ 2 ^ low binary64 → second_run n a ≡ going b → AtMostOne b.y
  unfolding second_run second_pivot sum_of_one divided_of divided_vec_of
  second_small a b h g =
      let x = second_x n a in
      let (p, e, q) = (next_going (pivot_run (second_pivot n a)) _ b).0 g in
      subst (λ (v : Vec3). AtMostOne v.y) (going_inj q) (pivot_small n.y.y (sum_of_one x x) p (div-fits binary64 m.y.y s) (add-fits binary64 plus_zero (mul binary64 x x)) h (one_no_less x) e)

  third_small : (a b c : Vec3) → plus binary64 (div binary64 m.z.z s) ≤ 2 ^ low binary64 → third_run n a b ≡ going c → AtMostOne c.z
  unfolding third_run third_pivot sum_of_two divided_of divided_vec_of
  third_small a b c h g =
      let x = third_x n a in
      let y = third_y n a b in
      let (p, e, q) = (next_going (pivot_run (third_pivot n a b)) _ c).0 g in
      subst (λ (v : Vec3). AtMostOne v.z) (going_inj q) (pivot_small n.z.z (sum_of_two x x y y) p (div-fits binary64 m.z.z s) (add-fits binary64 (sum_of_one x x) (mul binary64 y y)) h (two_no_less x y) e)

record FactorSmall (f : Cholesky3) : Type 0 where
  small : Small f
  scaled : T (positive f.scale)

factor_small : (m : Mat3) (f : Cholesky3) → factor_run m ≡ going f → FactorSmall f
unfolding factor_run matrix_tests AllPass triangle_run
factor_small m f h =
    let s = scale_of m in
    let (i, e, g) = (next_going (judge (matrix_tests m)) _ f).0 h in
    let passed = (judge_going (matrix_tests m)).0 e in
    let u = scale_unsigned m passed.0 in
    let l = scale_above m passed.0 in
    let (a, ea, ga) = (next_going (first_run (divided_of m s)) _ f).0 g in
    let (b, eb, gb) = (next_going (second_run (divided_of m s) a) _ f).0 ga in
    let (c, ec, gc) = (next_going (third_run (divided_of m s) a b) _ f).0 gb in
    let small : Small record { first = a; second = b; third = c; scale = s } = record {
      first = first_small m s a (divided_most m.x.x s u l.x) ea;
      second = second_small m s a b (divided_most m.y.y s u l.y) eb;
      third = third_small m s a b c (divided_most m.z.z s u l.z) ec;
    } in
    subst FactorSmall (going_inj gc) (record { small = small; scaled = scale_positive s u passed.1.1.0 })

-- ---- the two solves
record Clean (v : Vec3) : Type 0 where
  signs : NoMinusZeros v
  fit : T (fits binary64 v.x) × T (fits binary64 v.y) × T (fits binary64 v.z)

-- a number less a product, and less two, divided by a pivot
less_one : (v a b l : Float) → T (fits binary64 v) → T (no_minus_zero v) → AtMostOne l → T (no_minus_zero (div binary64 (less_product v a b) l))
unfolding less_product
less_one v a b l t h k = div_clean binary64 (sub binary64 v (mul binary64 a b)) l (sub-fits binary64 v (mul binary64 a b)) (sub_clean binary64 v (mul binary64 a b) t (mul-fits binary64 a b) h) k

less_two : (v a b c d l : Float) → T (fits binary64 v) → T (no_minus_zero v) → AtMostOne l → T (no_minus_zero (div binary64 (less_product (less_product v a b) c d) l))
less_two v a b c d l t h k =
    less_one (less_product v a b) c d l (unfold less_product in sub-fits binary64 v (mul binary64 a b)) (unfold less_product in sub_clean binary64 v (mul binary64 a b) t (mul-fits binary64 a b) h) k

forward_clean : (f : Cholesky3) (b : Vec3) → Small f → Clean b → Clean (forward_of f b)
unfolding forward_of forward_x forward_y forward_z
forward_clean f b s h = record {
  signs = record {
    x = div_clean binary64 b.x f.first.x h.fit.0 h.signs.x s.first;
    y = less_one b.y f.second.x (forward_x f b) f.second.y h.fit.1 h.signs.y s.second;
    z = less_two b.z f.third.x (forward_x f b) f.third.y (forward_y f b) f.third.z h.fit.2 h.signs.z s.third;
  };
  fit = (div-fits binary64 _ f.first.x, div-fits binary64 _ f.second.y, div-fits binary64 _ f.third.z);
}

backward_clean : (f : Cholesky3) (v : Vec3) → Small f → Clean v → NoMinusZeros (backward_of f v)
unfolding backward_of backward_x backward_y backward_z
backward_clean f v s h = record {
  x = less_two v.x f.second.x (backward_y f v) f.third.x (backward_z f v) f.first.x h.fit.0 h.signs.x s.first;
  y = less_one v.y f.third.y (backward_z f v) f.second.y h.fit.1 h.signs.y s.second;
  z = div_clean binary64 v.z f.third.z h.fit.2 h.signs.z s.third;
}

-- ---- a unit vector divided by the scale
part_clean : (x s : Float) → T (unsigned x) → T (positive s) → T (no_minus_zero (div binary64 x s))
unfolding unsigned
part_clean nan s t p = absurd t
part_clean (inf b) s t p = absurd t
part_clean (fin true m e) s t p = absurd t
part_clean (fin false m e) nan t p = absurd p
part_clean (fin false m e) (inf b) t p = absurd p
part_clean (fin false m e) (fin true n d) t p = absurd p
part_clean (fin false m e) (fin false n d) t p = plus_div_clean binary64 m e n d

record Unsigned (v : Vec3) : Type 0 where
  x : T (unsigned v.x)
  y : T (unsigned v.y)
  z : T (unsigned v.z)

divided_clean : (v : Vec3) (s : Float) → Unsigned v → T (positive s) → Clean (divided_vec_of v s)
unfolding divided_vec_of
divided_clean v s u p = record {
  signs = record { x = part_clean v.x s u.x p; y = part_clean v.y s u.y p; z = part_clean v.z s u.z p };
  fit = (div-fits binary64 v.x s, div-fits binary64 v.y s, div-fits binary64 v.z s);
}

record Column (v : Vec3) : Type 0 where
  signs : NoMinusZeros v
  all_finite : T (is_finite_of v)

column_clean : (f : Cholesky3) (u v : Vec3) → FactorSmall f → Unsigned u → solve_run f u ≡ going v → Column v
unfolding solve_run solution_of
column_clean f u v k h g =
    let b = divided_vec_of u f.scale in
    let (i, ei, gi) = (next_going (test (is_finite_of u) 21) _ v).0 g in
    let (j, ej, gj) = (next_going (test (is_finite_of b) 12) _ v).0 gi in
    let (o, eo, go) = (next_going (test (is_finite_of (solution_of f b)) 12) _ v).0 gj in
    let c = backward_clean f (forward_of f b) k.small (forward_clean f b k.small (divided_clean u f.scale h k.scaled)) in
    subst Column (going_inj go) (record { signs = c; all_finite = held ((test_going (is_finite_of (solution_of f b)) 12).0 eo) })

one_x : Unsigned unit_x
unfolding unsigned of_bits
one_x = record { x = tt; y = tt; z = tt }

one_y : Unsigned unit_y
unfolding unsigned of_bits
one_y = record { x = tt; y = tt; z = tt }

one_z : Unsigned unit_z
unfolding unsigned of_bits
one_z = record { x = tt; y = tt; z = tt }

-- ---- the inverse
columns_meaning : (f : Cholesky3) (m : Mat3) → FactorSmall f → columns_run f ≡ going m → MatrixMeaning m
unfolding columns_run finite_columns_of
columns_meaning f m k h =
    let (a, ea, ga) = (next_going (solve_run f unit_x) _ m).0 h in
    let (b, eb, gb) = (next_going (solve_run f unit_y) _ m).0 ga in
    let (c, ec, gc) = (next_going (solve_run f unit_z) _ m).0 gb in
    let x = column_clean f unit_x a k one_x ea in
    let y = column_clean f unit_y b k one_y eb in
    let z = column_clean f unit_z c k one_z ec in
    let all = and_i (is_finite_of a && is_finite_of b) (is_finite_of c) (and_i (is_finite_of a) (is_finite_of b) x.all_finite y.all_finite) z.all_finite in
    subst MatrixMeaning (going_inj gc) (record { finite = all; x = x.signs; y = y.signs; z = z.signs })

going_meaning : (m i : Mat3) → inverse_run m ≡ going i → MatrixMeaning i
unfolding inverse_run
going_meaning m i h = let (f, e, g) = (next_going (factor_run m) columns_run i).0 h in columns_meaning f i (factor_small m f e) g

-- ---- of what `inverse_spd` answers
module _ (m : Mat3) {r : Result Cholesky3 CholeskyError} (e : factor_run m ≡ cholesky_out r) where
  pub inverse_means : {f : Cholesky3} (s : Result Mat3 CholeskyError) → r ≡ Ok f → columns_run f ≡ cholesky_out s → InverseMeaning s
  inverse_means s h k = record { accepted = λ i g. going_meaning m i (inverse_done m e s h k ∙ ap cholesky_out g) }

pub inverse_none : (x : CholeskyError) → InverseMeaning (Err x)
inverse_none x = record { accepted = λ i g. absurd (none g) }
  where
    none : {i : Mat3} → Err x ≡ Ok i → ⊥
    none g = let z : ◌≡◌ {A = ℕ} 0 1 = cc in omega arith
