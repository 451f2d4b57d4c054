-- Matrices at the edges, computed from the definitions. Assumes nothing.
use mathlib.Core.Path.{◌≡◌, refl}
use lib.Ieee.{Float, binary64, of_bits, add, sub, mul, div, neg, lt, eq, le}
use Rattle.loops.specs.Run.{going, ended, on, check}
use Rattle.loops.specs.Judge.{test, judge}
use Rattle.loops.specs.Cleared.{plus_zero}
use Rattle.binary64.specs.Units.{units_of}
use Rattle.binary64.specs.SquareRoot.{radicand, whole_root_by, whole_root, twice_root, square_root}
use Rattle.binary64.specs.Order.{absolute, larger}
use Rattle.kapitsa_math.specs.Vector.{abs_of, is_finite_of}
use Rattle.kapitsa_math.specs.Matrix.{finite_columns_of}
use Rattle.kapitsa_math.specs.declared.vector.Vec3.{Vec3}
use Rattle.kapitsa_math.specs.declared.matrix.Mat3.{Mat3}
use Rattle.inertia.specs.Divided.{largest_of, scale_of, divided_vec_of, divided_of, near_of, symmetric_of}
use Rattle.inertia.specs.Triangle.{passes_pivot, pivot_run, less_sum, sum_of_one, sum_of_two, first_run, second_x, second_pivot, second_run, third_x, third_y, third_pivot, third_run, triangle_run}
use Rattle.inertia.specs.Factor.{has_scale, matrix_tests, factor_run}
use Rattle.inertia.specs.Solve.{less_product, forward_x, forward_y, forward_z, forward_of, backward_x, backward_y, backward_z, backward_of, solution_of, solve_run}
use Rattle.inertia.specs.Inverse.{one, columns_run, inverse_run}

-- by columns: a on the diagonal, then b, then c, and d across it
abbrev matrix : Float → Float → Float → Float → Mat3
matrix a b c d = record { x = record { x = a; y = d; z = plus_zero }; y = record { x = d; y = b; z = plus_zero }; z = record { x = plus_zero; y = plus_zero; z = c } }

-- 2 ^ -1074, 2 ^ -1024 and the number above that, and what 1 / that comes to
abbrev smallest : Float
smallest = of_bits binary64 1

abbrev limit : Float
limit = of_bits binary64 0x0004_0000_0000_0000

abbrev above_limit : Float
above_limit = of_bits binary64 0x0004_0000_0000_0001

abbrev large : Float
large = of_bits binary64 0x7fef_ffff_ffff_fff8

abbrev minus_zero : Float
minus_zero = of_bits binary64 0x8000_0000_0000_0000

abbrev row : Float → Float → Float → Vec3
row a b c = record { x = a; y = b; z = c }

-- the matrix of zeros is 23; a scale of 2 ^ -1024 is 12, of the next number not; diag(1, 1, 2 ^ -1074) is 12 by its result;
-- -0.0 below the diagonal stays in the triangle, where a sum from -0.0 would make it +0.0
pub edges : (factor_run (matrix plus_zero plus_zero plus_zero plus_zero) ≡ ended 23)
    × (inverse_run (matrix limit limit limit plus_zero) ≡ ended 12)
    × (inverse_run (matrix above_limit above_limit above_limit plus_zero) ≡ going (matrix large large large plus_zero))
    × (inverse_run (matrix one one smallest plus_zero) ≡ ended 12)
    × (factor_run (matrix one one one minus_zero) ≡ going record { first = row one plus_zero plus_zero; second = row minus_zero one plus_zero; third = row plus_zero plus_zero one; scale = one })
unfolding inverse_run columns_run factor_run matrix_tests judge test check on
    finite_columns_of is_finite_of symmetric_of near_of divided_of divided_vec_of scale_of largest_of abs_of absolute larger has_scale
    of_bits sub neg add mul div lt eq le
    triangle_run first_run second_run third_run second_x second_pivot third_x third_y third_pivot less_sum sum_of_one sum_of_two
    pivot_run passes_pivot square_root twice_root whole_root whole_root_by radicand units_of
    solve_run solution_of forward_of forward_x forward_y forward_z backward_of backward_x backward_y backward_z less_product
edges = (refl, refl, refl, refl, refl)
