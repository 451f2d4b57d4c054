-- Document 02 c, inverse_spd of solver_mass.rs: the solutions for the three unit vectors are its columns, not made symmetric; "12, after all others".
use Rattle.std.specs.Prelude.{ℕ, Float}
use Rattle.std.specs.Float.{binary64}
use Rattle.std.specs.Float.Ieee.{of_bits}
use Rattle.loops.specs.Run.{Run, going, next}
use Rattle.loops.specs.Cleared.{plus_zero}
use Rattle.kapitsa_math.specs.declared.vector.Vec3.{Vec3}
use Rattle.kapitsa_math.specs.declared.matrix.Mat3.{Mat3}
use Rattle.inertia.specs.Factor.{factor_run}
use Rattle.inertia.specs.Solve.{solve_run}
use Rattle.inertia.specs.declared.triangle.Cholesky3.{Cholesky3}

-- 1.0
abbrev pub one : Float
one = of_bits binary64 0x3ff0_0000_0000_0000

abbrev pub unit_x : Vec3
unit_x = record { x = one; y = plus_zero; z = plus_zero }

abbrev pub unit_y : Vec3
unit_y = record { x = plus_zero; y = one; z = plus_zero }

abbrev pub unit_z : Vec3
unit_z = record { x = plus_zero; y = plus_zero; z = one }

unfoldable pub columns_run : Cholesky3 → Run Mat3 ℕ
columns_run f = next (solve_run f unit_x) (λ a. next (solve_run f unit_y) (λ b. next (solve_run f unit_z) (λ c. going record { x = a; y = b; z = c })))

unfoldable pub inverse_run : Mat3 → Run Mat3 ℕ
inverse_run m = next (factor_run m) columns_run
