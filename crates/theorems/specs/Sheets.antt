-- Document 01, "Sheets to try": P1 to P9, and what is told of a solve and of a check.
use Rattle.std.specs.Prelude.{ℕ, zero, suc, ◌+◌, ◌≡◌, Bool, true, false, List, [], ◌∷◌, Float}
use Rattle.std.specs.Float.{binary64}
use Rattle.std.specs.Float.Ieee.{neg, of_bits}
use Rattle.loops.specs.Cleared.{plus_zero}
use Rattle.loops.specs.Run.{Run, going, ended, on}
use Rattle.binary64.specs.Order.{infinity}
use Rattle.kapitsa_math.specs.declared.vector.Vec3.{Vec3}
use Rattle.kapitsa_joint.specs.Table.{Table}
use Rattle.kapitsa_joint.specs.declared.row.ConstraintRow.{ConstraintRow}
use Rattle.kapitsa_joint.specs.declared.mass.SolverMass.{SolverMass}
use Rattle.kapitsa_joint.specs.declared.maxima.Maxima.{Maxima}
use Rattle.rules.specs.Rules.{Rules, ruled_by, two_rules}
use Rattle.preconditioner.specs.declared.mode.Mode.{Mode}
use Rattle.preconditioner.specs.declared.mode.Mode.TheVariants as modes
use Rattle.position.specs.Problem.{Problem}
use Rattle.steps.specs.Solve.{solve}
use Rattle.solve_method.specs.Position.{shifted_problem}
use Rattle.solve_method.specs.Method.{method_of}
use Rattle.check_range.specs.Closing.{Closing, closing_of}
use Rattle.check_measure.specs.Verdict.{radius}
use Rattle.check_answer.specs.Answer.{check_of, CheckAnswer}
use Rattle.check_answer.specs.declared.Verdict.TheVariants.{Closed, Open}

abbrev pub along : Float → Vec3
along x = record { x = x; y = plus_zero; z = plus_zero }

-- "position on, bounds infinite, numbers not named 0; ... linear_a (1,0,0), linear_b (−1,0,0)", on the bodies a and b
abbrev pub row_on : ℕ → ℕ → Float → ConstraintRow
row_on a b error = record {
  linear_a = along (of_bits binary64 0x3ff0000000000000);
  angular_a = along plus_zero;
  position_angular_a = along plus_zero;
  linear_b = along (of_bits binary64 0xbff0000000000000);
  angular_b = along plus_zero;
  scalars = record {
    error = error;
    target_velocity = plus_zero;
    force_bias = plus_zero;
    compliance = plus_zero;
    damping = plus_zero;
    min_multiplier = neg infinity;
    max_multiplier = infinity;
    min_impulse = neg infinity;
    max_impulse = infinity;
    accumulated_multiplier = plus_zero;
    accumulated_impulse = plus_zero;
    cached_velocity_effective_mass = plus_zero;
  };
  words = record { key = 0; dimension = 0; body_a = a; body_b = b; force_driven = 0; position_enabled = 1; owner = 0; spare = 0 };
}

-- "inertia zero"
abbrev pub mass_of_inverse : Float → SolverMass
mass_of_inverse x = record { inverse_mass = x; inverse_inertia = record { x = along plus_zero; y = along plus_zero; z = along plus_zero } }

-- P1: "one row, two bodies, ... inverse masses 0.5"; P7 has another error, P8 limit 0
abbrev pub one : Float → Table
one error = record { rows = 1; bodies = 2; row = λ i. row_on 0 1 error; mass = λ b. mass_of_inverse (of_bits binary64 0x3fe0000000000000) }

abbrev pub p1 : Table
p1 = one (of_bits binary64 0xbfd0000000000000)

-- P4: "three bodies of inverse mass 1 in a chain of two such rows, errors −1 and 0"
abbrev pub chain_error : ℕ → Float
chain_error zero = of_bits binary64 0xbff0000000000000
chain_error (suc i) = plus_zero

abbrev pub chain : Table
chain = record { rows = 2; bodies = 3; row = λ i. row_on i (i + 1) (chain_error i); mass = λ b. mass_of_inverse (of_bits binary64 0x3ff0000000000000) }

-- P5 and P6: "two equal rows, errors −1 and 1"
abbrev pub twice_error : ℕ → Float
twice_error zero = of_bits binary64 0xbff0000000000000
twice_error (suc i) = of_bits binary64 0x3ff0000000000000

abbrev pub twice : Table
twice = record { rows = 2; bodies = 2; row = λ i. row_on 0 1 (twice_error i); mass = λ b. mass_of_inverse (of_bits binary64 0x3fe0000000000000) }

-- P9: "no rows, limit 0"
abbrev pub no_rows : Table
no_rows = record { rows = 0; bodies = 2; row = λ i. row_on 0 1 plus_zero; mass = λ b. mass_of_inverse (of_bits binary64 0x3fe0000000000000) }

-- 0.001
abbrev pub thousandth : Float
thousandth = of_bits binary64 0x3f50624dd2f1a9fc

-- one tolerance for both dimensions
abbrev pub alike : Float → Rules
alike tolerance = two_rules (record { linear_m = tolerance; angular_rad = tolerance })

-- of an accepted answer flag, count, solution, the rows' accumulated numbers afterwards and the linear residual, of a refused one its number
pub record Accepted : Type 0 where
  pub flag : Bool
  pub count : ℕ
  pub solution : List Float
  pub accumulated : List Float
  pub residual : Float

abbrev pub Worked : Type 0
Worked = Run Accepted ℕ

abbrev pub told_of : Problem → Mode → ℕ → Worked
told_of p mode limit =
    on (solve (method_of true p mode) limit)
    (λ r. going (record { flag = r.0.0; count = r.0.1; solution = r.0.2.solution; accumulated = r.1.accumulated; residual = r.1.maxima.linear })) ended

-- with shift 0 and centres of +0.0
abbrev pub worked_of : Table → Float → Mode → ℕ → Worked
worked_of t tolerance mode limit = told_of (shifted_problem t (ruled_by (alike tolerance) t) plus_zero (λ b. along plus_zero)) mode limit

-- P1's check: its row with the multiplier that P1 ends with
abbrev pub checked : Float → Closing
checked tolerance = closing_of p1 (λ i. of_bits binary64 0x3fd0000000000000) (alike tolerance) true

-- document 02, h: "On P1, `gap` begins with the bits of 17·2^-52 and its angular half is +0.0"
abbrev pub p1_gap : Maxima
p1_gap = record { linear = of_bits binary64 0x3cf1000000000000; angular = plus_zero }

-- ---- the table: what the definitions give, and what document 01 says
pub data Entry : Type 0 where
  solved : Worked → Worked → Entry
  verdict : CheckAnswer → CheckAnswer → Entry
  number : Float → Float → Entry

abbrev pub Same : Entry → Type 0
Same (solved given said) = given ≡ said
Same (verdict given said) = given ≡ said
Same (number given said) = given ≡ said

unfoldable pub AllSame : List Entry → Type 0
AllSame [] = Unit
AllSame (e ∷ l) = Same e × AllSame l

abbrev pub sheets : List Entry
sheets =
    -- P1: "count 1, flag 1, multiplier 0.25"
    solved (worked_of p1 thousandth modes.Diagonal 4)
    (going (record { flag = true; count = 1; solution = of_bits binary64 0x3fd0000000000000 ∷ []; accumulated = of_bits binary64 0x3fd0000000000000 ∷ []; residual = plus_zero }))
    -- P2: "P1's check at tolerance 2^-47: closed, as E = 17·2^-52". P3: "at 2^-48: open"
    ∷ (verdict (check_of true (checked (of_bits binary64 0x3d00000000000000))) (going (Closed p1_gap))
    ∷ (number (radius (checked (of_bits binary64 0x3d00000000000000)) 0) (of_bits binary64 0x3cf1000000000000)
    ∷ (verdict (check_of true (checked (of_bits binary64 0x3cf0000000000000))) (going (Open p1_gap))
    -- P4: "limit 1, mode 0: count 1, flag 0, linear residual 0.5, solution 0.5 and 0"
    ∷ (solved (worked_of chain thousandth modes.Diagonal 1)
    (going (record { flag = false; count = 1; solution = of_bits binary64 0x3fe0000000000000 ∷ (plus_zero ∷ []); accumulated = of_bits binary64 0x3fe0000000000000 ∷ (plus_zero ∷ []); residual = of_bits binary64 0x3fe0000000000000 }))
    -- P5: "mode 0: 15". P6: "mode 1: 13"
    ∷ (solved (worked_of twice thousandth modes.Diagonal 4) (ended 15)
    ∷ (solved (worked_of twice thousandth (modes.IncompleteCholesky plus_zero) 4) (ended 13)
    -- P7: "P1 with error 1e-160, tolerance 1e-170: 14"
    ∷ (solved (worked_of (one (of_bits binary64 0x1eb67e9c127b6e74)) (of_bits binary64 0x1ca3529ba7d19eaf) modes.Diagonal 4) (ended 14)
    -- P8: "limit 0: 5"
    ∷ (solved (worked_of p1 thousandth modes.Diagonal 0) (ended 5)
    -- P9: "no rows, limit 0: accepted"
    ∷ (solved (worked_of no_rows thousandth modes.Diagonal 0) (going (record { flag = true; count = 0; solution = []; accumulated = []; residual = plus_zero })) ∷ [])))))))))
