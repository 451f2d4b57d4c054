-- Document 02, a: the sheets of linkages in motion, V1 to V5, and V1's check. Their tables and lent residuals, and what is said of them.
use Rattle.std.specs.Prelude.{ℕ, zero, suc, true, List, [], ◌∷◌, Float}
use Rattle.std.specs.Float.{nan, binary64}
use Rattle.std.specs.Float.Ieee.{neg, of_bits}
use Rattle.loops.specs.Run.{going, ended}
use Rattle.loops.specs.Cleared.{plus_zero}
use Rattle.kapitsa_joint.specs.Table.{Table}
use Rattle.kapitsa_joint.specs.declared.row.ConstraintRow.{ConstraintRow}
use Rattle.rules.specs.Rules.{ruled_by}
use Rattle.preconditioner.specs.declared.mode.Mode.{Mode}
use Rattle.preconditioner.specs.declared.mode.Mode.TheVariants as modes
use Rattle.solve_method.specs.Position.{moving_problem}
use Rattle.check_range.specs.Closing.{Closing, speeds_of}
use Rattle.check_measure.specs.Verdict.{radius}
use Rattle.check_answer.specs.Answer.{check_of}
use Rattle.theorems.specs.Sheets.{along, row_on, mass_of_inverse, thousandth, alike, Worked, told_of, worked_of, p1_gap, Entry, solved, verdict, number}
use Rattle.check_answer.specs.declared.Verdict.TheVariants.{Closed, Open}

-- 1.0, 0.5 and 0.25
abbrev pub whole : Float
whole = of_bits binary64 0x3ff0000000000000

abbrev pub half : Float
half = of_bits binary64 0x3fe0000000000000

abbrev pub quarter : Float
quarter = of_bits binary64 0x3fd0000000000000

-- P1's row, but for what the sheets vary: linear_a and linear_b along x, whether positions are on, the owner, and the accumulated impulse
abbrev pub moving_row : Float → Float → ℕ → ℕ → Float → Float → ConstraintRow
moving_row a b position owner error impulse = let r = row_on 0 1 error in record {
  linear_a = along a;
  angular_a = r.angular_a;
  position_angular_a = r.position_angular_a;
  linear_b = along b;
  angular_b = r.angular_b;
  scalars = record {
    error = error;
    target_velocity = r.scalars.target_velocity;
    force_bias = r.scalars.force_bias;
    compliance = r.scalars.compliance;
    damping = r.scalars.damping;
    min_multiplier = r.scalars.min_multiplier;
    max_multiplier = r.scalars.max_multiplier;
    min_impulse = r.scalars.min_impulse;
    max_impulse = r.scalars.max_impulse;
    accumulated_multiplier = r.scalars.accumulated_multiplier;
    accumulated_impulse = impulse;
    cached_velocity_effective_mass = r.scalars.cached_velocity_effective_mass;
  };
  words = record { key = r.words.key; dimension = r.words.dimension; body_a = r.words.body_a; body_b = r.words.body_b; force_driven = r.words.force_driven; position_enabled = position; owner = owner; spare = r.words.spare };
}

-- linear_a (1,0,0), linear_b (−1,0,0), position off
abbrev pub off_row : Float → Float → ConstraintRow
off_row error impulse = moving_row whole (neg whole) 0 0 error impulse

-- on two bodies, as P1
abbrev pub on_two : ℕ → (ℕ → ConstraintRow) → Float → Table
on_two rows row inverse = record { rows = rows; bodies = 2; row = row; mass = λ b. mass_of_inverse inverse }

-- V1: "P1's row with residual 0.25, any error, position off": here error 1.0
abbrev pub v1 : Table
v1 = on_two 1 (λ i. off_row whole plus_zero) half

-- V2: "two equal rows, residuals 0.001 and −0.001, tolerance 0.001"
abbrev pub v2 : Table
v2 = on_two 2 (λ i. off_row whole plus_zero) half

abbrev pub v2_lent : ℕ → Float
v2_lent zero = thousandth
v2_lent (suc i) = neg thousandth

-- V3: "P1's row and a row of zeros of another owner, residuals 0.001 each"
abbrev pub v3_row : ℕ → ConstraintRow
v3_row zero = off_row whole plus_zero
v3_row (suc i) = moving_row plus_zero plus_zero 0 1 whole plus_zero

abbrev pub v3 : Table
v3 = on_two 2 v3_row half

-- V4: "rows that meet 9, nothing, 7": a row of zeros, P1's row, and one whose accumulated impulse is NaN; positions are on
abbrev pub v4_row : ℕ → ConstraintRow
v4_row zero = moving_row plus_zero plus_zero 1 0 (neg quarter) plus_zero
v4_row (suc zero) = moving_row whole (neg whole) 1 0 (neg quarter) plus_zero
v4_row (suc (suc i)) = moving_row whole (neg whole) 1 0 (neg quarter) nan

abbrev pub v4 : Table
v4 = on_two 3 v4_row half

-- V5: "residual NaN with a NaN accumulated impulse"
abbrev pub v5 : Float → Table
v5 inverse = on_two 1 (λ i. off_row whole nan) inverse

-- a solve of velocities, with shift 0 and tolerance 0.001: `accumulated` are the accumulated impulses
abbrev pub moved_of : Table → (ℕ → Float) → Mode → ℕ → Worked
moved_of t residual mode limit = told_of (moving_problem t (ruled_by (alike thousandth) t) plus_zero residual) mode limit

-- accepted at count 0, both rows within tolerance
abbrev pub stands : Worked
stands = going (record { flag = true; count = 0; solution = plus_zero ∷ (plus_zero ∷ []); accumulated = plus_zero ∷ (plus_zero ∷ []); residual = thousandth })

-- V1's check: the impulse that it ends with, and its residual
abbrev pub sped : Table → Float → Float → Closing
sped t residual tolerance = speeds_of t (λ i. quarter) (alike tolerance) (λ i. residual)

-- ---- the table: what the definitions give, and what is said
abbrev pub speed_sheets : List Entry
speed_sheets =
    -- V1: "count 1, flag 1, accumulated impulse 0.25"
    solved (moved_of v1 (λ i. quarter) modes.Diagonal 4) (going (record { flag = true; count = 1; solution = quarter ∷ []; accumulated = quarter ∷ []; residual = plus_zero }))
    -- "check closed at 2^-47, open at 2^-48": the verdicts, E and gap of P2 and P3, whatever the error
    ∷ (verdict (check_of true (sped v1 quarter (of_bits binary64 0x3d00000000000000))) (going (Closed p1_gap))
    ∷ (number (radius (sped v1 quarter (of_bits binary64 0x3d00000000000000)) 0) (of_bits binary64 0x3cf1000000000000)
    ∷ (verdict (check_of true (sped v1 quarter (of_bits binary64 0x3cf0000000000000))) (going (Open p1_gap))
    -- V2: "mode 0 count 0, modes 1 and 2: 13"
    ∷ (solved (moved_of v2 v2_lent modes.Diagonal 4) stands
    ∷ (solved (moved_of v2 v2_lent (modes.IncompleteCholesky plus_zero) 4) (ended 13)
    ∷ (solved (moved_of v2 v2_lent modes.BlockJacobi 4) (ended 13)
    -- V3: "modes 0 and 1 count 0, mode 2: 13"
    ∷ (solved (moved_of v3 (λ i. thousandth) modes.Diagonal 4) stands
    ∷ (solved (moved_of v3 (λ i. thousandth) (modes.IncompleteCholesky plus_zero) 4) stands
    ∷ (solved (moved_of v3 (λ i. thousandth) modes.BlockJacobi 4) (ended 13)
    -- V4: "7"; as positions, whose 7 to 9 run row by row, the same rows meet 9
    ∷ (solved (moved_of v4 (λ i. quarter) modes.Diagonal 4) (ended 7)
    ∷ (solved (worked_of v4 thousandth modes.Diagonal 4) (ended 9)
    -- V5: "20; with limit 0: 5; with a NaN mass: 6"
    ∷ (solved (moved_of (v5 half) (λ i. nan) modes.Diagonal 4) (ended 20)
    ∷ (solved (moved_of (v5 half) (λ i. nan) modes.Diagonal 0) (ended 5)
    ∷ (solved (moved_of (v5 nan) (λ i. nan) modes.Diagonal 4) (ended 6)
    -- its check: 20 before 7, and after 6
    ∷ (verdict (check_of true (sped (v5 half) nan thousandth)) (ended 20)
    ∷ (verdict (check_of true (sped (v5 nan) nan thousandth)) (ended 6) ∷ []))))))))))))))))
