-- Mode 2. Document 01, "Blocks: runs of equal owner, at most 6 rows, all on one body_a and one body_b; the first row of a run that leaves its body pair ends the whole block test.
-- The 36-number lower triangle of one block has row stride 6. Block values, diagonal ones too, are formed afresh: cross at body_a plus cross at body_b, higher row first; a replaced diagonal is not used."
-- pcg.rs, build_velocity_block_jacobi_preconditioner. A Run that has ended carries document 01's number.
use Rattle.std.specs.Prelude.{ℕ, ◌+◌, ◌*◌, Bool, not, ◌&&◌, cond, List, eqb, get_or, Float}
use Rattle.std.specs.Float.{nan, binary64}
use Rattle.std.specs.Float.Ieee.{add, sub, mul, div, le}
use Rattle.std.specs.Float.Ieee.Scale.{finite}
use Rattle.loops.specs.Run.{Run, going, ended, check}
use Rattle.binary64.specs.Order.{min_positive}
use Rattle.binary64.specs.Answer.{root_of}
use Rattle.kapitsa_joint.specs.Mass.{cross_of}
use Rattle.kapitsa_joint.specs.declared.row.RowJacobian.{RowJacobian}
use Rattle.kapitsa_joint.specs.declared.mass.SolverMass.{SolverMass}
use Rattle.sparse.specs.Count.{count}
use Rattle.sparse.specs.Cholesky.{root_value}

-- "cross at body_a plus cross at body_b, higher row first": p is the higher row, or the row itself
unfoldable pub block_value : (ℕ → SolverMass) → RowJacobian → RowJacobian → Float
block_value mass p q =
    add binary64 (cross_of (mass p.body_a) p.linear_a p.angular_a q.linear_a q.angular_a)
    (cross_of (mass p.body_b) p.linear_b p.angular_b q.linear_b q.angular_b)

-- "all on one body_a and one body_b"
unfoldable pub one_pair : RowJacobian → RowJacobian → Bool
one_pair p q = eqb p.body_a q.body_a && eqb p.body_b q.body_b

-- the value v less the products over the earlier columns, ascending: the numbers of row r are from 6 r on
unfoldable pub block_less : List Float → ℕ → ℕ → ℕ → Float → Float
block_less l row column k v = sub binary64 v (mul binary64 (get_or l (row * 6 + k) nan) (get_or l (column * 6 + k) nan))

unfoldable pub less_of : List Float → ℕ → ℕ → Float → Float
less_of l row column v = count (block_less l row column) v column

-- a number of the factor from its value: "13. A pivot is ... at most MIN, or a factor is not finite."
unfoldable pub block_pivot : Float → Run Float ℕ
block_pivot v = check (not (le v min_positive)) (going (root_value (root_of v))) (ended 13)

unfoldable pub block_factor : Float → Float → Run Float ℕ
block_factor v d = check (finite (div binary64 v d)) (going (div binary64 v d)) (ended 13)

-- "12. ... a block value after its subtractions, is not finite", and then 13
unfoldable pub cell_of : List Float → ℕ → ℕ → Float → Run Float ℕ
cell_of l row column v = check (finite v) (cond (eqb row column) (block_pivot v) (block_factor v (get_or l (column * 6 + column) nan))) (ended 12)
