-- What the functions that gather the pairs hand to one another.
use Rattle.std.specs.Prelude.{ℕ, zero, suc, ◌+◌, ◌-◌, ◌*◌, ◌%◌, ◌<◌, ◌≤◌, ◌≡◌, Bool, true, false, not, ◌||◌, cond, List, eqb, ltb, get_or, set, length, Float, Option as Maybe, Some, None}
use Rattle.std.proofs.Math.Option.{Option, none, some}
use Rattle.std.specs.Float.{nan, binary64}
use Rattle.std.specs.Float.Ieee.{add, mul}
use Rattle.std.specs.Float.Ieee.Scale.{finite}
use Rattle.loops.specs.Every.{every}
use Rattle.loops.specs.Run.{Run, going, ended, check}
use Rattle.loops.specs.Cleared.{plus_zero}
use Rattle.kapitsa_math.specs.declared.vector.Vec3.{Vec3}
use Rattle.kapitsa_math.specs.Vector.{dot_of}
use Rattle.kapitsa_math.specs.Matrix.{mul_vector_of}
use Rattle.kapitsa_joint.specs.Mass.{mass_of}
use Rattle.kapitsa_joint.specs.declared.row.RowJacobian.{RowJacobian}
use Rattle.kapitsa_joint.specs.declared.mass.SolverMass.{SolverMass}
use Rattle.compact_table.specs.Compact.{compact_of}
use Rattle.sparse.specs.Kept.{start, Rising, Missing}
use Rattle.pairs.specs.Pairs.{row_pairs, pair_count, sum_of, pair_of}
use Rattle.pairs.specs.declared.arms.Arm.{Arm}
use Rattle.pairs.specs.declared.arms.Arms.{Arms}

-- ---- values
-- a share that is there, or none
abbrev pub crossed_out : Maybe Float → Option Float
crossed_out (Some x) = some x
crossed_out None = none

unfoldable pub number_of : Option Float → Float
number_of (some x) = x
number_of none = plus_zero

-- with what a row acts on a body, the body's response to the angular part formed
unfoldable pub arm_at : (ℕ → SolverMass) → ℕ → Vec3 → Vec3 → Arm
arm_at mass b linear angular = record { body = b; inverse_mass = (mass b).inverse_mass; linear = linear; response = mul_vector_of (mass b).inverse_inertia angular }

unfoldable pub arms_of : (ℕ → SolverMass) → RowJacobian → Arms
arms_of mass q = record { a = arm_at mass q.body_a q.linear_a q.angular_a; b = arm_at mass q.body_b q.linear_b q.angular_b }

-- the cross of what another row does at that body with the arm
unfoldable pub met_of : Arm → Vec3 → Vec3 → Float
met_of m linear angular = add binary64 (mul binary64 m.inverse_mass (dot_of linear m.linear)) (dot_of angular m.response)

unfoldable pub met_at : Arms → ℕ → Vec3 → Vec3 → Option Float
met_at h b linear angular = cond (eqb h.a.body b) (some (met_of h.a linear angular)) (cond (eqb h.b.body b) (some (met_of h.b linear angular)) none)

-- the value of the lower row p with the higher row whose arms are h
unfoldable pub value_with : Arms → RowJacobian → Float
value_with h p = number_of (sum_of (met_at h p.body_a p.linear_a p.angular_a) (met_at h p.body_b p.linear_b p.angular_b))

-- the value of rows i > j in the compact table
unfoldable pub value_in : List Float → List ℕ → List Float → ℕ → ℕ → Float
value_in jacobians links masses i j = number_of (pair_of (mass_of masses) (compact_of jacobians links j) (compact_of jacobians links i))

-- each place below p has the value of its row and column
pub record Valued (value : ℕ → ℕ → Float) (starts columns : List ℕ) (values : List Float) (p : ℕ) : Type 0 where
  pub at : (x q : ℕ) → start starts x ≤ q → q < start starts (x + 1) → q < p → get_or values q nan ≡ value x (get_or columns q 0)

-- the values at the first p places are finite
unfoldable pub finite_below : List Float → ℕ → Bool
finite_below values p = every (λ q. finite (get_or values q nan)) p

-- ---- pattern

-- a row with the bodies a and b, and row j of the compact table
unfoldable pub shares_in : List ℕ → ℕ → ℕ → ℕ → Bool
shares_in links a b j =
    (eqb a (get_or links (2 * j) 0) || eqb a (get_or links (2 * j + 1) 0)) || (eqb b (get_or links (2 * j) 0) || eqb b (get_or links (2 * j + 1) 0))

-- one of the c rows from j on
unfoldable pub any_share : List ℕ → ℕ → ℕ → ℕ → ℕ → Bool
any_share links a b j zero = false
any_share links a b j (suc c) = any_share links a b j c || shares_in links a b (j + c)

-- none of the eight rows from j on, and all are before row i; of every eighth j
unfoldable pub eight_apart : List ℕ → ℕ → ℕ → ℕ → ℕ → Bool
eight_apart links i a b j = cond (not (eqb (j % 8) 0) || ltb (i - j) 8) false (not (any_share links a b j 4 || any_share links a b (j + 4) 4))

unfoldable pub share_in : List ℕ → ℕ → ℕ → Bool
share_in links i j = shares_in links (get_or links (2 * i) 0) (get_or links (2 * i + 1) 0) j

-- row i's columns can begin at from: none below makes a pair
pub record Begin (share : ℕ → ℕ → Bool) (i from : ℕ) : Type 0 where
  pub within : from ≤ i
  pub none : (k : ℕ) → k < from → share i k ≡ false

-- what firsts notes of a body (0 where it has no place for it) is at most each row k < i that has the body
pub record Firsts (links firsts : List ℕ) (i : ℕ) : Type 0 where
  pub a : (k : ℕ) → k < i → get_or firsts (get_or links (2 * k) 0) 0 ≤ k
  pub b : (k : ℕ) → k < i → get_or firsts (get_or links (2 * k + 1) 0) 0 ≤ k

-- of a body of row i: r is at most row i and what was noted; then row i is noted, and nothing that was noted rises
pub record FirstNoted (firsts₀ firsts : List ℕ) (body i r : ℕ) : Type 0 where
  pub within : r ≤ i
  pub before : r ≤ get_or firsts₀ body 0
  pub noted : get_or firsts body 0 ≤ i
  pub lower : (c : ℕ) → get_or firsts c 0 ≤ get_or firsts₀ c 0

-- one column tried at place p of room many: "10. Mode 1 has more than 16,384 pairs"
unfoldable pub tried_of : Bool → ℕ → ℕ → Run ℕ ℕ
tried_of share room p = cond share (check (ltb p room) (going (p + 1)) (ended 10)) (going p)

unfoldable pub tried_columns : Bool → ℕ → List ℕ → ℕ → ℕ → List ℕ
tried_columns share room columns p j = cond share (check (ltb p room) (set columns p j) columns) columns

-- the pairs of row i with the columns before m are at the places a .. b - 1
pub record Part (share : ℕ → ℕ → Bool) (columns : List ℕ) (i a b m : ℕ) : Type 0 where
  pub rising : Rising columns a b m
  pub right : (q : ℕ) → a ≤ q → q < b → share i (get_or columns q 0) ≡ true
  pub all : (k : ℕ) → k < m → Missing columns a b k → share i k ≡ false
  pub counted : b ≡ a + row_pairs share i m

-- the same, and the places before a are as they were
pub record RowPart (share : ℕ → ℕ → Bool) (columns₀ columns : List ℕ) (i a b m : ℕ) : Type 0 where
  pub long : length columns ≡ length columns₀
  pub before : (q : ℕ) → q < a → get_or columns q 0 ≡ get_or columns₀ q 0
  pub part : Part share columns i a b m
  pub room : b ≤ length columns

pub record RowDone (answer : Run ℕ ℕ) (share : ℕ → ℕ → Bool) (columns₀ columns : List ℕ) (i a room : ℕ) : Type 0 where
  pub done : (b : ℕ) → answer ≡ going b → RowPart share columns₀ columns i a b i
  pub full : (n : ℕ) → answer ≡ ended n → (n ≡ 10) × (room < a + row_pairs share i i)

-- the rows before i are at the places before p
pub record Stored (share : ℕ → ℕ → Bool) (starts columns : List ℕ) (i p : ℕ) : Type 0 where
  pub begin : start starts 0 ≡ 0
  pub last : start starts i ≡ p
  pub order : (x y : ℕ) → x ≤ y → y ≤ i → start starts x ≤ start starts y
  pub parts : (x : ℕ) → x < i → Part share columns x (start starts x) (start starts (x + 1)) x
  pub counted : p ≡ pair_count share i
  pub room : p ≤ length columns

-- how many pairs n rows have, or 10 where there is no room for them
unfoldable pub gather_run : (ℕ → ℕ → Bool) → ℕ → ℕ → Run ℕ ℕ
gather_run share n room = cond (ltb room (pair_count share n)) (ended 10) (going (pair_count share n))

pub record Gathering (answer : Run ℕ ℕ) (share : ℕ → ℕ → Bool) (starts columns : List ℕ) (i room : ℕ) : Type 0 where
  pub done : (p : ℕ) → answer ≡ going p → Stored share starts columns i p
  pub full : (n : ℕ) → answer ≡ ended n → room < pair_count share i
  pub told : gather_run share i room ≡ answer
