-- What a solve and a check read: nothing beyond the counts, and of a row not every number.
use Rattle.std.specs.Prelude.{ℕ, ◌<◌, ◌≤◌, Bool, ◌≡◌, Float}
use Rattle.kapitsa_math.specs.declared.vector.Vec3.{Vec3}
use Rattle.kapitsa_joint.specs.Row.{jacobian_of}
use Rattle.kapitsa_joint.specs.Table.{Table}
use Rattle.kapitsa_joint.specs.Centre.{Centres}
use Rattle.kapitsa_joint.specs.declared.kind.Kind.{Kind}
use Rattle.kapitsa_joint.specs.declared.kind.Kind.TheVariants as kinds
use Rattle.kapitsa_joint.specs.declared.row.ConstraintRow.{ConstraintRow}
use Rattle.joint_refusals.specs.Tolerances.{Tolerances}
use Rattle.rules.specs.Rules.{Rules}
use Rattle.joint_refusals.specs.Refusals.{words_fit_of, is_valid_of}
use Rattle.preconditioner.specs.declared.mode.Mode.{Mode}
use Rattle.preconditioner.specs.declared.mode.Mode.TheVariants as modes
use Rattle.position.specs.Problem.{Problem}
use Rattle.steps.specs.Solve.{solve}
use Rattle.solve_method.specs.Method.{owner_of, method_of}
use Rattle.solve_method.specs.Position.{shifted_problem, moving_problem}
use Rattle.check_range.specs.Closing.{Closing, closing_of, speeds_of}
use Rattle.check_answer.specs.Answer.{check_of}

-- what is read of a row of any problem: by 4 and 7, by the operator and the factors, and for the maxima
pub record RowsAlike (bodies : ℕ) (r s : ConstraintRow) : Type 0 where
  pub fit : words_fit_of s.words ≡ words_fit_of r.words
  pub valid : is_valid_of bodies s ≡ is_valid_of bodies r
  pub jacobian : jacobian_of s ≡ jacobian_of r
  pub dimension : s.words.dimension ≡ r.words.dimension

-- two tables with the same counts, alike below them
pub record TablesAlike (t u : Table) : Type 0 where
  pub rows : u.rows ≡ t.rows
  pub bodies : u.bodies ≡ t.bodies
  pub row : (i : ℕ) → i < t.rows → RowsAlike t.bodies (t.row i) (u.row i)
  pub mass : (b : ℕ) → b < t.bodies → u.mass b ≡ t.mass b

-- centres of as many bodies, that agree on these
pub record CentresAlike (c d : Centres) : Type 0 where
  pub bodies : d.bodies ≡ c.bodies
  pub at : (b : ℕ) → b < c.bodies → d.at b ≡ c.at b

-- and two problems of one kind, that agree in all else that a row or a body has; mode 2 reads the owners
pub record ProblemsAgree (mode : Mode) (p q : Problem) : Type 0 where
  pub table : TablesAlike p.table q.table
  pub owner : mode ≡ modes.BlockJacobi → (i : ℕ) → i < p.table.rows → owner_of q.table i ≡ owner_of p.table i
  pub tolerance : (i : ℕ) → i < p.table.rows → q.tolerance i ≡ p.tolerance i
  pub start : (i : ℕ) → i < p.table.rows → q.start i ≡ p.start i
  pub accumulated : (i : ℕ) → i < p.table.rows → q.accumulated i ≡ p.accumulated i
  pub options : q.options ≡ p.options
  pub tolerance_tests : q.tolerance_tests ≡ p.tolerance_tests
  pub opens : (i : ℕ) → i < p.table.rows → q.opens i ≡ p.opens i
  pub placed : q.placed ≡ p.placed
  pub lent : q.lent ≡ p.lent
  pub valid_first : q.valid_first ≡ p.valid_first
  pub factor_first : q.factor_first ≡ p.factor_first
  pub centres : CentresAlike p.centres q.centres
  pub within : p.centres.bodies ≤ p.table.bodies

-- and what two checks are given
pub record ClosingsAgree (c d : Closing) : Type 0 where
  pub table : TablesAlike c.table d.table
  pub error : (i : ℕ) → i < c.table.rows → d.error i ≡ c.error i
  pub listed : (i : ℕ) → i < c.table.rows → d.listed i ≡ c.listed i
  pub tolerance : (i : ℕ) → i < c.table.rows → d.tolerance i ≡ c.tolerance i
  pub tolerance_tests : d.tolerance_tests ≡ c.tolerance_tests
  pub lent : d.lent ≡ c.lent
  pub placed : d.placed ≡ c.placed

-- ---- nothing beyond the counts: two tables with the same counts, that agree below them
pub record AgreeBelow (t u : Table) : Type 0 where
  pub rows : u.rows ≡ t.rows
  pub bodies : u.bodies ≡ t.bodies
  pub row : (i : ℕ) → i < t.rows → u.row i ≡ t.row i
  pub mass : (b : ℕ) → b < t.bodies → u.mass b ≡ t.mass b

-- the answers are the same: of a solve refusal or flag, count, step and delivery, bit for bit, with centres that agree below the body count; of a check refusal or verdict
pub record LooksBelow (t u : Table) : Type 0 where
  pub solves : (tolerances other : Tolerances) → other.tests ≡ tolerances.tests → ((i : ℕ) → i < t.rows → other.row i ≡ tolerances.row i) → (c d : ℕ → Vec3) → ((b : ℕ) → b < t.bodies → d b ≡ c b) → (fits : Bool) (shift : Float) (mode : Mode) (limit : ℕ)
      → solve (method_of fits (shifted_problem u other shift d) mode) limit ≡ solve (method_of fits (shifted_problem t tolerances shift c) mode) limit
  pub checks : (listed other : ℕ → Float) → ((i : ℕ) → i < t.rows → other i ≡ listed i) → (fits : Bool) (rules : Rules) (placed : Bool) → check_of fits (closing_of u other rules placed) ≡ check_of fits (closing_of t listed rules placed)
  -- of velocities, with residuals that agree below the row count (document 02, a)
  pub moving : (tolerances other : Tolerances) → other.tests ≡ tolerances.tests → ((i : ℕ) → i < t.rows → other.row i ≡ tolerances.row i) → (residual lent : ℕ → Float) → ((i : ℕ) → i < t.rows → lent i ≡ residual i) → (fits : Bool) (shift : Float) (mode : Mode) (limit : ℕ)
      → solve (method_of fits (moving_problem u other shift lent) mode) limit ≡ solve (method_of fits (moving_problem t tolerances shift residual) mode) limit
  pub speeds : (listed other : ℕ → Float) → ((i : ℕ) → i < t.rows → other i ≡ listed i) → (residual lent : ℕ → Float) → ((i : ℕ) → i < t.rows → lent i ≡ residual i) → (fits : Bool) (rules : Rules) → check_of fits (speeds_of u other rules lent) ≡ check_of fits (speeds_of t listed rules residual)

-- ---- not every number of a row
-- what both kinds of solve read, and what 4 and 7 judge alike
pub record ReadAlike (bodies : ℕ) (r s : ConstraintRow) : Type 0 where
  pub linear_a : s.linear_a ≡ r.linear_a
  pub angular_a : s.angular_a ≡ r.angular_a
  pub linear_b : s.linear_b ≡ r.linear_b
  pub angular_b : s.angular_b ≡ r.angular_b
  pub compliance : s.scalars.compliance ≡ r.scalars.compliance
  pub damping : s.scalars.damping ≡ r.scalars.damping
  pub key : s.words.key ≡ r.words.key
  pub dimension : s.words.dimension ≡ r.words.dimension
  pub body_a : s.words.body_a ≡ r.words.body_a
  pub body_b : s.words.body_b ≡ r.words.body_b
  pub force_driven : s.words.force_driven ≡ r.words.force_driven
  pub four : words_fit_of s.words ≡ words_fit_of r.words
  pub seven : is_valid_of bodies s ≡ is_valid_of bodies r

-- Positions. Document 01: "The answer depends on key, owner (modes 0 and 1), target_velocity, force_bias, impulse bounds, accumulated impulse, position_angular_a and cached mass only through refusals 4 and 7"; but for the key, "which the answer now reads" (document 02, k).
-- Two rows that may differ in these alone, and that 4 and 7 judge alike
pub record SameButUnread (bodies : ℕ) (r s : ConstraintRow) : Type 0 where
  pub read : ReadAlike bodies r s
  pub error : s.scalars.error ≡ r.scalars.error
  pub min_multiplier : s.scalars.min_multiplier ≡ r.scalars.min_multiplier
  pub max_multiplier : s.scalars.max_multiplier ≡ r.scalars.max_multiplier
  pub accumulated_multiplier : s.scalars.accumulated_multiplier ≡ r.scalars.accumulated_multiplier
  pub position_enabled : s.words.position_enabled ≡ r.words.position_enabled

-- Velocities. Document 02, a: the opening test "reads the impulse bounds instead of the multiplier bounds and ignores position_enabled", the lent residual stands in the error's place, and "The accumulated impulse is what changes".
-- So here two rows may differ in position_enabled, which 4 alone reads, in error, multiplier bounds, accumulated multiplier, target_velocity, force_bias, position_angular_a and cached mass, which 7 alone reads, and in the owner
pub record MovingButUnread (bodies : ℕ) (r s : ConstraintRow) : Type 0 where
  pub read : ReadAlike bodies r s
  pub min_impulse : s.scalars.min_impulse ≡ r.scalars.min_impulse
  pub max_impulse : s.scalars.max_impulse ≡ r.scalars.max_impulse
  pub accumulated_impulse : s.scalars.accumulated_impulse ≡ r.scalars.accumulated_impulse

abbrev pub ButUnread : Kind → ℕ → ConstraintRow → ConstraintRow → Type 0
ButUnread kinds.Position bodies r s = SameButUnread bodies r s
ButUnread kinds.Velocity bodies r s = MovingButUnread bodies r s

-- tables of such rows with the same masses
pub record TablesButUnread (kind : Kind) (t u : Table) : Type 0 where
  pub rows : u.rows ≡ t.rows
  pub bodies : u.bodies ≡ t.bodies
  pub row : (i : ℕ) → i < t.rows → ButUnread kind t.bodies (t.row i) (u.row i)
  pub mass : (b : ℕ) → b < t.bodies → u.mass b ≡ t.mass b

-- and the answers are the same, by tolerances that agree on the rows there are, as those of one list of rules do (`ruled_alike`); where mode 2 solves, the owners agree too
pub record Depends (t u : Table) : Type 0 where
  pub solves : (mode : Mode) → (mode ≡ modes.BlockJacobi → (i : ℕ) → i < t.rows → owner_of u i ≡ owner_of t i) → (tolerances other : Tolerances) → other.tests ≡ tolerances.tests → ((i : ℕ) → i < t.rows → other.row i ≡ tolerances.row i) → (centre : ℕ → Vec3) (fits : Bool) (shift : Float) (limit : ℕ)
      → solve (method_of fits (shifted_problem u other shift centre) mode) limit ≡ solve (method_of fits (shifted_problem t tolerances shift centre) mode) limit
  pub checks : (listed : ℕ → Float) (fits : Bool) (rules : Rules) (placed : Bool) → check_of fits (closing_of u listed rules placed) ≡ check_of fits (closing_of t listed rules placed)

pub record MovingDepends (t u : Table) : Type 0 where
  pub solves : (mode : Mode) → (mode ≡ modes.BlockJacobi → (i : ℕ) → i < t.rows → owner_of u i ≡ owner_of t i) → (tolerances other : Tolerances) → other.tests ≡ tolerances.tests → ((i : ℕ) → i < t.rows → other.row i ≡ tolerances.row i) → (residual : ℕ → Float) (fits : Bool) (shift : Float) (limit : ℕ)
      → solve (method_of fits (moving_problem u other shift residual) mode) limit ≡ solve (method_of fits (moving_problem t tolerances shift residual) mode) limit
  pub checks : (listed : ℕ → Float) (fits : Bool) (rules : Rules) (residual : ℕ → Float) → check_of fits (speeds_of u listed rules residual) ≡ check_of fits (speeds_of t listed rules residual)
