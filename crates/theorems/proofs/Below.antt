-- A solve and a check look only below the counts, and at some numbers of a row not at all. Assumes nothing.
use Prim.Native.Nat.{ℕ, ◌<◌}
use mathlib.Core.Path.{◌≡◌, refl, ap}
use mathlib.Core.Bool.{Bool}
use mathlib.Core.List.{[], ◌∷◌}
use native.Mathlib.Omega.{arith}
use lib.Dec.{ltb}
use lib.Ieee.{Float, neg}
use lib.Ieee.Scale.{finite}
use Rattle.loops.proofs.Every.{every_same}
use Rattle.kapitsa_math.specs.declared.vector.Vec3.{Vec3}
use Rattle.kapitsa_joint.specs.Row.{jacobian_of}
use Rattle.kapitsa_joint.specs.Table.{Table}
use Rattle.kapitsa_joint.specs.declared.kind.Kind.TheVariants as kinds
use Rattle.kapitsa_joint.specs.declared.row.ConstraintRow.{ConstraintRow}
use Rattle.joint_refusals.specs.Tolerances.{Tolerances}
use Rattle.rules.specs.Rules.{Rules, rule_count, tolerance_at, rule_for, rule_of, passes28, ruled_by}
use Rattle.joint_refusals.specs.Refusals.{words_fit_of, is_valid_of, opens_of, velocity_opens_of, passes20}
use Rattle.preconditioner.specs.declared.mode.Mode.{Mode}
use Rattle.preconditioner.specs.declared.mode.Mode.TheVariants as modes
use Rattle.position.specs.Problem.{error_start, multipliers, position_opens, accumulated_impulses, velocity_opens}
use Rattle.solve_method.specs.Position.{shifted_problem, moving_problem}
use Rattle.solve_method.specs.Method.{owner_of}
use Rattle.check_range.specs.Closing.{row_error, closing_of, speeds_of}
use Rattle.theorems.specs.Below.{RowsAlike, TablesAlike, CentresAlike, AgreeBelow, ProblemsAgree, ClosingsAgree, LooksBelow, ReadAlike, SameButUnread, MovingButUnread, TablesButUnread, Depends, MovingDepends}
use Rattle.theorems.proofs.Centres.{centres_of, finite_same}
use Rattle.theorems.proofs.Solves.{solve_below}
use Rattle.theorems.proofs.Checks.{check_below}

-- ---- two tables that are alike, of whatever solve or check
module _ (t u : Table) (alike : TablesAlike t u) where
  -- rows under the same rules have the same tolerances, and are judged alike by 28
  module _ (rules : Rules) (same : (i : ℕ) → i < t.rows → rule_of rules u i ≡ rule_of rules t i) where
    pub ruled_alike : (i : ℕ) → i < t.rows → (ruled_by rules u).row i ≡ (ruled_by rules t).row i
    ruled_alike i h = ap (tolerance_at rules) (same i h)

    pub ruled_tests : (ruled_by rules u).tests ≡ (ruled_by rules t).tests
    unfolding passes28
    ruled_tests = rw (alike.rows, every_same (λ i. ltb (rule_of rules u i) (rule_count rules)) (λ i. ltb (rule_of rules t i) (rule_count rules)) t.rows (λ i h. rw (same i h)))

  twenties : (residual lent : ℕ → Float) → ((i : ℕ) → i < t.rows → lent i ≡ residual i) → passes20 lent u.rows ≡ passes20 residual t.rows
  unfolding passes20
  twenties residual lent e = rw (alike.rows, every_same (λ i. finite (lent i)) (λ i. finite (residual i)) t.rows (λ i h. ap finite (e i h)))

  module _ (shift : Float) (mode : Mode) (owners : mode ≡ modes.BlockJacobi → (i : ℕ) → i < t.rows → owner_of u i ≡ owner_of t i)
      (tolerances other : Tolerances) (tests : other.tests ≡ tolerances.tests) (e : (i : ℕ) → i < t.rows → other.row i ≡ tolerances.row i) where
    positions_agree : ((i : ℕ) → i < t.rows → error_start u i ≡ error_start t i) → ((i : ℕ) → i < t.rows → multipliers u i ≡ multipliers t i) → ((i : ℕ) → i < t.rows → position_opens u i ≡ position_opens t i)
        → (c d : ℕ → Vec3) → ((b : ℕ) → b < t.bodies → d b ≡ c b) → ProblemsAgree mode (shifted_problem t tolerances shift c) (shifted_problem u other shift d)
    positions_agree starts accumulated opens c d f = let w : CentresAlike (centres_of t c) (centres_of u d) = record { bodies = alike.bodies; at = f } in record {
      table = alike;
      owner = owners;
      tolerance = e;
      start = starts;
      accumulated = accumulated;
      opens = opens;
      options = refl;
      tolerance_tests = tests;
      placed = finite_same (centres_of t c) (centres_of u d) w;
      lent = refl;
      valid_first = refl;
      factor_first = refl;
      centres = w;
      within = omega arith;
    }

    moving_agree : ((i : ℕ) → i < t.rows → accumulated_impulses u i ≡ accumulated_impulses t i) → ((i : ℕ) → i < t.rows → velocity_opens u i ≡ velocity_opens t i)
        → (residual lent : ℕ → Float) → ((i : ℕ) → i < t.rows → lent i ≡ residual i) → ProblemsAgree mode (moving_problem t tolerances shift residual) (moving_problem u other shift lent)
    moving_agree accumulated opens residual lent f = record {
      table = alike;
      owner = owners;
      tolerance = e;
      start = f;
      accumulated = accumulated;
      opens = opens;
      options = refl;
      tolerance_tests = tests;
      placed = refl;
      lent = ap (λ (p : Bool). (20, p) ∷ []) (twenties residual lent f);
      valid_first = refl;
      factor_first = refl;
      centres = record { bodies = refl; at = λ b h. refl };
      within = omega arith;
    }

  module _ (rules : Rules) (same : (i : ℕ) → i < t.rows → rule_of rules u i ≡ rule_of rules t i) (listed other : ℕ → Float) (e : (i : ℕ) → i < t.rows → other i ≡ listed i) where
    pub closings_agree : ((i : ℕ) → i < t.rows → row_error u i ≡ row_error t i) → (placed : Bool) → ClosingsAgree (closing_of t listed rules placed) (closing_of u other rules placed)
    closings_agree errors placed = record {
      table = alike;
      error = errors;
      listed = e;
      tolerance = ruled_alike rules same;
      tolerance_tests = ruled_tests rules same;
      lent = refl;
      placed = refl;
    }

    pub speeds_agree : (residual lent : ℕ → Float) → ((i : ℕ) → i < t.rows → lent i ≡ residual i) → ClosingsAgree (speeds_of t listed rules residual) (speeds_of u other rules lent)
    speeds_agree residual lent f = record {
      table = alike;
      error = λ i h. ap neg (f i h);
      listed = e;
      tolerance = ruled_alike rules same;
      tolerance_tests = ruled_tests rules same;
      lent = ap (λ (p : Bool). (20, p) ∷ []) (twenties residual lent f);
      placed = refl;
    }

-- ---- nothing beyond the counts
module _ (t u : Table) (a : AgreeBelow t u) where
  pub tables_alike : TablesAlike t u
  tables_alike = record {
    rows = a.rows;
    bodies = a.bodies;
    row = λ i h. record {
      fit = ap (λ (r : ConstraintRow). words_fit_of r.words) (a.row i h);
      valid = ap (is_valid_of t.bodies) (a.row i h);
      jacobian = ap jacobian_of (a.row i h);
      dimension = ap (λ (r : ConstraintRow). r.words.dimension) (a.row i h);
    };
    mass = a.mass;
  }

  own : (i : ℕ) → i < t.rows → owner_of u i ≡ owner_of t i
  own i h = ap (λ (r : ConstraintRow). r.words.owner) (a.row i h)

  pub rule_below : (rules : Rules) (i : ℕ) → i < t.rows → rule_of rules u i ≡ rule_of rules t i
  rule_below rules i h = ap (λ (r : ConstraintRow). rule_for rules r.words.dimension r.words.key) (a.row i h)

  pub looks_below : LooksBelow t u
  looks_below = record {
    solves = λ tolerances other tests e c d f fits shift mode limit. solve_below mode (shifted_problem t tolerances shift c) (shifted_problem u other shift d)
        (positions_agree t u tables_alike shift mode (λ _. own) tolerances other tests e (λ i h. ap (λ (r : ConstraintRow). neg r.scalars.error) (a.row i h)) (λ i h. ap (λ (r : ConstraintRow). r.scalars.accumulated_multiplier) (a.row i h)) (λ i h. ap (λ (r : ConstraintRow). opens_of r.scalars r.words) (a.row i h)) c d f) fits limit;
    checks = λ listed other e fits rules placed. check_below (closing_of t listed rules placed) (closing_of u other rules placed) (closings_agree t u tables_alike rules (rule_below rules) listed other e (λ i h. ap (λ (r : ConstraintRow). r.scalars.error) (a.row i h)) placed) fits;
    moving = λ tolerances other tests e residual lent f fits shift mode limit. solve_below mode (moving_problem t tolerances shift residual) (moving_problem u other shift lent)
        (moving_agree t u tables_alike shift mode (λ _. own) tolerances other tests e (λ i h. ap (λ (r : ConstraintRow). r.scalars.accumulated_impulse) (a.row i h)) (λ i h. ap (λ (r : ConstraintRow). velocity_opens_of r.scalars r.words) (a.row i h)) residual lent f) fits limit;
    speeds = λ listed other e residual lent f fits rules. check_below (speeds_of t listed rules residual) (speeds_of u other rules lent) (speeds_agree t u tables_alike rules (rule_below rules) listed other e residual lent f) fits;
  }

-- ---- the numbers that 4 and 7 alone read
read_alike : (bodies : ℕ) (r s : ConstraintRow) → ReadAlike bodies r s → RowsAlike bodies r s
unfolding jacobian_of
read_alike bodies r s a = record {
  fit = a.four;
  valid = a.seven;
  jacobian = rw (a.linear_a, a.angular_a, a.linear_b, a.angular_b, a.body_a, a.body_b);
  dimension = a.dimension;
}

opens_alike : (bodies : ℕ) (r s : ConstraintRow) → SameButUnread bodies r s → opens_of s.scalars s.words ≡ opens_of r.scalars r.words
unfolding opens_of
opens_alike bodies r s a = rw (a.position_enabled, a.read.compliance, a.read.damping, a.read.force_driven, a.min_multiplier, a.max_multiplier)

moving_opens_alike : (bodies : ℕ) (r s : ConstraintRow) → MovingButUnread bodies r s → velocity_opens_of s.scalars s.words ≡ velocity_opens_of r.scalars r.words
unfolding velocity_opens_of
moving_opens_alike bodies r s a = rw (a.read.compliance, a.read.damping, a.read.force_driven, a.min_impulse, a.max_impulse)

module _ (t u : Table) (rows : u.rows ≡ t.rows) (bodies : u.bodies ≡ t.bodies) (mass : (b : ℕ) → b < t.bodies → u.mass b ≡ t.mass b) (read : (i : ℕ) → i < t.rows → ReadAlike t.bodies (t.row i) (u.row i)) where
  read_tables : TablesAlike t u
  read_tables = record { rows = rows; bodies = bodies; row = λ i h. read_alike t.bodies (t.row i) (u.row i) (read i h); mass = mass }

  pub same_rule : (rules : Rules) (i : ℕ) → i < t.rows → rule_of rules u i ≡ rule_of rules t i
  same_rule rules i h = rw ((read i h).dimension, (read i h).key)

pub depends : (t u : Table) → TablesButUnread kinds.Position t u → Depends t u
depends t u a = record {
  solves = λ mode owners tolerances other tests e centre fits shift limit. solve_below mode (shifted_problem t tolerances shift centre) (shifted_problem u other shift centre)
      (positions_agree t u alike shift mode owners tolerances other tests e (λ i h. ap neg (a.row i h).error) (λ i h. (a.row i h).accumulated_multiplier) (λ i h. opens_alike t.bodies (t.row i) (u.row i) (a.row i h)) centre centre (λ b h. refl)) fits limit;
  checks = λ listed fits rules placed. check_below (closing_of t listed rules placed) (closing_of u listed rules placed)
      (closings_agree t u alike rules (same_rule t u a.rows a.bodies a.mass (λ i h. (a.row i h).read) rules) listed listed (λ i h. refl) (λ i h. (a.row i h).error) placed) fits;
}
  where
    alike : TablesAlike t u
    alike = read_tables t u a.rows a.bodies a.mass (λ i h. (a.row i h).read)

-- document 02, a
pub moving_depends : (t u : Table) → TablesButUnread kinds.Velocity t u → MovingDepends t u
moving_depends t u a = record {
  solves = λ mode owners tolerances other tests e residual fits shift limit. solve_below mode (moving_problem t tolerances shift residual) (moving_problem u other shift residual)
      (moving_agree t u alike shift mode owners tolerances other tests e (λ i h. (a.row i h).accumulated_impulse) (λ i h. moving_opens_alike t.bodies (t.row i) (u.row i) (a.row i h)) residual residual (λ i h. refl)) fits limit;
  checks = λ listed fits rules residual. check_below (speeds_of t listed rules residual) (speeds_of u listed rules residual)
      (speeds_agree t u alike rules (same_rule t u a.rows a.bodies a.mass (λ i h. (a.row i h).read) rules) listed listed (λ i h. refl) residual residual (λ i h. refl)) fits;
}
  where
    alike : TablesAlike t u
    alike = read_tables t u a.rows a.bodies a.mass (λ i h. (a.row i h).read)
