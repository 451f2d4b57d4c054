-- The two kinds of solve, by a lent residual that positions do not look at.
use Rattle.std.specs.Prelude.{ℕ, ◌+◌, ◌*◌, ◌≡◌, true, List, [], get_or, Float}
use Rattle.std.specs.Float.{nan}
use Rattle.std.specs.Float.Ieee.{neg}
use Rattle.kapitsa_joint.specs.Table.{Table}
use Rattle.kapitsa_joint.specs.Centre.{no_centres}
use Rattle.kapitsa_joint.specs.Kind.{by_kind, is_velocity}
use Rattle.position.specs.Problem.{Problem, error_start, multipliers, position_opens, accumulated_impulses, velocity_opens, residual_tests}
use Rattle.kapitsa_joint.specs.declared.kind.Kind.{Kind}
use Rattle.kapitsa_joint.specs.declared.kind.Kind.TheVariants as kinds

-- `position_problem` or `velocity_problem`, part by part: what they share is there whatever the kind
abbrev pub kind_problem : Kind → Table → (ℕ → Float) → (ℕ → Float) → Problem
kind_problem kind t tolerance residual = record {
  table = t;
  tolerance = tolerance;
  rule = λ i. 0;
  start = by_kind kind (error_start t) residual;
  accumulated = by_kind kind (multipliers t) (accumulated_impulses t);
  options = [];
  tolerance_tests = [];
  opens = by_kind kind (position_opens t) (velocity_opens t);
  placed = true;
  lent = by_kind kind [] (residual_tests residual t.rows);
  valid_first = is_velocity kind;
  factor_first = is_velocity kind;
  centres = no_centres;
}

-- the starting residual over the lent lists: "−error", the first of a row's scalars, or the number lent
abbrev pub start_in : Kind → List Float → List Float → ℕ → Float
start_in kind numbers given i = by_kind kind (neg (get_or numbers (27 * i + 15) nan)) (get_or given i nan)

-- a residual of so many rows is lent, where it is looked at
pub record GivenRoom (kind : Kind) (given rows : ℕ) : Type 0 where
  pub long : kind ≡ kinds.Velocity → given ≡ rows
