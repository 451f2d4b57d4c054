-- What a solve is given, as functions of the row. Positions and velocities (document 02, a) are two values of one record.
use Rattle.std.specs.Prelude.{ℕ, Bool, true, false, List, [], ◌∷◌, Float}
use Rattle.std.specs.Float.Ieee.{neg}
use Rattle.kapitsa_joint.specs.Table.{Table}
use Rattle.kapitsa_joint.specs.Centre.{Centres, no_centres}
use Rattle.joint_refusals.specs.Refusals.{opens_of, velocity_opens_of, passes20}
use Rattle.joint_refusals.specs.Tolerances.{Tolerances}

pub record Problem : Type 0 where
  pub table : Table
  pub tolerance : ℕ → Float
  pub rule : ℕ → ℕ  -- the number of the rule that row i is judged by
  pub start : ℕ → Float  -- the residual that row i starts from
  pub accumulated : ℕ → Float  -- the number of row i that gains its solution number
  pub options : List (ℕ × Bool)  -- what is judged right after 3, of what is chosen for the whole solve
  pub tolerance_tests : List (ℕ × Bool)  -- what is judged of the tolerances, right after 4
  pub opens : ℕ → Bool  -- row i passes the opening test, refusal 5
  pub placed : Bool  -- the centres that are lent are finite: 6 judges them with the masses
  pub lent : List (ℕ × Bool)  -- what is judged, after 6, of numbers that are lent to this kind of solve alone
  pub valid_first : Bool  -- every row passes 7 before any is judged by 8 and 9; otherwise 7 to 9 run row by row
  pub factor_first : Bool  -- the factor stands before the count 0 test; otherwise after it
  pub centres : Centres  -- what the impulses move

-- ---- positions
-- "Residual starts as −error."
abbrev pub error_start : Table → ℕ → Float
error_start t i = neg (t.row i).scalars.error

abbrev pub multipliers : Table → ℕ → Float
multipliers t i = (t.row i).scalars.accumulated_multiplier

abbrev pub position_opens : Table → ℕ → Bool
position_opens t i = opens_of (t.row i).scalars (t.row i).words

-- from any starting residual, 7 to 9 row by row or 7 first: what step 0 looks at, the rest as of positions
abbrev pub started_problem : Bool → Table → (ℕ → Float) → (ℕ → Float) → Problem
started_problem valid_first t tolerance start = record {
  table = t;
  tolerance = tolerance;
  rule = λ i. 0;
  start = start;
  accumulated = multipliers t;
  options = [];
  tolerance_tests = [];
  opens = position_opens t;
  placed = true;
  lent = [];
  valid_first = valid_first;
  factor_first = false;
  centres = no_centres;
}

-- document 01: "7 to 9 run row by row", "10 to 17 follow the count 0 test"
abbrev pub position_problem : Table → (ℕ → Float) → Problem
position_problem t tolerance = started_problem false t tolerance (error_start t)

-- ---- velocities: document 02, a
abbrev pub accumulated_impulses : Table → ℕ → Float
accumulated_impulses t i = (t.row i).scalars.accumulated_impulse

abbrev pub velocity_opens : Table → ℕ → Bool
velocity_opens t i = velocity_opens_of (t.row i).scalars (t.row i).words

abbrev pub residual_tests : (ℕ → Float) → ℕ → List (ℕ × Bool)
residual_tests residual rows = (20, passes20 residual rows) ∷ []

-- "a lent residual vector", which is the starting residual; "All rows pass 7 before any diagonal, and factors are built before the first convergence test. The accumulated impulse is what changes"; "20, a lent residual is not finite, judged right after 6"
abbrev pub velocity_problem : Table → (ℕ → Float) → (ℕ → Float) → Problem
velocity_problem t tolerance residual = record {
  table = t;
  tolerance = tolerance;
  rule = λ i. 0;
  start = residual;
  accumulated = accumulated_impulses t;
  options = [];
  tolerance_tests = [];
  opens = velocity_opens t;
  placed = true;
  lent = residual_tests residual t.rows;
  valid_first = true;
  factor_first = true;
  centres = no_centres;
}

-- with tests right after 3, with rules and what is judged of them right after 4, and with centres, finite or not
abbrev pub with_tests : List (ℕ × Bool) → Tolerances → Bool → Centres → Problem → Problem
with_tests options limits placed centres p = record {
  table = p.table;
  tolerance = p.tolerance;
  rule = limits.rule;
  start = p.start;
  accumulated = p.accumulated;
  options = options;
  tolerance_tests = limits.tests;
  opens = p.opens;
  placed = placed;
  lent = p.lent;
  valid_first = p.valid_first;
  factor_first = p.factor_first;
  centres = centres;
}
