-- Document 02, g, "Several mechanisms on one bench": what a solve by groups is given, and what it is lent.
use Rattle.std.specs.Prelude.{ℕ, List, length, Float}
use Rattle.std.specs.Float.{nan}
use Rattle.kapitsa_joint.specs.Table.{Table, table_of}
use Rattle.kapitsa_joint.specs.declared.kind.Kind.{Kind}
use Rattle.rules.specs.Rules.{Rules}
use Rattle.position.specs.Problem.{Problem}
use Rattle.solve_method.specs.Position.{solve_for}
use Rattle.position_delivery.specs.Outcome.{Lent}
use Rattle.group_table.specs.Pick.{pick_rows}

-- what is only read
pub record Bench : Type 0 where
  pub kind : Kind
  pub rows : ℕ
  pub bodies : ℕ
  pub words : List ℕ
  pub masses : List Float
  pub centres : List Float
  pub given : List Float  -- of velocities the residual
  pub rules : Rules
  pub limit : ℕ
  pub mode : ℕ
  pub shift : Float

-- what is written
pub record Lending : Type 0 where
  pub table : Lent  -- the rows' numbers, solution, impulses and new centres, of the whole table
  pub rules : List ℕ  -- the number of each row's rule
  pub groups : List ℕ  -- the number of each row's group
  pub answers : List ℕ  -- three words a group: its refusal or 0, count, flag
  pub maxima : List Float  -- two numbers a group: the linear residual maximum, the angular one

-- the table with these numbers
abbrev pub bench_table : Bench → List Float → Table
bench_table b numbers = table_of b.rows b.bodies numbers b.words b.masses

-- what is asked of the whole table
abbrev pub bench_problem : Bench → List Float → Problem
bench_problem b numbers = solve_for b.kind b.rows b.bodies numbers b.words b.masses b.centres b.given b.rules b.shift

-- "a solve of its rows alone, in their order": of these rows, with all bodies
abbrev pub group_problem : Bench → List Float → List ℕ → Problem
group_problem b numbers rows = solve_for b.kind (length rows) b.bodies (pick_rows nan 27 rows numbers) (pick_rows 0 8 rows b.words) b.masses b.centres (pick_rows nan 1 rows b.given) b.rules b.shift

-- ---- of lent lists
abbrev pub bench_of : Kind → ℕ → ℕ → List ℕ → List Float → List Float → List Float → Rules → ℕ → ℕ → Float → Bench
bench_of kind rows bodies words masses centres given rules limit mode shift = record { kind = kind; rows = rows; bodies = bodies; words = words; masses = masses; centres = centres; given = given; rules = rules; limit = limit; mode = mode; shift = shift }

abbrev pub lending_of : List Float → List Float → List Float → List Float → List ℕ → List ℕ → List ℕ → List Float → Lending
lending_of numbers solution impulses centres rules groups answers maxima = record { table = record { numbers = numbers; solution = solution; impulses = impulses; centres = centres }; rules = rules; groups = groups; answers = answers; maxima = maxima }
