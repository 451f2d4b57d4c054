-- Document 02, g: "each gets the answer or refusal that a solve of its rows alone, in their order, would give"; "a refused group's other numbers stay as before".
use Rattle.std.specs.Prelude.{ℕ, ◌+◌, ◌*◌, ◌<◌, ◌≡◌, true, cond, List, length, get_or, Float}
use Rattle.std.specs.Float.{nan}
use Rattle.kapitsa_joint.specs.Kind.{place_of, placed_of}
use Rattle.preconditioner.specs.Mode.{mode_of}
use Rattle.position_delivery.specs.Outcome.{Lent}
use Rattle.own_memory.specs.Job.{JobSolved}
use Rattle.group_table.specs.Pick.{pick_rows}
use Rattle.loops.specs.Run.{Run, going, ended}
use Rattle.position_delivery.specs.declared.answer.PositionPcgResult.{PositionPcgResult}
use Rattle.group_step.specs.Bench.{Bench, Lending, group_problem}

-- x where the answer is accepted, and y where it is refused
abbrev pub chosen : {X : Type 0} → Run PositionPcgResult ℕ → X → X → X
chosen (going r) x y = x
chosen (ended number) x y = y

-- ---- what is told of a group: its refusal or 0, its count and its flag, 0 of a refused one, and its maxima
abbrev pub refusal_of : Run PositionPcgResult ℕ → ℕ
refusal_of (going r) = 0
refusal_of (ended number) = number

abbrev pub count_of : Run PositionPcgResult ℕ → ℕ
count_of (going r) = r.iterations
count_of (ended number) = 0

abbrev pub flag_of : Run PositionPcgResult ℕ → ℕ
flag_of (going r) = cond r.converged 1 0
flag_of (ended number) = 0

-- a refused group's maxima stay as they were
abbrev pub linear_of : Run PositionPcgResult ℕ → Float → Float
linear_of (going r) before = r.linear_residual_m
linear_of (ended number) before = before

abbrev pub angular_of : Run PositionPcgResult ℕ → Float → Float
angular_of (going r) before = r.angular_residual_rad
angular_of (ended number) before = before

pub record Told (g : ℕ) (answer : Run PositionPcgResult ℕ) (words : List ℕ) (maxima₀ maxima : List Float) : Type 0 where
  pub refusal : get_or words (3 * g) 0 ≡ refusal_of answer
  pub count : get_or words (3 * g + 1) 0 ≡ count_of answer
  pub flag : get_or words (3 * g + 2) 0 ≡ flag_of answer
  pub linear : get_or maxima (2 * g) nan ≡ linear_of answer (get_or maxima₀ (2 * g) nan)
  pub angular : get_or maxima (2 * g + 1) nan ≡ angular_of answer (get_or maxima₀ (2 * g + 1) nan)

-- ---- what of a table's is lent to a solve of these rows alone, with impulses and centres of all bodies
abbrev pub lent_to : List ℕ → Lent → List Float → List Float → Lent
lent_to rows l impulses centres = record { numbers = pick_rows nan 27 rows l.numbers; solution = pick_rows nan 1 rows l.solution; impulses = impulses; centres = centres }

-- the solve of these rows alone, of a table with these numbers
abbrev pub SolvedAlone : Bench → List Float → List ℕ → Lent → Lent → List ℕ → List ℕ → Run PositionPcgResult ℕ → Type 0
SolvedAlone b numbers rows before after named namedAfter answer =
    JobSolved true b.rules (group_problem b numbers rows) (mode_of b.mode b.shift) b.limit (place_of b.kind) (length rows) before after named namedAfter answer

-- Group g, whose rows are these and whose bodies are `mine`: it is solved alone, lent the rows' numbers, solution and rules, and the impulses and centres of all bodies, as they came in. Of the impulses and centres which that leaves, the table has those of the group's bodies.
-- So of a refused group all of them are as they came in.
pub record GroupSolved (mine : ℕ → Type 0) (b : Bench) (g : ℕ) (rows : List ℕ) (before after : Lending) : Type 0 where
  pub answer : Run PositionPcgResult ℕ
  pub impulses : List Float
  pub centres : List Float
  pub solved : SolvedAlone b before.table.numbers rows (lent_to rows before.table before.table.impulses before.table.centres) (lent_to rows after.table impulses centres) (pick_rows 0 1 rows before.rules) (pick_rows 0 1 rows after.rules) answer
  pub told : Told g answer after.answers before.maxima after.maxima
  pub impulses_put : (body c : ℕ) → body < b.bodies → c < 6 → mine body → get_or after.table.impulses (6 * body + c) nan ≡ get_or impulses (6 * body + c) nan
  pub centres_put : (body c : ℕ) → body < placed_of b.kind b.bodies → c < 3 → mine body → get_or after.table.centres (3 * body + c) nan ≡ get_or centres (3 * body + c) nan
