-- What a solve by groups promises. Document 02, g.
use Rattle.std.specs.Prelude.{ℕ, ◌+◌, ◌*◌, ◌<◌, ◌≤◌, ◌≡◌, Bool, length, get_or}
use Rattle.std.specs.Float.{nan}
use Rattle.loops.specs.Run.{Run, going, ended}
use Rattle.loops.specs.Cleared.{plus_zero}
use Rattle.loops.specs.Judge.{judge}
use Rattle.kapitsa_joint.specs.Kind.{placed_of}
use Rattle.groups.specs.Together.{links_of, joins_of, Grouped, Member, Apart}
use Rattle.group_table.specs.Pick.{rows_of}
use Rattle.group_step.specs.Bench.{Bench, Lending, bench_table, bench_problem}
use Rattle.group_step.specs.Group.{GroupSolved}
use Rattle.groups_solve.specs.Judged.{whole_tests, grouping_out}

-- "Such a zero-mass body, or one in no row, is given impulses of +0.0", and keeps its centre
pub record StaysPut (b : Bench) (body : ℕ) (after : Lending) : Type 0 where
  pub impulses : (c : ℕ) → c < 6 → get_or after.table.impulses (6 * body + c) nan ≡ plus_zero
  pub centre : (c : ℕ) → body < placed_of b.kind b.bodies → c < 3 → get_or after.table.centres (3 * body + c) nan ≡ get_or b.centres (3 * body + c) nan

-- every slice is as long as it was
pub record SameLengths (before after : Lending) : Type 0 where
  pub numbers : length after.table.numbers ≡ length before.table.numbers
  pub solution : length after.table.solution ≡ length before.table.solution
  pub impulses : length after.table.impulses ≡ length before.table.impulses
  pub centres : length after.table.centres ≡ length before.table.centres
  pub rules : length after.rules ≡ length before.rules
  pub groups : length after.groups ≡ length before.groups
  pub answers : length after.answers ≡ length before.answers
  pub maxima : length after.maxima ≡ length before.maxima

-- where the whole table's tests pass
pub record BenchSolved (b : Bench) (before after : Lending) (count : ℕ) : Type 0 where
  pub grouped : Grouped (links_of (bench_table b before.table.numbers)) (joins_of (bench_table b before.table.numbers)) b.rows after.groups count  -- which rows belong together, by lowest row
  pub each : (g : ℕ) → g < count → GroupSolved (Member (links_of (bench_table b before.table.numbers)) (joins_of (bench_table b before.table.numbers)) b.rows after.groups g) b g (rows_of after.groups g b.rows) before after
  pub apart : (body : ℕ) → body < b.bodies → Apart (links_of (bench_table b before.table.numbers)) (joins_of (bench_table b before.table.numbers)) b.rows body → StaysPut b body after
  pub answers_behind : (k : ℕ) → 3 * count ≤ k → get_or after.answers k 0 ≡ get_or before.answers k 0  -- behind the last group as before
  pub maxima_behind : (k : ℕ) → 2 * count ≤ k → get_or after.maxima k nan ≡ get_or before.maxima k nan
  pub long : SameLengths before after

-- fits is whether refusal 3 passes
pub record GroupsSolved (fits : Bool) (b : Bench) (before after : Lending) (answer : Run ℕ ℕ) : Type 0 where
  pub answered : judge (whole_tests fits (bench_problem b before.table.numbers)) ≡ grouping_out answer  -- the whole table's tests, in their order
  pub kept : (number : ℕ) → answer ≡ ended number → after ≡ before  -- a refusal of the whole table touches nothing
  pub solved : (count : ℕ) → answer ≡ going count → BenchSolved b before after count
