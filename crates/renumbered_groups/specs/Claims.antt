-- Document 02, n, of groups: two calls, ' that of the bench with its bodies under new numbers.
use Rattle.std.specs.Prelude.{ℕ, ◌+◌, ◌*◌, ◌<◌, ◌≡◌, Bool, List, get_or}
use Rattle.std.specs.Float.{nan}
use Rattle.loops.specs.Run.{Run, going}
use Rattle.kapitsa_joint.specs.Kind.{placed_of}
use Rattle.position_delivery.specs.declared.answer.PositionPcgResult.{PositionPcgResult}
use Rattle.groups.specs.Together.{links_of, joins_of, Member, Apart}
use Rattle.group_table.specs.Pick.{rows_of, pick_rows}
use Rattle.group_step.specs.Bench.{Bench, Lending, bench_table}
use Rattle.groups_solve.specs.Solved.{BenchSolved, GroupsSolved}

-- other memory lent for the answer, with the same rows' numbers
abbrev pub same_numbers : Lending → Lending → Lending
same_numbers before other = record {
  table = record { numbers = before.table.numbers; solution = other.table.solution; impulses = other.table.impulses; centres = other.table.centres };
  rules = other.rules;
  groups = other.groups;
  answers = other.answers;
  maxima = other.maxima;
}

-- the body of new number p body has what it had under its old one
pub record BodyAlike (p : ℕ → ℕ) (b : Bench) (after after' : Lending) (body : ℕ) : Type 0 where
  pub impulses : (c : ℕ) → c < 6 → get_or after'.table.impulses (6 * p body + c) nan ≡ get_or after.table.impulses (6 * body + c) nan
  pub centre : (c : ℕ) → body < placed_of b.kind b.bodies → c < 3 → get_or after'.table.centres (3 * p body + c) nan ≡ get_or after.table.centres (3 * body + c) nan

-- "the same flag, count, residuals and multipliers": of an accepted group its rows' numbers, solution and rules, its maxima, and the impulses and centres of its bodies under the new numbers
pub record AcceptedAlike (p : ℕ → ℕ) (b : Bench) (mine : ℕ → Type 0) (g : ℕ) (rows : List ℕ) (after after' : Lending) : Type 0 where
  pub numbers : pick_rows nan 27 rows after'.table.numbers ≡ pick_rows nan 27 rows after.table.numbers
  pub solution : pick_rows nan 1 rows after'.table.solution ≡ pick_rows nan 1 rows after.table.solution
  pub rules : pick_rows 0 1 rows after'.rules ≡ pick_rows 0 1 rows after.rules
  pub linear : get_or after'.maxima (2 * g) nan ≡ get_or after.maxima (2 * g) nan
  pub angular : get_or after'.maxima (2 * g + 1) nan ≡ get_or after.maxima (2 * g + 1) nan
  pub bodies : (body : ℕ) → body < b.bodies → mine body → BodyAlike p b after after' body

-- of group g, whose bodies are `mine`: three words are told, its refusal or 0, its count and its flag; `answer` is what the first call answers of it
pub record GroupAlike (p : ℕ → ℕ) (b : Bench) (mine : ℕ → Type 0) (g : ℕ) (rows : List ℕ) (after after' : Lending) (answer : Run PositionPcgResult ℕ) : Type 0 where
  pub told : (c : ℕ) → c < 3 → get_or after'.answers (3 * g + c) 0 ≡ get_or after.answers (3 * g + c) 0
  pub accepted : (r : PositionPcgResult) → answer ≡ going r → AcceptedAlike p b mine g rows after after'

-- where the whole table's tests pass, by what the first call promises: the same group numbers, each group alike, and the bodies that are in none
pub record BenchAlike (p : ℕ → ℕ) (b : Bench) (before after after' : Lending) (count : ℕ) (s : BenchSolved b before after count) : Type 0 where
  pub groups : (i : ℕ) → i < b.rows → get_or after'.groups i 0 ≡ get_or after.groups i 0
  pub each : (g : ℕ) (h : g < count) → GroupAlike p b (Member (links_of (bench_table b before.table.numbers)) (joins_of (bench_table b before.table.numbers)) b.rows after.groups g) g (rows_of after.groups g b.rows) after after' (s.each g h).answer
  pub apart : (body : ℕ) → body < b.bodies → Apart (links_of (bench_table b before.table.numbers)) (joins_of (bench_table b before.table.numbers)) b.rows body → BodyAlike p b after after' body

pub record GroupsAlike (p : ℕ → ℕ) (fits : Bool) (b : Bench) (before after after' : Lending) (answer answer' : Run ℕ ℕ) (s : GroupsSolved fits b before after answer) : Type 0 where
  pub answered : answer' ≡ answer  -- how many groups there are, or the whole table's refusal
  pub solved : (count : ℕ) (e : answer ≡ going count) → BenchAlike p b before after after' count (s.solved count e)
