-- What a solve by groups tells C: 0 with how many groups there are, or the whole table's refusal, and then nothing else.
use Rattle.std.specs.Prelude.{ℕ, ◌≡◌, Bool, List, [], ◌∷◌, ◌↔◌, eqb, length}
use Rattle.loops.specs.Run.{Run, going, ended, Goes}
use Rattle.loops.specs.Judge.{judge}
use Rattle.group_step.specs.Bench.{Bench, Lending, bench_problem}
use Rattle.groups_solve.specs.Judged.{whole_tests}
use Rattle.groups_solve.specs.Solved.{GroupsSolved}

pub record BenchTold : Type 0 where
  pub number : ℕ
  pub count : List ℕ  -- one word: how many groups there are

unfoldable pub bench_told : Run ℕ ℕ → List ℕ → BenchTold
bench_told (going groups) count = record { number = 0; count = groups ∷ [] }
bench_told (ended number) count = record { number = number; count = count }

-- "3. … a lent slice has not the length the counts call for", of the word that takes how many groups there are
unfoldable pub count_fits : List ℕ → Bool
count_fits count = eqb (length count) 1

-- All that a solve by groups promises holds of the answer that is told; 0 is told exactly where the whole table's tests pass, and a refusal leaves the word as it was. `fits` is whether refusal 3 passes.
pub record GroupsTold (fits : Bool) (b : Bench) (before after : Lending) (count : List ℕ) (told : BenchTold) : Type 0 where
  pub answer : Run ℕ ℕ
  pub solved : GroupsSolved fits b before after answer
  pub answered : told ≡ bench_told answer count
  pub zero : (told.number ≡ 0) ↔ Goes (judge (whole_tests fits (bench_problem b before.table.numbers)))
