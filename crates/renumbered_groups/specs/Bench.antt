-- Document 02, n, "This covers ... groups": a bench with its bodies under new numbers.
use Rattle.std.specs.Prelude.{ℕ, List, length, Float}
use Rattle.std.specs.Float.{nan}
use Rattle.group_table.specs.Pick.{pick_rows}
use Rattle.group_step.specs.Bench.{Bench}
use Rattle.renumbered.specs.Moved.{moved_masses, moved_centres}
use Rattle.renumbered.specs.Lists.{LentJob, renumbered_words}

-- of its rows' words the bodies by p, masses and centres moved along
abbrev pub renumbered_bench : (ℕ → ℕ) → (ℕ → ℕ) → Bench → Bench
renumbered_bench p q b = record {
  kind = b.kind;
  rows = b.rows;
  bodies = b.bodies;
  words = renumbered_words p b.words;
  masses = moved_masses q b.masses;
  centres = moved_centres q b.centres;
  given = b.given;
  rules = b.rules;
  limit = b.limit;
  mode = b.mode;
  shift = b.shift;
}

-- the job of the whole bench, and that of these rows alone
abbrev pub job_of : Bench → List Float → LentJob
job_of b numbers = record { kind = b.kind; rows = b.rows; bodies = b.bodies; numbers = numbers; words = b.words; masses = b.masses; centres = b.centres; residual = b.given; rules = b.rules }

abbrev pub group_job : Bench → List Float → List ℕ → LentJob
group_job b numbers rows = record { kind = b.kind; rows = length rows; bodies = b.bodies; numbers = pick_rows nan 27 rows numbers; words = pick_rows 0 8 rows b.words; masses = b.masses; centres = b.centres; residual = pick_rows nan 1 rows b.given; rules = b.rules }
