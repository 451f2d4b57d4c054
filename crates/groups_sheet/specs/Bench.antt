-- A job of several mechanisms: what is judged of its whole table, and the group of each row.
use Rattle.std.specs.Prelude.{ℕ, ◌*◌, ◌≤◌, ◌≡◌, Bool, ◌&&◌, List, [], ◌∷◌}
use Rattle.loops.specs.Run.{Run, ended, going}
use Rattle.loops.specs.Judge.{judge}
use Rattle.kapitsa_joint.specs.Table.{Table, table_of}
use Rattle.kapitsa_joint.specs.Centre.{centres_in}
use Rattle.joint_refusals.specs.Refusals.{passes6, passes7, centres_finite}
use Rattle.joint_refusals.specs.Tolerances.{passes26}
use Rattle.groups.specs.Together.{links_in, joins_in, Grouped}
use Rattle.groups_solve.specs.Judged.{grouping_out}
use Rattle.job_file.specs.Job.{Job, job_of}
use Rattle.job_file.specs.declared.trailer.Trailer.{Trailer}

-- ---- the whole table

abbrev pub job_table : Job → Table
job_table j = table_of j.rows j.bodies j.numbers j.words j.masses

-- Document 02, g: "Refusals 3, 4, 6, 7, 20 and 25 judge the whole table first"; j: 26 "in groups over the whole table". 3 and 4 are the file's, shift 0 passes 25, two rules over all keys pass 27 and 28, and 20 is for velocities (`whole_same`).
abbrev pub job_tests : Job → List (ℕ × Bool)
job_tests j = (26, passes26 j.tolerance) ∷ (6, passes6 (job_table j) && centres_finite (centres_in j.bodies j.centres)) ∷ (7, passes7 (job_table j)) ∷ []

-- the answer for a job: its whole table's refusal, the lent list being as it was, or how many groups there are, the list having the number of each row's group
pub record JobGrouped (j : Job) (before groups : List ℕ) (answer : Run ℕ ℕ) : Type 0 where
  pub judged : judge (job_tests j) ≡ grouping_out answer
  pub kept : (number : ℕ) → answer ≡ ended number → groups ≡ before
  pub grouped : (count : ℕ) → answer ≡ going count → Grouped (links_in j.words) (joins_in j.masses) j.rows groups count

-- the answer for the job of a file
pub record BenchRead (file : List ℕ) (j : Job) (before groups : List ℕ) (answer : Run ℕ ℕ) : Type 0 where
  pub read : job_of file ≡ going j
  pub answered : JobGrouped j before groups answer

-- ---- the memory

-- what is known of a job that passed 1 to 4, and of the memory lent for it: the counts and the mode, and the lengths of numbers, words, masses, centres and group numbers
pub record BenchRoom (t : Trailer) (numbers words masses centres groups : ℕ) : Type 0 where
  pub few_rows : t.rows ≤ 128
  pub few_bodies : t.bodies ≤ 64
  pub mode_known : t.mode ≤ 2
  pub numbers_long : numbers ≡ 27 * t.rows
  pub words_long : words ≡ 8 * t.rows
  pub masses_long : masses ≡ 10 * t.bodies
  pub centres_long : centres ≡ 3 * t.bodies
  pub groups_long : groups ≡ t.rows

-- the memory for one group of so many rows: the lengths of its numbers and words, of solution, impulses and new centres
pub record OwnRoom (rows bodies numbers words solution impulses newCentres : ℕ) : Type 0 where
  pub numbers_long : numbers ≡ 27 * rows
  pub words_long : words ≡ 8 * rows
  pub solution_long : solution ≡ rows
  pub impulses_long : impulses ≡ 6 * bodies
  pub new_centres_long : newCentres ≡ 3 * bodies
