-- The job that a file holds, or the number that turns it back, and what the functions of src/judge.rt and src/read.rt answer.
use Rattle.std.specs.Prelude.{ℕ, ◌≡◌, Bool, ◌&&◌, List, [], ◌∷◌, length, Float}
use Rattle.loops.specs.Run.{Run, going, ended, next}
use Rattle.loops.specs.Judge.{judge}
use Rattle.kapitsa_joint.specs.declared.tolerance.JointTolerance.{JointTolerance}
use Rattle.job_file.specs.File.{trailer_of, section_numbers, section_words, section_masses, section_centres}
use Rattle.job_file.specs.Refusals.{passes1, passes2, passes3, passes4, lengths_fit}
use Rattle.job_file.specs.declared.trailer.Trailer.{Trailer}

-- the lists that the sections decode to
abbrev pub file_numbers : List ℕ → List Float
file_numbers file = section_numbers file (trailer_of file).row_offset (trailer_of file).rows

abbrev pub file_words : List ℕ → List ℕ
file_words file = section_words file (trailer_of file).row_offset (trailer_of file).rows

abbrev pub file_masses : List ℕ → List Float
file_masses file = section_masses file (trailer_of file).mass_offset (trailer_of file).spare (trailer_of file).bodies

abbrev pub file_centres : List ℕ → List Float
file_centres file = section_centres file (trailer_of file).mass_offset (trailer_of file).spare (trailer_of file).bodies

-- document 02, d: its spare is 1 where the file has centres
pub record Job : Type 0 where
  pub rows : ℕ
  pub bodies : ℕ
  pub limit : ℕ
  pub mode : ℕ
  pub tolerance : JointTolerance
  pub spare : ℕ
  pub numbers : List Float
  pub words : List ℕ
  pub masses : List Float
  pub centres : List Float

-- what a trailer and four lists make a job of
abbrev pub job_with : Trailer → List Float → List ℕ → List Float → List Float → Job
job_with t numbers words masses centres = record { rows = t.rows; bodies = t.bodies; limit = t.limit; mode = t.mode; tolerance = t.tolerance; spare = t.spare; numbers = numbers; words = words; masses = masses; centres = centres }

-- the tests in their order
abbrev pub tests : List ℕ → List (ℕ × Bool)
tests file = (1, passes1 file) ∷ (2, passes2 file) ∷ (3, passes3 file) ∷ (4, passes4 file) ∷ []

unfoldable pub job_of : List ℕ → Run Job ℕ
job_of file = next (judge (tests file)) (λ _. going (job_with (trailer_of file) (file_numbers file) (file_words file) (file_masses file) (file_centres file)))

-- ---- what the functions answer

-- the trailer, or the number of the first test that fails
unfoldable pub answer_of : Trailer → List (ℕ × Bool) → Run Trailer ℕ
answer_of t l = next (judge l) (λ _. going t)

-- by 1 to 3 alone
unfoldable pub opened_of : List ℕ → Run Trailer ℕ
opened_of file = answer_of (trailer_of file) ((1, passes1 file) ∷ (2, passes2 file) ∷ (3, passes3 file) ∷ [])

unfoldable pub judged_of : List ℕ → Run Trailer ℕ
judged_of file = answer_of (trailer_of file) (tests file)

-- where so many numbers, words, masses and centres are lent
unfoldable pub read_of : List ℕ → ℕ → ℕ → ℕ → ℕ → Run Trailer ℕ
read_of file numbers words masses centres = answer_of (trailer_of file) ((1, passes1 file) ∷ (2, passes2 file) ∷ (3, passes3 file && lengths_fit (trailer_of file) numbers words masses centres) ∷ (4, passes4 file) ∷ [])

-- a lent list after the call: read, or as it was where the call was refused
unfoldable pub lent_after : {X : Type 0} → Run Trailer ℕ → List X → List X → List X
lent_after (going t) read before = read
lent_after (ended n) read before = before

-- a call of `read_job` with four lent lists, what its answer tells, and the lists at its exit
pub record Reads (file : List ℕ) (numbers : List Float) (words : List ℕ) (masses centres : List Float) (r : Run Trailer ℕ) (numbers' : List Float) (words' : List ℕ) (masses' centres' : List Float) : Type 0 where
  pub answer : r ≡ read_of file (length numbers) (length words) (length masses) (length centres)
  pub of_numbers : numbers' ≡ lent_after r (file_numbers file) numbers
  pub of_words : words' ≡ lent_after r (file_words file) words
  pub of_masses : masses' ≡ lent_after r (file_masses file) masses
  pub of_centres : centres' ≡ lent_after r (file_centres file) centres
