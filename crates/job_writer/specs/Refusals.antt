-- What turns a job back from the writer: document 02, e, "It refuses by 2, 3, 4 and 24 and then writes nothing". Each test is true where the refusal does not apply.
use Rattle.std.specs.Prelude.{ℕ, ◌*◌, ◌≡◌, Bool, ◌&&◌, ◌||◌, List, [], ◌∷◌, leb, eqb, length, get_or}
use Rattle.loops.specs.Run.{Run, going, on, next}
use Rattle.loops.specs.Judge.{judge}
use Rattle.loops.specs.Every.{every}
use Rattle.joint_refusals.specs.Counts.{counts_fit, rows_fit}
use Rattle.joint_refusals.specs.Refusals.{words_fit_of}
use Rattle.kapitsa_joint.specs.Row.{words_of}
use Rattle.job_writer.specs.declared.head.JobHead.{JobHead}
use Rattle.job_writer.specs.JobBits.{JobBits}
use Rattle.job_writer.specs.Written.{file_length, written}

-- 2: up to 128 rows and 64 bodies
unfoldable pub limits_fit : JobHead → Bool
limits_fit h = leb h.rows 128 && leb h.bodies 64

-- 3: counts and mode are those of document 01 and the layout is known,
unfoldable pub head_fits : JobHead → Bool
head_fits h = counts_fit h.rows h.bodies h.mode && leb h.layout 1

-- and each lent slice, the output too, has the length that the counts and the layout call for
unfoldable pub lengths_fit : JobHead → ℕ → ℕ → ℕ → ℕ → ℕ → Bool
lengths_fit h numbers words masses centres out = (rows_fit h.rows h.bodies numbers words masses && eqb centres (3 * h.bodies)) && eqb out (file_length h.rows h.bodies h.layout)

unfoldable pub sizes_fit : JobHead → ℕ → ℕ → ℕ → ℕ → ℕ → Bool
sizes_fit h numbers words masses centres out = head_fits h && lengths_fit h numbers words masses centres out

-- 4: the rows' words
abbrev pub words_fit : List ℕ → ℕ → Bool
words_fit words rows = every (λ i. words_fit_of (words_of words (8 * i))) rows

-- 24: "the old layout is to be written and a centre number has other bits than +0.0"
unfoldable pub centres_fit : List ℕ → ℕ → Bool
centres_fit centres layout = eqb layout 1 || every (λ k. eqb (get_or centres k 0) 0) (length centres)

-- in their order, where the output has so many bytes
abbrev pub tests : JobBits → ℕ → List (ℕ × Bool)
tests job out =
    (2, limits_fit job.head)
    ∷ (3, sizes_fit job.head (length job.numbers) (length job.words) (length job.masses) (length job.centres) out)
    ∷ (4, words_fit job.words job.head.rows)
    ∷ (24, centres_fit job.centres job.head.layout)
    ∷ []

-- the file, or the number of the refusal
unfoldable pub written_of : JobBits → ℕ → Run (List ℕ) ℕ
written_of job out = next (judge (tests job out)) (λ _. going (written job))

-- the call goes through and the output has the file, or it tells the refusal's number and the output is as it was
pub record Answers (run : Run (List ℕ) ℕ) (out : List ℕ) (r : Run Unit ℕ) (out' : List ℕ) : Type 0 where
  pub told : r ≡ next run (λ _. going tt)
  pub bytes : out' ≡ on run (λ file. file) (λ _. out)
