-- Document 02, e: "A converter reads a job file, refusing by 1 to 4, and writes its job as the writer does, with 104-byte masses, or back with the old ones (a job already there keeps its layout)."
use Rattle.std.specs.Prelude.{ℕ, Bool, ◌&&◌, List, [], ◌∷◌, leb, eqb}
use Rattle.loops.specs.Run.{Run, going, next}
use Rattle.loops.specs.Judge.{judge}
use Rattle.job_file.specs.File.{trailer_of}
use Rattle.job_file.specs.Refusals.{passes1, passes2, passes3, passes4}
use Rattle.job_file.specs.declared.trailer.Trailer.{Trailer}
use Rattle.job_writer.specs.declared.head.JobHead.{JobHead}
use Rattle.job_writer.specs.JobBits.{JobBits, file_centre_bits, job_bits_of}
use Rattle.job_writer.specs.Written.{file_length, written}
use Rattle.job_writer.specs.Refusals.{centres_fit}

-- the same job, to be written in this layout
abbrev pub head_in : ℕ → JobHead → JobHead
head_in layout h = record { rows = h.rows; bodies = h.bodies; limit = h.limit; mode = h.mode; layout = layout; linear = h.linear; angular = h.angular }

abbrev pub in_layout : ℕ → JobBits → JobBits
in_layout layout job = record { head = head_in layout job.head; numbers = job.numbers; words = job.words; masses = job.masses; centres = job.centres }

-- how long the converted file is
abbrev pub converted_length : Trailer → ℕ → ℕ
converted_length t layout = file_length t.rows t.bodies layout

-- 3: the layout is known, and the output, of so many bytes, has the length that the counts and the layout call for
unfoldable pub output_fits : Trailer → ℕ → ℕ → Bool
output_fits t layout out = leb layout 1 && eqb out (converted_length t layout)

-- in their order: 4 and 24 last
abbrev pub last_tests : List ℕ → ℕ → List (ℕ × Bool)
last_tests file layout = (4, passes4 file) ∷ (24, centres_fit (file_centre_bits file) layout) ∷ []

abbrev pub tests : List ℕ → ℕ → ℕ → List (ℕ × Bool)
tests file layout out = (1, passes1 file) ∷ (2, passes2 file) ∷ (3, passes3 file && output_fits (trailer_of file) layout out) ∷ last_tests file layout

-- the converted file, or the number of the refusal
unfoldable pub converted_of : List ℕ → ℕ → ℕ → Run (List ℕ) ℕ
converted_of file layout out = next (judge (tests file layout out)) (λ _. going (written (in_layout layout (job_bits_of file))))
