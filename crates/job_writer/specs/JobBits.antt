-- A job with its numbers by their 64 bits, so that NaN payloads count, and the one that a file holds.
use Rattle.std.specs.Prelude.{ℕ, ◌*◌, ◌/◌, ◌%◌, List}
use Rattle.loops.specs.Tabulate.{tabulate}
use Rattle.little_endian.specs.Words.{word_at}
use Rattle.job_file.specs.Layout.{trailer_at, linear_place, angular_place}
use Rattle.job_file.specs.File.{trailer_of, row_bits, mass_bits, centre_bits}
use Rattle.job_file.specs.Job.{file_words}
use Rattle.job_writer.specs.declared.head.JobHead.{JobHead}

-- the head has counts, limit, mode, layout and the two tolerances; 27 numbers and 8 words a row, 10 mass numbers and 3 of the centre a body
pub record JobBits : Type 0 where
  pub head : JobHead
  pub numbers : List ℕ
  pub words : List ℕ
  pub masses : List ℕ
  pub centres : List ℕ

-- ---- the sections of a file, as job_file's File has them in doubles

unfoldable pub section_number_bits : List ℕ → ℕ → ℕ → List ℕ
section_number_bits file offset rows = tabulate (λ k. row_bits file offset (k / 27) (k % 27)) (27 * rows)

unfoldable pub section_mass_bits : List ℕ → ℕ → ℕ → ℕ → List ℕ
section_mass_bits file offset spare bodies = tabulate (λ k. mass_bits file offset spare (k / 10) (k % 10)) (10 * bodies)

unfoldable pub section_centre_bits : List ℕ → ℕ → ℕ → ℕ → List ℕ
section_centre_bits file offset spare bodies = tabulate (λ k. centre_bits file offset spare (k / 3) (k % 3)) (3 * bodies)

-- ---- the job of a file: its spare is its layout

unfoldable pub head_of : List ℕ → JobHead
head_of file =
    let t = trailer_of file in
    record {
      rows = t.rows;
      bodies = t.bodies;
      limit = t.limit;
      mode = t.mode;
      layout = t.spare;
      linear = word_at file (linear_place (trailer_at file));
      angular = word_at file (angular_place (trailer_at file));
    }

abbrev pub file_number_bits : List ℕ → List ℕ
file_number_bits file = section_number_bits file (trailer_of file).row_offset (trailer_of file).rows

abbrev pub file_mass_bits : List ℕ → List ℕ
file_mass_bits file = section_mass_bits file (trailer_of file).mass_offset (trailer_of file).spare (trailer_of file).bodies

abbrev pub file_centre_bits : List ℕ → List ℕ
file_centre_bits file = section_centre_bits file (trailer_of file).mass_offset (trailer_of file).spare (trailer_of file).bodies

unfoldable pub job_bits_of : List ℕ → JobBits
job_bits_of file = record { head = head_of file; numbers = file_number_bits file; words = file_words file; masses = file_mass_bits file; centres = file_centre_bits file }
