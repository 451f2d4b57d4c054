-- What stands in the bytes of a job file, at the places of Layout.
use Rattle.std.specs.Prelude.{ℕ, zero, suc, ◌+◌, ◌*◌, ◌/◌, ◌%◌, cond, List, eqb, set, Float}
use Rattle.std.specs.Float.{binary64}
use Rattle.std.specs.Float.Ieee.{of_bits}
use Rattle.loops.specs.Tabulate.{tabulate}
use Rattle.little_endian.specs.Words.{half_at, word_at, double_at}
use Rattle.kapitsa_joint.specs.declared.row.RowWords.{RowWords}
use Rattle.job_file.specs.Layout.{number_place, word_place, mass_place, centre_place, trailer_at, row_count_place, body_count_place, limit_place, mode_place, row_offset_place, mass_offset_place, linear_place, angular_place, file_length_place, spare_place}
use Rattle.job_file.specs.declared.trailer.Trailer.{Trailer}

-- the trailer of a file of 48 bytes and more
unfoldable pub trailer_of : List ℕ → Trailer
trailer_of file =
    let at = trailer_at file in
    record {
      rows = half_at file (row_count_place at);
      bodies = half_at file (body_count_place at);
      limit = half_at file (limit_place at);
      mode = half_at file (mode_place at);
      row_offset = half_at file (row_offset_place at);
      mass_offset = half_at file (mass_offset_place at);
      tolerance = record { linear_m = double_at file (linear_place at); angular_rad = double_at file (angular_place at) };
      file_length = half_at file (file_length_place at);
      spare = half_at file (spare_place at);
    }

-- ---- one row or mass, in a section that begins at `offset`; each number by its 64 bits, and the double that has them

unfoldable pub row_bits : List ℕ → ℕ → ℕ → ℕ → ℕ
row_bits file offset i j = word_at file (number_place offset i j)

unfoldable pub row_number : List ℕ → ℕ → ℕ → ℕ → Float
row_number file offset i j = of_bits binary64 (row_bits file offset i j)

unfoldable pub row_word : List ℕ → ℕ → ℕ → ℕ → ℕ
row_word file offset i j = half_at file (word_place offset i j)

unfoldable pub row_words : List ℕ → ℕ → ℕ → RowWords
row_words file offset i = record {
  key = row_word file offset i 0;
  dimension = row_word file offset i 1;
  body_a = row_word file offset i 2;
  body_b = row_word file offset i 3;
  force_driven = row_word file offset i 4;
  position_enabled = row_word file offset i 5;
  owner = row_word file offset i 6;
  spare = row_word file offset i 7;
}

-- a mass of a file of this spare
unfoldable pub mass_bits : List ℕ → ℕ → ℕ → ℕ → ℕ → ℕ
mass_bits file offset spare b j = word_at file (mass_place offset spare b j)

unfoldable pub mass_number : List ℕ → ℕ → ℕ → ℕ → ℕ → Float
mass_number file offset spare b j = of_bits binary64 (mass_bits file offset spare b j)

-- document 02, d: "0 marks the old one with centres +0.0", whose bits are 0
unfoldable pub centre_bits : List ℕ → ℕ → ℕ → ℕ → ℕ → ℕ
centre_bits file offset spare b j = cond (eqb spare 1) (word_at file (centre_place offset b j)) 0

unfoldable pub centre_number : List ℕ → ℕ → ℕ → ℕ → ℕ → Float
centre_number file offset spare b j = of_bits binary64 (centre_bits file offset spare b j)

-- ---- the lists of a job: 27 numbers and 8 words a row, 10 mass numbers and 3 of the centre a body

unfoldable pub section_numbers : List ℕ → ℕ → ℕ → List Float
section_numbers file offset rows = tabulate (λ k. row_number file offset (k / 27) (k % 27)) (27 * rows)

unfoldable pub section_words : List ℕ → ℕ → ℕ → List ℕ
section_words file offset rows = tabulate (λ k. row_word file offset (k / 8) (k % 8)) (8 * rows)

unfoldable pub section_masses : List ℕ → ℕ → ℕ → ℕ → List Float
section_masses file offset spare bodies = tabulate (λ k. mass_number file offset spare (k / 10) (k % 10)) (10 * bodies)

unfoldable pub section_centres : List ℕ → ℕ → ℕ → ℕ → List Float
section_centres file offset spare bodies = tabulate (λ k. centre_number file offset spare (k / 3) (k % 3)) (3 * bodies)

-- ---- a list of all rows after one row is read into it

-- f 0 .. f (n - 1) written over l from the place `at` on
unfoldable pub written : {X : Type 0} → (ℕ → X) → ℕ → ℕ → List X → List X
written f at zero l = l
written f at (suc n) l = set (written f at n l) (at + n) (f n)

abbrev pub row_numbers_over : List ℕ → ℕ → ℕ → List Float → List Float
row_numbers_over file offset i l = written (row_number file offset i) (27 * i) 27 l

abbrev pub row_words_over : List ℕ → ℕ → ℕ → List ℕ → List ℕ
row_words_over file offset i l = written (row_word file offset i) (8 * i) 8 l
