-- Where the numbers of a row or mass stand in the lists of a job, and that a file's refusal 4 is the table's. Assumes nothing.
use Prim.Native.Nat.{ℕ, ◌+◌, ◌*◌, ◌/◌, ◌%◌, ◌<◌}
use mathlib.Core.Path.{◌≡◌, sym, ap, ◌∙◌}
use mathlib.Core.List.{List}
use native.Mathlib.Nat.{add-zero}
use native.Mathlib.Omega.{arith}
use lib.ListN.{get_or}
use lib.Ieee.{nan}
use Rattle.loops.specs.Tabulate.{tabulate}
use Rattle.loops.proofs.Every.{every_same}
use Rattle.loops.proofs.Tabulate.{get_d_tabulate}
use Rattle.kapitsa_joint.specs.Row.{row_of}
use Rattle.kapitsa_joint.specs.Row as row
use Rattle.kapitsa_joint.specs.Table.{table_of}
use Rattle.joint_refusals.specs.Refusals.{words_fit_of}
use Rattle.joint_refusals.specs.Refusals as table
use Rattle.job_file.specs.File.{trailer_of, row_number, row_word, row_words, mass_number, centre_number, section_numbers, section_words, section_masses, section_centres}
use Rattle.job_file.specs.Refusals.{keys_fit, passes4}
use Rattle.job_file.specs.Job.{file_numbers, file_words, file_masses}

-- element j of part i of a list in parts of n
part_at : {X : Type 0} (f : ℕ → ℕ → X) (d : X) (n i j count : ℕ) → (n * i + j) / n ≡ i → (n * i + j) % n ≡ j → n * i + j < n * count → get_or (tabulate (λ k. f (k / n) (k % n)) (n * count)) (n * i + j) d ≡ f i j
part_at f d n i j count p q h = get_d_tabulate _ (n * count) (n * i + j) d h ∙ ap (λ a. f a ((n * i + j) % n)) p ∙ ap (f i) q

module _ (file : List ℕ) (offset : ℕ) where
  pub number_at : (rows i j : ℕ) → i < rows → j < 27 → get_or (section_numbers file offset rows) (27 * i + j) nan ≡ row_number file offset i j
  unfolding section_numbers
  number_at rows i j h g = part_at (row_number file offset) nan 27 i j rows (omega arith) (omega arith) (omega arith)

  pub word_at : (rows i j : ℕ) → i < rows → j < 8 → get_or (section_words file offset rows) (8 * i + j) 0 ≡ row_word file offset i j
  unfolding section_words
  word_at rows i j h g = part_at (row_word file offset) 0 8 i j rows (omega arith) (omega arith) (omega arith)

  pub mass_at : (spare bodies b j : ℕ) → b < bodies → j < 10 → get_or (section_masses file offset spare bodies) (10 * b + j) nan ≡ mass_number file offset spare b j
  unfolding section_masses
  mass_at spare bodies b j h g = part_at (mass_number file offset spare) nan 10 b j bodies (omega arith) (omega arith) (omega arith)

  pub centre_at : (spare bodies b j : ℕ) → b < bodies → j < 3 → get_or (section_centres file offset spare bodies) (3 * b + j) nan ≡ centre_number file offset spare b j
  unfolding section_centres
  centre_at spare bodies b j h g = part_at (centre_number file offset spare) nan 3 b j bodies (omega arith) (omega arith) (omega arith)

  -- the words of row i
  pub words_at : (rows i : ℕ) → i < rows → row.words_of (section_words file offset rows) (8 * i) ≡ row_words file offset i
  unfolding row.words_of row_words
  words_at rows i h =
      let first : get_or (section_words file offset rows) (8 * i) 0 ≡ row_word file offset i 0 = ap (λ k. get_or (section_words file offset rows) k 0) (sym (add-zero (8 * i))) ∙ word_at rows i 0 h (omega arith) in
      rw (first, word_at rows i 1 h (omega arith), word_at rows i 2 h (omega arith), word_at rows i 3 h (omega arith), word_at rows i 4 h (omega arith), word_at rows i 5 h (omega arith), word_at rows i 6 h (omega arith), word_at rows i 7 h (omega arith))

-- the file passes 4 exactly where the table that it is read into does
pub four_same : (file : List ℕ) → let t = trailer_of file in passes4 file ≡ table.passes4 (table_of t.rows t.bodies (file_numbers file) (file_words file) (file_masses file))
unfolding passes4 keys_fit table.passes4 row_of
four_same file = every_same _ _ (trailer_of file).rows (λ i h. ap words_fit_of (sym (words_at file (trailer_of file).row_offset (trailer_of file).rows i h)))
