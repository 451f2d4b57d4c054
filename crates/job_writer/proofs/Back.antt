-- A written file reads back as its job: its trailer (`trailer_back`) and all numbers by their bits (`written_back`). So two jobs have equal bytes exactly where they are equal: `written_iff`. Assumes nothing.
use Prim.Native.Nat.{ℕ, zero, suc, ◌+◌, ◌*◌, ◌/◌, ◌%◌, ◌<◌, ◌≤◌}
use mathlib.Core.Path.{◌≡◌, refl, sym, ap, ◌∙◌}
use mathlib.Core.Bool.{cond}
use mathlib.Core.List.{List}
use mathlib.Core.Logic.{◌↔◌}
use native.Mathlib.Omega.{arith}
use borrow.Author.Tests.{eq-eqb, ne_eqb}
use lib.Dec.{eqb}
use lib.ListN.{length, get_or}
use lib.Ieee.{binary64, of_bits}
use Rattle.loops.specs.Tabulate.{tabulate}
use Rattle.loops.proofs.Tabulate.{tabulated}
use Rattle.little_endian.specs.Words.{word_at, double_at}
use Rattle.job_file.specs.Layout.{mass_bytes, centre_place, trailer_at, linear_place, angular_place}
use Rattle.job_file.specs.File.{trailer_of, row_bits, row_word, mass_bits, centre_bits, section_words}
use Rattle.job_file.specs.declared.trailer.Trailer.{Trailer}
use Rattle.job_file.proofs.Masses.{masses_most}
use Rattle.job_writer.specs.declared.head.JobHead.{JobHead}
use Rattle.job_writer.specs.Bytes.{doubles}
use Rattle.job_writer.specs.JobBits.{JobBits, head_of, section_number_bits, section_mass_bits, section_centre_bits, file_number_bits, file_mass_bits, file_centre_bits, job_bits_of}
use Rattle.job_writer.specs.Written.{written_row, written_mass, written}
use Rattle.job_writer.specs.Fits.{Fits}
use Rattle.job_writer.proofs.Stands.{stands_left, stands_next, length_doubles, read_half, read_word, read_doubles, read_halves}
use Rattle.job_writer.proofs.Places.{length_written, row_stands, mass_stands, trailer_stands, rows_stand, bodies_stand, limit_stands, mode_stands, row_offset_stands, mass_offset_stands, linear_stands, angular_stands, length_stands, spare_stands}

-- a list of n parts of w numbers by its parts
by_parts : (g : ℕ → ℕ → ℕ) (l : List ℕ) (w n : ℕ) → ((k : ℕ) → k < w * n → (k / w < n) × (k % w < w) × (w * (k / w) + k % w ≡ k)) → length l ≡ w * n
    → ((i j : ℕ) → i < n → j < w → g i j ≡ get_or l (w * i + j) 0) → tabulate (λ k. g (k / w) (k % w)) (w * n) ≡ l
by_parts g l w n split e back =
    sym (tabulated 0 (λ k. g (k / w) (k % w)) (w * n) l e (λ k p. let (x, y, z) = split k p in ap (λ m. get_or l m 0) (sym z) ∙ sym (back (k / w) (k % w) x y)))

module _ (job : JobBits) (f : Fits job) where
  abbrev h : JobHead
  h = job.head

  abbrev file : List ℕ
  file = written job

  -- no file is longer than 38,448 bytes
  pub written_short : length file ≤ 38448
  written_short = let r = f.few_rows in let b = f.few_bodies in let m = masses_most h.layout h.bodies f.layout_known in let l = length_written job in omega arith

  -- the trailer, as the reader's definition has it
  abbrev pub trailer_written : Trailer
  trailer_written = record {
    rows = h.rows;
    bodies = h.bodies;
    limit = h.limit;
    mode = h.mode;
    row_offset = 0;
    mass_offset = 248 * h.rows;
    tolerance = record { linear_m = of_bits binary64 h.linear; angular_rad = of_bits binary64 h.angular };
    file_length = length file;
    spare = h.layout;
  }

  linear_back : word_at file (linear_place (trailer_at file)) ≡ h.linear
  linear_back = read_word _ f.in_range_lem.linear (linear_stands h (trailer_stands job))

  angular_back : word_at file (angular_place (trailer_at file)) ≡ h.angular
  angular_back = read_word _ f.in_range_lem.angular (angular_stands h (trailer_stands job))

  pub trailer_back : trailer_of file ≡ trailer_written
  unfolding trailer_of double_at
  trailer_back =
      let t = trailer_stands job in
      let l = length_written job in
      let s = written_short in
      let r = f.few_rows in
      let b = f.few_bodies in
      let m = f.mode_known in
      let u = f.layout_known in
      rw (
        read_half h.rows (omega arith) (rows_stand h t),
        read_half h.bodies (omega arith) (bodies_stand h t),
        read_half h.limit f.in_range_lem.limit (limit_stands h t),
        read_half h.mode (omega arith) (mode_stands h t),
        read_half 0 (omega arith) (row_offset_stands h t),
        read_half (248 * h.rows) (omega arith) (mass_offset_stands h t),
        linear_back,
        angular_back,
        read_half _ (omega arith) (length_stands h t) ∙ sym l,
        read_half h.layout (omega arith) (spare_stands h t),
      )

  -- ---- one number

  number_back : (i j : ℕ) → i < h.rows → j < 27 → row_bits file 0 i j ≡ get_or job.numbers (27 * i + j) 0
  unfolding written_row row_bits
  number_back i j p q = let l = f.numbers_long in read_doubles job.numbers (27 * i) 27 j q (f.in_range_lem.numbers.below _ (omega arith)) (stands_left _ (row_stands job i p))

  word_back : (i j : ℕ) → i < h.rows → j < 8 → row_word file 0 i j ≡ get_or job.words (8 * i + j) 0
  unfolding written_row row_word
  word_back i j p q =
      let l = f.words_long in
      read_halves job.words (8 * i) 8 j q (f.in_range_lem.words.below _ (omega arith))
      (stands_next (doubles job.numbers (27 * i) 27) 216 (0 + 248 * i + 216) (length_doubles job.numbers (27 * i) 27) refl (row_stands job i p))

  mass_back : (b j : ℕ) → b < h.bodies → j < 10 → mass_bits file (248 * h.rows) h.layout b j ≡ get_or job.masses (10 * b + j) 0
  unfolding written_mass mass_bits
  mass_back b j p q = let l = f.masses_long in read_doubles job.masses (10 * b) 10 j q (f.in_range_lem.masses.below _ (omega arith)) (stands_left _ (mass_stands job b p))

  -- of a file with centres
  centre_new : h.layout ≡ 1 → (b j : ℕ) → b < h.bodies → j < 3 → word_at file (centre_place (248 * h.rows) b j) ≡ get_or job.centres (3 * b + j) 0
  unfolding written_mass
  centre_new e b j p q =
      let l = f.centres_long in
      let place : centre_place (248 * h.rows) b j ≡ 248 * h.rows + mass_bytes h.layout * b + 80 + 8 * j = rw e (omega arith) in
      ap (word_at file) place
      ∙ read_doubles job.centres (3 * b) (3 * h.layout) j (rw e q) (f.in_range_lem.centres.below _ (omega arith))
      (stands_next (doubles job.masses (10 * b) 10) 80 (248 * h.rows + mass_bytes h.layout * b + 80) (length_doubles job.masses (10 * b) 10) refl (mass_stands job b p))

  centre_back : (b j : ℕ) → b < h.bodies → j < 3 → centre_bits file (248 * h.rows) h.layout b j ≡ get_or job.centres (3 * b + j) 0
  unfolding centre_bits
  centre_back b j p q = go h.layout refl
    where
      go : (l : ℕ) → h.layout ≡ l → cond (eqb h.layout 1) (word_at file (centre_place (248 * h.rows) b j)) 0 ≡ get_or job.centres (3 * b + j) 0
      go zero e = rw (ne_eqb h.layout 1 (omega arith)) (let l = f.centres_long in sym (f.old_centres e (3 * b + j) (omega arith)))
      go (suc zero) e = rw (eq-eqb h.layout 1 e) (centre_new e b j p q)
      go (suc (suc n)) e = absurd (let k = f.layout_known in omega arith)

  -- ---- the lists

  pub head_back : head_of file ≡ h
  unfolding head_of
  head_back = rw (trailer_back, linear_back, angular_back)

  pub numbers_back : file_number_bits file ≡ job.numbers
  unfolding section_number_bits
  numbers_back = rw trailer_back (by_parts (row_bits file 0) job.numbers 27 h.rows (λ k p. (omega arith, omega arith, omega arith)) f.numbers_long number_back)

  pub words_back : section_words file 0 h.rows ≡ job.words
  unfolding section_words
  words_back = by_parts (row_word file 0) job.words 8 h.rows (λ k p. (omega arith, omega arith, omega arith)) f.words_long word_back

  pub masses_back : file_mass_bits file ≡ job.masses
  unfolding section_mass_bits
  masses_back = rw trailer_back (by_parts (mass_bits file (248 * h.rows) h.layout) job.masses 10 h.bodies (λ k p. (omega arith, omega arith, omega arith)) f.masses_long mass_back)

  pub centres_back : file_centre_bits file ≡ job.centres
  unfolding section_centre_bits
  centres_back = rw trailer_back (by_parts (centre_bits file (248 * h.rows) h.layout) job.centres 3 h.bodies (λ k p. (omega arith, omega arith, omega arith)) f.centres_long centre_back)

  pub file_words_back : section_words file (trailer_of file).row_offset (trailer_of file).rows ≡ job.words
  file_words_back = rw trailer_back words_back

  -- "a written file reads back as its job"
  pub written_back : job_bits_of file ≡ job
  unfolding job_bits_of
  written_back i = record { head = head_back i; numbers = numbers_back i; words = file_words_back i; masses = masses_back i; centres = centres_back i }

-- "two jobs have equal bytes exactly when their layouts agree and all their numbers have equal bits"
pub written_iff : (a b : JobBits) → Fits a → Fits b → (written a ≡ written b) ↔ (a ≡ b)
written_iff a b f g = (λ e. sym (written_back a f) ∙ ap job_bits_of e ∙ written_back b g, ap written)
