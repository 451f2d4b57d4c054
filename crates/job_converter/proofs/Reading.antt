-- The job that is read of an opened file is the file's (`job_read`), and the writer's fill takes it (`lent_read`, `room_read`). Assumes nothing.
use Prim.Native.Nat.{ℕ, ◌≤◌}
use mathlib.Core.Path.{◌≡◌, sym, ap, ◌∙◌}
use mathlib.Core.List.{List}
use native.Mathlib.Omega.{arith}
use lib.ListN.{length}
use Rattle.little_endian.specs.Words.{word_at}
use Rattle.listing.specs.Written.{Room}
use Rattle.job_file.specs.Layout.{trailer_at, linear_place, angular_place}
use Rattle.job_file.specs.File.{section_words}
use Rattle.job_file.specs.Job.{file_words}
use Rattle.job_file.specs.declared.trailer.Trailer.{Trailer}
use Rattle.job_writer.specs.declared.head.JobHead.{JobHead}
use Rattle.job_writer.specs.JobBits.{JobBits, head_of, section_number_bits, section_mass_bits, section_centre_bits, file_number_bits, file_mass_bits, file_centre_bits, job_bits_of}
use Rattle.job_writer.specs.Written.{written}
use Rattle.job_writer.specs.Fits.{Lent}
use Rattle.job_writer.proofs.Places.{length_written}
use Rattle.job_converter.specs.Opened.{Opened, BitsRoom}
use Rattle.job_converter.specs.Converted.{head_in, in_layout, converted_length}

module _ {file : List ℕ} {t : Trailer} (o : Opened file t) where
  -- ---- what the parts read

  pub numbers_read : {l : List ℕ} → l ≡ section_number_bits file t.row_offset t.rows → l ≡ file_number_bits file
  numbers_read e = e ∙ ap (λ t. section_number_bits file t.row_offset t.rows) o.same

  pub words_read : {l : List ℕ} → l ≡ section_words file t.row_offset t.rows → l ≡ file_words file
  words_read e = e ∙ ap (λ t. section_words file t.row_offset t.rows) o.same

  pub masses_read : {l : List ℕ} → l ≡ section_mass_bits file t.mass_offset t.spare t.bodies → l ≡ file_mass_bits file
  masses_read e = e ∙ ap (λ t. section_mass_bits file t.mass_offset t.spare t.bodies) o.same

  pub centres_read : {l : List ℕ} → l ≡ section_centre_bits file t.mass_offset t.spare t.bodies → l ≡ file_centre_bits file
  centres_read e = e ∙ ap (λ t. section_centre_bits file t.mass_offset t.spare t.bodies) o.same

  pub head_read : {linear angular : ℕ} (layout : ℕ) → linear ≡ word_at file (linear_place (trailer_at file)) → angular ≡ word_at file (angular_place (trailer_at file))
      → ◌≡◌ {A = JobHead} (record { rows = t.rows; bodies = t.bodies; limit = t.limit; mode = t.mode; layout = layout; linear = linear; angular = angular }) (head_in layout (head_of file))
  unfolding head_of
  head_read layout p q i = record { rows = (o.same i).rows; bodies = (o.same i).bodies; limit = (o.same i).limit; mode = (o.same i).mode; layout = layout; linear = p i; angular = q i }

  -- ---- the whole

  module _ {layout : ℕ} {h : JobHead} (head : h ≡ head_in layout (head_of file)) where
    rows_same : h.rows ≡ t.rows
    unfolding head_of
    rows_same = ap (λ h. h.rows) head ∙ sym (ap (λ t. t.rows) o.same)

    bodies_same : h.bodies ≡ t.bodies
    unfolding head_of
    bodies_same = ap (λ h. h.bodies) head ∙ sym (ap (λ t. t.bodies) o.same)

    layout_same : h.layout ≡ layout
    unfolding head_of
    layout_same = ap (λ h. h.layout) head

    pub lent_read : {n w m c : ℕ} (numbers words masses centres : List ℕ) → layout ≤ 1 → BitsRoom t n w m c → length numbers ≡ n → length words ≡ w → length masses ≡ m → length centres ≡ c → Lent h numbers words masses centres
    lent_read numbers words masses centres k r x y z u =
        record {
          few_rows = rw rows_same o.few_rows;
          few_bodies = rw bodies_same o.few_bodies;
          layout_known = rw layout_same k;
          numbers_long = rw rows_same (x ∙ r.numbers_long);
          words_long = rw rows_same (y ∙ r.words_long);
          masses_long = rw bodies_same (z ∙ r.masses_long);
          centres_long = rw bodies_same (u ∙ r.centres_long);
        }

    pub room_read : (numbers words masses centres out : List ℕ) → converted_length t layout ≤ length out → Room out 0 (written (record { head = h; numbers = numbers; words = words; masses = masses; centres = centres }))
    room_read numbers words masses centres out g =
        let e = length_written (record { head = h; numbers = numbers; words = words; masses = masses; centres = centres }) in
        let s : length (written (record { head = h; numbers = numbers; words = words; masses = masses; centres = centres })) ≡ converted_length t layout = e ∙ rw (rows_same, bodies_same, layout_same) in
        record { fits = omega arith }

    pub job_read : {numbers words masses centres : List ℕ} → numbers ≡ file_number_bits file → words ≡ file_words file → masses ≡ file_mass_bits file → centres ≡ file_centre_bits file
        → ◌≡◌ {A = JobBits} (record { head = h; numbers = numbers; words = words; masses = masses; centres = centres }) (in_layout layout (job_bits_of file))
    unfolding job_bits_of
    job_read x y z u i = record { head = head i; numbers = x i; words = y i; masses = z i; centres = u i }
