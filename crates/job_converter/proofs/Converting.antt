-- The converter writes as the writer does (`convert_writes`), a job already there keeps its layout (`convert_same`), and converting a written file there and back gives it again (`there_and_back`). Assumes nothing.
use Prim.Native.Nat.{ℕ, ◌*◌, ◌≤◌}
use mathlib.Core.Path.{◌≡◌, refl, sym, ap, ◌∙◌}
use mathlib.Core.Bool.{Bool, true, false, ◌&&◌}
use mathlib.Core.List.{List, [], ◌∷◌}
use lib.Dec.{leb, eqb}
use lib.ListN.{length}
use borrow.Author.Tests.{le-leb, eq-eqb}
use Rattle.loops.specs.Run.{going, on, next, check}
use Rattle.loops.specs.Judge.{judge, test, AllPass}
use Rattle.loops.proofs.Loop.{on_going}
use Rattle.loops.proofs.Judge.{judge_going}
use Rattle.loops.proofs.Every.{every_same}
use Rattle.loops.proofs.Tabulate.{length_tabulate}
use Rattle.joint_refusals.specs.Counts.{counts_fit}
use Rattle.joint_refusals.specs.Refusals.{words_fit_of}
use Rattle.job_file.specs.File.{trailer_of, section_words}
use Rattle.job_file.specs.Refusals.{keys_fit, passes1, passes2, passes3, passes4}
use Rattle.job_file.specs.Job.{file_words}
use Rattle.job_file.proofs.Rows.{words_at}
use Rattle.job_writer.specs.JobBits.{JobBits, head_of, section_number_bits, section_mass_bits, section_centre_bits, file_number_bits, file_mass_bits, file_centre_bits, job_bits_of}
use Rattle.job_writer.specs.Written.{file_length, written}
use Rattle.job_writer.specs.Refusals as writer
use Rattle.job_writer.specs.Refusals.{centres_fit, written_of}
use Rattle.job_writer.specs.Fits.{InRange, Fits}
use Rattle.job_writer.proofs.Places.{length_written}
use Rattle.job_writer.proofs.Back.{trailer_back, centres_back, written_back}
use Rattle.job_writer.proofs.Judged.{all_true, written_1, written_2, written_3, written_4}
use Rattle.job_writer.proofs.Passed.{centres_zero, zero_centres}
use Rattle.job_converter.specs.Converted.{in_layout, converted_length, output_fits, tests, converted_of}
use Rattle.job_converter.proofs.Opening.{few_counted}
use Rattle.job_converter.proofs.Ways.{output_right}

-- "(a job already there keeps its layout)"
pub convert_same : (job : JobBits) → in_layout job.head.layout job ≡ job
convert_same job = refl

-- ---- the writer's tests of the job read

module _ (file : List ℕ) (layout out : ℕ) where
  abbrev read : JobBits
  read = in_layout layout (job_bits_of file)

  limits_passed : passes2 file ≡ true → writer.limits_fit read.head ≡ true
  unfolding writer.limits_fit job_bits_of head_of
  limits_passed h = all_true (le-leb _ 128 (few_counted file h).0) (le-leb _ 64 (few_counted file h).1)

  numbers_long : length (file_number_bits file) ≡ 27 * (trailer_of file).rows
  unfolding section_number_bits
  numbers_long = length_tabulate _ _

  words_long : length (file_words file) ≡ 8 * (trailer_of file).rows
  unfolding section_words
  words_long = length_tabulate _ _

  masses_long : length (file_mass_bits file) ≡ 10 * (trailer_of file).bodies
  unfolding section_mass_bits
  masses_long = length_tabulate _ _

  centres_long : length (file_centre_bits file) ≡ 3 * (trailer_of file).bodies
  unfolding section_centre_bits
  centres_long = length_tabulate _ _

  assoc : (a b c : Bool) → (a && (b && c)) ≡ ((a && b) && c)
  assoc true b c = refl
  assoc false b c = refl

  sizes_same : (passes3 file && output_fits (trailer_of file) layout out) ≡ writer.sizes_fit read.head (length read.numbers) (length read.words) (length read.masses) (length read.centres) out
  unfolding passes3 output_fits writer.sizes_fit writer.head_fits writer.lengths_fit job_bits_of head_of
  sizes_same =
      let t = trailer_of file in
      rw (eq-eqb _ _ numbers_long, eq-eqb _ _ words_long, eq-eqb _ _ masses_long, eq-eqb _ _ centres_long) (assoc (counts_fit t.rows t.bodies t.mode) (leb layout 1) (eqb out (converted_length t layout)))

  words_same : passes4 file ≡ writer.words_fit read.words read.head.rows
  unfolding passes4 keys_fit job_bits_of head_of
  words_same = every_same _ _ (trailer_of file).rows (λ i h. ap words_fit_of (sym (words_at file (trailer_of file).row_offset (trailer_of file).rows i h)))

  leading : {a b l x y x' y' : Bool} (z : Bool) (text : List ℕ) → a ≡ true → b ≡ true → l ≡ true → x ≡ x' → y ≡ y'
      → next (judge ((1, a) ∷ (2, b) ∷ (3, x) ∷ (4, y) ∷ (24, z) ∷ [])) (λ _. going text) ≡ next (judge ((2, l) ∷ (3, x') ∷ (4, y') ∷ (24, z) ∷ [])) (λ _. going text)
  unfolding judge test check on
  leading z text p q r s t = rw (p, q, r, s, t)

  -- "writes its job as the writer does": with the writer's refusal too
  pub convert_writes : passes1 file ≡ true → passes2 file ≡ true → converted_of file layout out ≡ written_of read out
  unfolding converted_of written_of job_bits_of
  convert_writes p q = leading _ (written read) p q (limits_passed q) sizes_same words_same

-- ---- written files

module _ (job : JobBits) (f : Fits job) (layout : ℕ) (known : layout ≤ 1) (fit : centres_fit job.centres layout ≡ true) where
  in_layout_lem : InRange (in_layout layout job)
  in_layout_lem = let r = f.in_range_lem in record { limit = r.limit; linear = r.linear; angular = r.angular; numbers = r.numbers; words = r.words; masses = r.masses; centres = r.centres }

  -- 24 lets it through, so it fits in the other layout too
  pub fits_in : Fits (in_layout layout job)
  fits_in = record {
    in_range_lem = in_layout_lem;
    few_rows = f.few_rows;
    few_bodies = f.few_bodies;
    mode_known = f.mode_known;
    layout_known = known;
    numbers_long = f.numbers_long;
    words_long = f.words_long;
    masses_long = f.masses_long;
    centres_long = f.centres_long;
    words_fit_lem = f.words_fit_lem;
    old_centres = centres_zero job.centres layout fit;
  }

  output_passed : output_fits (trailer_of (written job)) layout (file_length job.head.rows job.head.bodies layout) ≡ true
  output_passed = rw (trailer_back job f) (output_right _ layout known)

  -- the converter's file
  pub convert_written : converted_of (written job) layout (file_length job.head.rows job.head.bodies layout) ≡ going (written (in_layout layout job))
  unfolding converted_of AllPass
  convert_written =
      on_going _ _ _ ((judge_going (tests (written job) layout (file_length job.head.rows job.head.bodies layout))).1 (
        written_1 job f,
        (written_2 job f, (all_true (written_3 job f) output_passed, (written_4 job f, (ap (λ c. centres_fit c layout) (centres_back job f) ∙ fit, tt)))),
      ))
      ∙ ap (λ j. going (written (in_layout layout j))) (written_back job f)

-- there, into an output of the right length, and back into one as long as the first file
pub there_and_back : (job : JobBits) → Fits job → (layout : ℕ) → layout ≤ 1 → centres_fit job.centres layout ≡ true
    → let there = written (in_layout layout job) in (converted_of (written job) layout (length there) ≡ going there) × (converted_of there job.head.layout (length (written job)) ≡ going (written job))
there_and_back job f layout known fit = (
  rw (length_written (in_layout layout job)) (convert_written job f layout known fit),
  rw (length_written job) (convert_written (in_layout layout job) (fits_in job f layout known fit) job.head.layout f.layout_known (zero_centres job.centres job.head.layout f.layout_known f.old_centres)),
)
