-- What is read of bytes is in range, so that a converted file reads back as the job of the file that it is made of (`convert_back`), and two files convert to equal bytes exactly where their jobs are equal (`convert_iff`). Assumes nothing.
use Prim.Native.Nat.{ℕ, ◌+◌, ◌<◌}
use mathlib.Core.Path.{◌≡◌, sym, ap, subst, ◌∙◌}
use mathlib.Core.Bool.{Bool, true, false, cond}
use mathlib.Core.List.{List}
use mathlib.Core.Logic.{◌↔◌}
use native.Mathlib.Omega.{arith}
use lib.Dec.{eqb}
use lib.ListN.{length, get_or}
use Rattle.loops.specs.Run.{going}
use Rattle.loops.specs.Judge.{judge, AllPass}
use Rattle.loops.specs.Tabulate.{tabulate}
use Rattle.loops.proofs.Inverse.{going_inj, next_going}
use Rattle.loops.proofs.Judge.{judge_going}
use Rattle.loops.proofs.Tabulate.{get_d_tabulate, length_tabulate}
use Rattle.little_endian.specs.Words.{half_at, word_at}
use Rattle.job_file.specs.Layout.{centre_place}
use Rattle.job_file.specs.File.{trailer_of, row_bits, row_word, mass_bits, centre_bits, section_words}
use Rattle.job_writer.specs.JobBits.{head_of, section_number_bits, section_mass_bits, section_centre_bits, job_bits_of}
use Rattle.job_writer.specs.Written.{written}
use Rattle.job_writer.specs.Refusals as writer
use Rattle.job_writer.specs.Refusals.{written_of}
use Rattle.job_writer.specs.Fits.{InRange, Fits}
use Rattle.job_writer.proofs.Back.{written_back}
use Rattle.job_writer.proofs.Passed.{passed_fits}
use Rattle.job_converter.specs.Bytes.{Bytes}
use Rattle.job_converter.specs.Converted.{in_layout, tests, converted_of}
use Rattle.job_converter.proofs.Converting.{convert_writes}

module _ {file : List ℕ} (b : Bytes file) where
  half_below : (at : ℕ) → half_at file at < 4294967296
  unfolding half_at
  half_below at = omega (arith, b.below at, b.below (at + 1), b.below (at + 2), b.below (at + 3))

  word_below : (at : ℕ) → word_at file at < 18446744073709551616
  unfolding word_at
  word_below at = omega (arith, half_below at, half_below (at + 4))

  tabulate_below : (bound : ℕ) (g : ℕ → ℕ) (n : ℕ) → ((k : ℕ) → g k < bound) → (k : ℕ) → k < length (tabulate g n) → get_or (tabulate g n) k 0 < bound
  tabulate_below bound g n h k l = let p : k < n = omega (arith, length_tabulate g n) in subst (λ x. x < bound) (sym (get_d_tabulate g n k 0 p)) (h k)

  centre_below : (offset spare i j : ℕ) → centre_bits file offset spare i j < 18446744073709551616
  unfolding centre_bits
  centre_below offset spare i j = go (eqb spare 1)
    where
      go : (c : Bool) → cond c (word_at file (centre_place offset i j)) 0 < 18446744073709551616
      go true = word_below (centre_place offset i j)
      go false = omega arith

  pub read_in_range : (layout : ℕ) → InRange (in_layout layout (job_bits_of file))
  unfolding job_bits_of head_of trailer_of section_number_bits section_words section_mass_bits section_centre_bits row_bits row_word mass_bits
  read_in_range layout = record {
    limit = half_below _;
    linear = word_below _;
    angular = word_below _;
    numbers = record { below = tabulate_below 18446744073709551616 _ _ (λ k. word_below _) };
    words = record { below = tabulate_below 4294967296 _ _ (λ k. half_below _) };
    masses = record { below = tabulate_below 18446744073709551616 _ _ (λ k. word_below _) };
    centres = record { below = tabulate_below 18446744073709551616 _ _ (λ k. centre_below _ _ _ _) };
  }

  module _ (layout out : ℕ) {text : List ℕ} (e : converted_of file layout out ≡ going text) where
    passed_tests : judge (tests file layout out) ≡ going tt
    unfolding converted_of
    passed_tests = let (u, j, _) = (next_going (judge (tests file layout out)) (λ _. going (written (in_layout layout (job_bits_of file)))) text).0 e in j

    as_written : written_of (in_layout layout (job_bits_of file)) out ≡ going text
    unfolding AllPass
    as_written = let (one, (two, _)) = (judge_going (tests file layout out)).0 passed_tests in sym (convert_writes file layout out one two) ∙ e

    pub convert_fits : Fits (in_layout layout (job_bits_of file))
    unfolding written_of
    convert_fits =
        let job = in_layout layout (job_bits_of file) in
        let (u, j, _) = (next_going (judge (writer.tests job out)) (λ _. going (written job)) text).0 as_written in
        passed_fits job out (read_in_range layout) j

    pub convert_text : text ≡ written (in_layout layout (job_bits_of file))
    unfolding converted_of
    convert_text =
        let (u, _, w) = (next_going (judge (tests file layout out)) (λ _. going (written (in_layout layout (job_bits_of file)))) text).0 e in sym (going_inj w)

    pub convert_back : job_bits_of text ≡ in_layout layout (job_bits_of file)
    convert_back = ap job_bits_of convert_text ∙ written_back _ convert_fits

-- "identical jobs": the bytes are equal exactly where the jobs are, whatever the placement of their sections
pub convert_iff : {a b : List ℕ} → Bytes a → Bytes b → (layout m n : ℕ) {x y : List ℕ} → converted_of a layout m ≡ going x → converted_of b layout n ≡ going y → (x ≡ y) ↔ (in_layout layout (job_bits_of a) ≡ in_layout layout (job_bits_of b))
convert_iff p q layout m n e f =
    (λ s. sym (convert_back p layout m e) ∙ ap job_bits_of s ∙ convert_back q layout n f, λ s. convert_text p layout m e ∙ ap written s ∙ sym (convert_text q layout n f))
