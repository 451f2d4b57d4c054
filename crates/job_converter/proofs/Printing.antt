-- What the program prints of each way through the tests, and that there is room for it. Assumes nothing.
use Prim.Native.Nat.{ℕ, ◌<◌, ◌≤◌}
use mathlib.Core.Path.{◌≡◌, refl, sym, ap, ◌∙◌}
use mathlib.Core.List.{List, [], ◌∷◌, ◌++◌}
use native.Mathlib.Omega.{arith}
use lib.ListN.{length, length-append}
use Rattle.loops.specs.Run.{going, ended}
use Rattle.loops.proofs.Loop.{on_going, on_ended}
use Rattle.listing.specs.Written.{Room, Wrote}
use Rattle.listing.specs.Digits.{number}
use Rattle.listing.specs.Lines.{newline}
use Rattle.listing.proofs.Length.{number_short}
use Rattle.job_file.specs.File.{trailer_of}
use Rattle.job_file.specs.declared.trailer.Trailer.{Trailer}
use Rattle.job_file.proofs.Masses.{masses_most}
use Rattle.job_writer.specs.JobBits.{head_of, job_bits_of}
use Rattle.job_writer.specs.Written.{written}
use Rattle.job_writer.proofs.Sizes.{wrote_whole}
use Rattle.job_converter.specs.Opened.{Opened}
use Rattle.job_converter.specs.Converted.{in_layout, converted_length, converted_of}
use Rattle.job_converter.specs.Program.{convert_name, refused_line, converted_text}

pub convert_name_lem : 99 ∷ 111 ∷ 110 ∷ 118 ∷ 101 ∷ 114 ∷ 116 ∷ [] ≡ convert_name
unfolding convert_name
convert_name_lem = refl

pub refused_room : (out : List ℕ) (refusal : ℕ) → refusal < 4294967296 → 38448 ≤ length out → Room out 0 (refused_line refusal)
unfolding refused_line convert_name
refused_room out n h l = record { fits = omega (arith, number_short n h, length-append convert_name (number n), length-append (convert_name ++ number n) newline) }

pub converted_short : {file : List ℕ} {t : Trailer} (layout : ℕ) → Opened file t → layout ≤ 1 → converted_length t layout ≤ 38448
converted_short {file} {t} layout o h = let r = o.few_rows in let b = o.few_bodies in let m = masses_most layout t.bodies h in omega arith

-- an output of just this length is all written
pub wrote_converted : {file : List ℕ} {t : Trailer} (layout : ℕ) {out out' : List ℕ} {end : ℕ} → Opened file t → length out ≡ converted_length t layout → Wrote out 0 (written (in_layout layout (job_bits_of file))) out' end → out' ≡ written (in_layout layout (job_bits_of file))
unfolding job_bits_of head_of
wrote_converted {file} {t} layout o l w = wrote_whole (in_layout layout (job_bits_of file)) (l ∙ ap (λ t. converted_length t layout) o.same) w

module _ (file : List ℕ) (layout : ℕ) where
  abbrev pub printed_length : ℕ
  printed_length = converted_length (trailer_of file) layout

  pub printed_refused : {n : ℕ} → converted_of file layout printed_length ≡ ended n → refused_line n ≡ converted_text file layout
  unfolding converted_text
  printed_refused e = sym (on_ended _ _ _ e)

  pub printed_written : {text : List ℕ} → converted_of file layout printed_length ≡ going text → text ≡ converted_text file layout
  unfolding converted_text
  printed_written e = sym (on_going _ _ _ e)
