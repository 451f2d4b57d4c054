-- The ways through the converter's tests, as the code takes them. Assumes nothing.
use Prim.Native.Nat.{ℕ, ◌<◌, ◌≤◌}
use mathlib.Core.Path.{◌≡◌, refl, sym, ap, ◌∙◌}
use mathlib.Core.Bool.{Bool, true, false, ◌&&◌}
use mathlib.Core.List.{List, [], ◌∷◌}
use lib.Dec.{leb, eqb}
use borrow.Author.Tests.{le-leb, lt-leb, eq-eqb, leb-true, eqb-true}
use Rattle.loops.specs.Run.{Run, going, ended, on, next, check}
use Rattle.loops.specs.Judge.{judge, test}
use Rattle.loops.proofs.Both.{both}
use Rattle.job_file.specs.File.{trailer_of}
use Rattle.job_file.specs.Refusals.{keys_fit, passes4}
use Rattle.job_file.specs.Job.{answer_of, opened_of}
use Rattle.job_file.specs.declared.trailer.Trailer.{Trailer}
use Rattle.job_file.proofs.Judgement.{passed}
use Rattle.job_writer.specs.JobBits.{job_bits_of}
use Rattle.job_writer.specs.Written.{written}
use Rattle.job_converter.specs.Opened.{Opened}
use Rattle.job_converter.specs.Converted.{in_layout, converted_length, output_fits, last_tests, converted_of}

-- ---- 3 of the output

module _ (t : Trailer) (layout out : ℕ) where
  pub output_unknown : 1 < layout → false ≡ output_fits t layout out
  unfolding output_fits
  output_unknown h = rw (lt-leb layout 1 h)

  pub output_length : layout ≤ 1 → eqb out (converted_length t layout) ≡ output_fits t layout out
  unfolding output_fits
  output_length h = rw (le-leb layout 1 h)

  pub output_known : output_fits t layout out ≡ true → (layout ≤ 1) × (out ≡ converted_length t layout)
  unfolding output_fits
  output_known h = let (l, e) = both (leb layout 1) (eqb out (converted_length t layout)) h in (leb-true _ _ l, eqb-true _ _ e)

-- an output of just this length
pub output_right : (t : Trailer) (layout : ℕ) → layout ≤ 1 → output_fits t layout (converted_length t layout) ≡ true
output_right t layout h = sym (output_length t layout (converted_length t layout) h) ∙ eq-eqb (converted_length t layout) (converted_length t layout) refl

-- as the program has it, by the trailer of the file
pub output_printed : {file : List ℕ} {t : Trailer} → Opened file t → (layout : ℕ) → layout ≤ 1 → output_fits t layout (converted_length (trailer_of file) layout) ≡ true
output_printed {file} {t} o layout h = ap (λ u. output_fits t layout (converted_length u layout)) (sym o.same) ∙ output_right t layout h

-- ---- 4 and 24

module _ (d e : Bool) where
  abbrev two : Run Unit ℕ
  two = judge ((4, d) ∷ (24, e) ∷ [])

  pub last_4 : d ≡ false → ended 4 ≡ two
  unfolding judge test check on
  last_4 p = rw p

  pub last_24 : d ≡ true → e ≡ false → ended 24 ≡ two
  unfolding judge test check on
  last_24 p q = rw (p, q)

  pub last_none : d ≡ true → e ≡ true → going tt ≡ two
  unfolding judge test check on
  last_none p q = rw (p, q)

-- ---- all of them

abbrev five : Bool → Bool → Bool → Bool → Bool → Bool → List ℕ → Run (List ℕ) ℕ
five a b c o d e file = next (judge ((1, a) ∷ (2, b) ∷ (3, c && o) ∷ (4, d) ∷ (24, e) ∷ [])) (λ _. going file)

early : (t : Trailer) (a b c o d e : Bool) (file : List ℕ) (n : ℕ) → answer_of t ((1, a) ∷ (2, b) ∷ (3, c) ∷ []) ≡ ended n → five a b c o d e file ≡ ended n
unfolding answer_of judge test check on
early t false b c o d e file n h = ap ended (cc)
early t true false c o d e file n h = ap ended (cc)
early t true true false o d e file n h = ap ended (cc)
early t true true true o d e file n h = cc

way_3 : {a b c o : Bool} (d e : Bool) (file : List ℕ) → a ≡ true → b ≡ true → c ≡ true → o ≡ false → five a b c o d e file ≡ ended 3
unfolding judge test check on
way_3 d e file p q r s = rw (p, q, r, s)

-- 1 to 3 have passed
way_two : {a b c o : Bool} (d e : Bool) (file : List ℕ) {r : Run Unit ℕ} → a ≡ true → b ≡ true → c ≡ true → o ≡ true → r ≡ two d e → five a b c o d e file ≡ next r (λ _. going file)
unfolding judge test check on
way_two d e file p q r s l = rw (p, q, r, s, l)

module _ (file : List ℕ) (layout out : ℕ) where
  pub convert_early : {n : ℕ} → ended n ≡ opened_of file → converted_of file layout out ≡ ended n
  unfolding converted_of opened_of
  convert_early {n} o = early _ _ _ _ _ _ _ _ n (sym o)

  module _ {t : Trailer} (o : going t ≡ opened_of file) where
    output_same : output_fits t layout out ≡ output_fits (trailer_of file) layout out
    output_same = ap (λ t. output_fits t layout out) (passed file o refl).same

    pub convert_3 : output_fits t layout out ≡ false → converted_of file layout out ≡ ended 3
    unfolding converted_of
    convert_3 h = let p = passed file o refl in way_3 _ _ _ p.one p.two p.three (sym output_same ∙ h)

    module _ (h : output_fits t layout out ≡ true) where
      pub convert_last : {n : ℕ} → ended n ≡ judge (last_tests file layout) → converted_of file layout out ≡ ended n
      unfolding converted_of on
      convert_last l = let p = passed file o refl in way_two _ _ _ p.one p.two p.three (sym output_same ∙ h) l

      pub convert_going : going tt ≡ judge (last_tests file layout) → converted_of file layout out ≡ going (written (in_layout layout (job_bits_of file)))
      unfolding converted_of on
      convert_going l = let p = passed file o refl in way_two _ _ _ p.one p.two p.three (sym output_same ∙ h) l

-- 4 of an opened file
pub keys_same : {file : List ℕ} {t : Trailer} {p : Bool} → Opened file t → p ≡ keys_fit file t.row_offset t.rows → p ≡ passes4 file
unfolding passes4
keys_same {file} o h = h ∙ ap (λ t. keys_fit file t.row_offset t.rows) o.same
