-- The ways through `read_job`: what is lent is judged between the trailer and the rows, and a refused call writes nothing. Assumes nothing.
use Prim.Native.Nat.{ℕ, ◌*◌}
use mathlib.Core.Path.{◌≡◌, refl, sym, ap, ◌∙◌}
use mathlib.Core.Bool.{Bool, true, false, ◌&&◌}
use mathlib.Core.List.{List, [], ◌∷◌}
use lib.Dec.{eqb}
use lib.ListN.{length}
use lib.Ieee.{Float}
use borrow.Author.Tests.{eqb-true}
use Rattle.loops.proofs.Both.{both}
use Rattle.loops.specs.Run.{Run, going, ended, on, check}
use Rattle.loops.specs.Judge.{judge, test}
use Rattle.job_file.specs.File.{trailer_of, section_numbers, section_words, section_masses, section_centres}
use Rattle.job_file.specs.Refusals.{lengths_fit, keys_fit}
use Rattle.job_file.specs.Job.{answer_of, opened_of, read_of, lent_after, Reads}
use Rattle.job_file.specs.declared.trailer.Trailer.{Trailer}
use Rattle.job_file.proofs.Judgement.{passed, is4}

refused_lent : (t : Trailer) (a b c e d : Bool) (n : ℕ) → answer_of t ((1, a) ∷ (2, b) ∷ (3, c) ∷ []) ≡ ended n → answer_of t ((1, a) ∷ (2, b) ∷ (3, c && e) ∷ (4, d) ∷ []) ≡ ended n
unfolding answer_of judge test check on
refused_lent t false b c e d n h = h
refused_lent t true false c e d n h = h
refused_lent t true true false e d n h = h
refused_lent t true true true e d n h = cc

-- the lengths that were lent, where they pass
module _ (t : Trailer) (n w m c : ℕ) {p : Bool} (fit : p ≡ lengths_fit t n w m c) (h : p ≡ true) where
  all : lengths_fit t n w m c ≡ true
  all = sym fit ∙ h

  fits : (((eqb n (27 * t.rows) ≡ true) × (eqb w (8 * t.rows) ≡ true)) × (eqb m (10 * t.bodies) ≡ true)) × (eqb c (3 * t.bodies) ≡ true)
  unfolding lengths_fit
  fits =
      let (three, last) = both ((eqb n (27 * t.rows) && eqb w (8 * t.rows)) && eqb m (10 * t.bodies)) (eqb c (3 * t.bodies)) all in
      let (l, r) = both (eqb n (27 * t.rows) && eqb w (8 * t.rows)) (eqb m (10 * t.bodies)) three in
      ((both (eqb n (27 * t.rows)) (eqb w (8 * t.rows)) l, r), last)

  pub numbers_long : n ≡ 27 * t.rows
  numbers_long = eqb-true _ _ fits.0.0.0

  pub words_long : w ≡ 8 * t.rows
  words_long = eqb-true _ _ fits.0.0.1

  pub masses_long : m ≡ 10 * t.bodies
  masses_long = eqb-true _ _ fits.0.1

  pub centres_long : c ≡ 3 * t.bodies
  centres_long = eqb-true _ _ fits.1

module _ (file : List ℕ) (numbers : List Float) (words : List ℕ) (masses centres : List Float) {r : Run Trailer ℕ} (o : r ≡ opened_of file) where
  kept : (n : ℕ) → ended n ≡ read_of file (length numbers) (length words) (length masses) (length centres) → Reads file numbers words masses centres (ended n) numbers words masses centres
  unfolding lent_after
  kept n e = record { answer = e; of_numbers = refl; of_words = refl; of_masses = refl; of_centres = refl }

  pub reads_early : {n : ℕ} → r ≡ ended n → Reads file numbers words masses centres r numbers words masses centres
  unfolding read_of opened_of
  reads_early {n} e = rw e (kept n (sym (refused_lent _ _ _ _ _ _ n (sym o ∙ e))))

  module _ {t : Trailer} (e : r ≡ going t) {q : Bool} (fit : q ≡ lengths_fit t (length numbers) (length words) (length masses) (length centres)) where
    is_fit : q ≡ lengths_fit (trailer_of file) (length numbers) (length words) (length masses) (length centres)
    is_fit = fit ∙ ap (λ t. lengths_fit t (length numbers) (length words) (length masses) (length centres)) (passed file o e).same

    pub reads_3 : q ≡ false → Reads file numbers words masses centres (ended 3) numbers words masses centres
    unfolding read_of answer_of judge test check on
    reads_3 h = kept 3 (rw ((passed file o e).one, (passed file o e).two, (passed file o e).three, ← is_fit, h))

    module _ (h : q ≡ true) {p : Bool} (four : p ≡ keys_fit file t.row_offset t.rows) where
      pub reads_4 : p ≡ false → Reads file numbers words masses centres (ended 4) numbers words masses centres
      unfolding read_of answer_of judge test check on
      reads_4 n = kept 4 (rw ((passed file o e).one, (passed file o e).two, (passed file o e).three, ← is_fit, h, ← is4 file o e four, n))

      pub reads_passed : p ≡ true → {numbers' : List Float} → numbers' ≡ section_numbers file t.row_offset t.rows → {words' : List ℕ} → words' ≡ section_words file t.row_offset t.rows → {masses' : List Float} → masses' ≡ section_masses file t.mass_offset t.spare t.bodies → {centres' : List Float} → centres' ≡ section_centres file t.mass_offset t.spare t.bodies → Reads file numbers words masses centres (going t) numbers' words' masses' centres'
      unfolding read_of answer_of judge test check on lent_after
      reads_passed n x y z u =
          record {
            answer = rw ((passed file o e).one, (passed file o e).two, (passed file o e).three, ← is_fit, h, ← is4 file o e four, n, (passed file o e).same);
            of_numbers = x ∙ ap (λ t. section_numbers file t.row_offset t.rows) (passed file o e).same;
            of_words = y ∙ ap (λ t. section_words file t.row_offset t.rows) (passed file o e).same;
            of_masses = z ∙ ap (λ t. section_masses file t.mass_offset t.spare t.bodies) (passed file o e).same;
            of_centres = u ∙ ap (λ t. section_centres file t.mass_offset t.spare t.bodies) (passed file o e).same;
          }
