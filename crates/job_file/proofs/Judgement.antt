-- The ways through the tests 1 to 4, as the code takes them, and what a file that has passed holds. Assumes nothing.
use Prim.Native.Nat.{ℕ, ◌+◌, ◌*◌, ◌-◌, ◌<◌, ◌≤◌}
use mathlib.Core.Path.{◌≡◌, refl, sym, ap, ◌∙◌}
use mathlib.Core.Bool.{Bool, true, false, ◌&&◌}
use mathlib.Core.List.{List, [], ◌∷◌}
use native.Mathlib.Omega.{arith}
use lib.Dec.{leb, eqb}
use lib.ListN.{length}
use borrow.Author.Tests.{le-leb, lt-leb, leb-true}
use Rattle.loops.proofs.Both.{both}
use Rattle.loops.specs.Run.{Run, going, ended, on, check}
use Rattle.loops.specs.Judge.{judge, test}
use Rattle.job_file.specs.Layout.{rows_end, masses_end}
use Rattle.job_file.specs.File.{trailer_of}
use Rattle.job_file.specs.Refusals.{size_fits, limits_fit, apart, ends_fit, sections_fit, trailer_counts_fit, keys_fit, passes1, passes2, passes3, passes4}
use Rattle.job_file.specs.Job.{answer_of, opened_of, judged_of}
use Rattle.job_file.specs.declared.trailer.Trailer.{Trailer}

-- ---- 1 to 3

-- 1 passes no spare over 1
spare_fits : (t : Trailer) (n : ℕ) → size_fits t n ≡ true → t.spare ≤ 1
unfolding size_fits
spare_fits t n h = let (_, s) = both (leb n 65536 && eqb t.file_length n) (leb t.spare 1) h in leb-true _ _ s

pub spare_known : (t : Trailer) (n : ℕ) {p : Bool} → p ≡ size_fits t n → p ≡ true → t.spare ≤ 1
spare_known t n {p} one h = spare_fits t n (sym one ∙ h)

module _ (file : List ℕ) where
  pub opened_short : length file < 48 → ended 1 ≡ opened_of file
  unfolding opened_of answer_of judge test check on passes1
  opened_short h = rw (lt-leb 48 (length file) h)

  module _ (h : 48 ≤ length file) {t : Trailer} (e : t ≡ trailer_of file) {p : Bool} (one : p ≡ size_fits t (length file)) where
    is1 : p ≡ passes1 file
    unfolding passes1
    is1 = rw (le-leb 48 (length file) h) (one ∙ ap (λ t. size_fits t (length file)) e)

    pub opened_1 : p ≡ false → ended 1 ≡ opened_of file
    unfolding opened_of answer_of judge test check on
    opened_1 n = rw (← is1, n)

    module _ (p1 : p ≡ true) {q : Bool} (two : q ≡ sections_fit t (length file - 48)) where
      is2 : q ≡ passes2 file
      unfolding passes2
      is2 = two ∙ ap (λ t. sections_fit t (length file - 48)) e

      pub opened_2 : q ≡ false → ended 2 ≡ opened_of file
      unfolding opened_of answer_of judge test check on
      opened_2 n = rw (← is1, p1, ← is2, n)

      module _ (p2 : q ≡ true) {r : Bool} (three : r ≡ trailer_counts_fit t) where
        is3 : r ≡ passes3 file
        unfolding passes3
        is3 = three ∙ ap trailer_counts_fit e

        pub opened_3 : r ≡ false → ended 3 ≡ opened_of file
        unfolding opened_of answer_of judge test check on
        opened_3 n = rw (← is1, p1, ← is2, p2, ← is3, n)

        pub opened_passed : r ≡ true → going t ≡ opened_of file
        unfolding opened_of answer_of judge test check on
        opened_passed n = rw (← is1, p1, ← is2, p2, ← is3, n, e)

-- ---- where 1 to 3 are judged before more tests

-- what the first three refuse, the longer lists refuse with the same number
refused_longer : (t : Trailer) (a b c d : Bool) (n : ℕ) → answer_of t ((1, a) ∷ (2, b) ∷ (3, c) ∷ []) ≡ ended n → answer_of t ((1, a) ∷ (2, b) ∷ (3, c) ∷ (4, d) ∷ []) ≡ ended n
unfolding answer_of judge test check on
refused_longer t false b c d n h = h
refused_longer t true false c d n h = h
refused_longer t true true false d n h = h
refused_longer t true true true d n h = cc

-- the three have passed, and the answer is the trailer
pub record Three (a b c : Bool) (t u : Trailer) : Type 0 where
  pub one : a ≡ true
  pub two : b ≡ true
  pub three : c ≡ true
  pub same : u ≡ t

three_passed : (t u : Trailer) (a b c : Bool) → answer_of t ((1, a) ∷ (2, b) ∷ (3, c) ∷ []) ≡ going u → Three a b c t u
unfolding answer_of judge test check on
three_passed t u true true true h = record { one = refl; two = refl; three = refl; same = cc }
three_passed t u false b c h = cc
three_passed t u true false c h = cc
three_passed t u true true false h = cc

module _ (file : List ℕ) {r : Run Trailer ℕ} (o : r ≡ opened_of file) where
  pub judged_early : {n : ℕ} → r ≡ ended n → ended n ≡ judged_of file
  unfolding judged_of opened_of
  judged_early {n} e = sym (refused_longer _ _ _ _ _ n (sym o ∙ e))

  module _ {t : Trailer} (e : r ≡ going t) where
    pub passed : Three (passes1 file) (passes2 file) (passes3 file) (trailer_of file) t
    unfolding opened_of
    passed = three_passed _ _ _ _ _ (sym o ∙ e)

    pub spare_passed : t.spare ≤ 1
    unfolding passes1
    spare_passed = rw passed.same (let (_, h) = both (leb 48 (length file)) (size_fits (trailer_of file) (length file)) passed.one in spare_fits (trailer_of file) (length file) h)

    ends : ends_fit (trailer_of file) (length file - 48) ≡ true
    unfolding passes2 sections_fit
    ends = let (_, h) = both (limits_fit (trailer_of file) && apart (trailer_of file)) (ends_fit (trailer_of file) (length file - 48)) passed.two in h

    ends_both : (leb (rows_end (trailer_of file).row_offset (trailer_of file).rows) (length file - 48) ≡ true) × (leb (masses_end (trailer_of file).mass_offset (trailer_of file).spare (trailer_of file).bodies) (length file - 48) ≡ true)
    unfolding ends_fit
    ends_both = both _ _ ends

    -- both sections end within the file
    pub rows_inside : t.row_offset + 248 * t.rows ≤ length file
    rows_inside = rw passed.same (let h : rows_end (trailer_of file).row_offset (trailer_of file).rows ≤ length file - 48 = leb-true _ _ ends_both.0 in omega arith)

    pub masses_inside : masses_end t.mass_offset t.spare t.bodies ≤ length file
    masses_inside = rw passed.same (let h : masses_end (trailer_of file).mass_offset (trailer_of file).spare (trailer_of file).bodies ≤ length file - 48 = leb-true _ _ ends_both.1 in omega arith)

    module _ {p : Bool} (four : p ≡ keys_fit file t.row_offset t.rows) where
      pub is4 : p ≡ passes4 file
      unfolding passes4
      is4 = four ∙ ap (λ t. keys_fit file t.row_offset t.rows) passed.same

      pub judged_4 : p ≡ false → ended 4 ≡ judged_of file
      unfolding judged_of answer_of judge test check on
      judged_4 n = rw (passed.one, passed.two, passed.three, ← is4, n)

      pub judged_passed : p ≡ true → going t ≡ judged_of file
      unfolding judged_of answer_of judge test check on
      judged_passed n = rw (passed.one, passed.two, passed.three, ← is4, n, passed.same)
