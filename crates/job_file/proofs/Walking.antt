-- A walk of the reader over all rows, as a loop makes it: what is read before a row, what comes after it, and that at the end the lists are the section's. Assumes nothing.
use Prim.Native.Nat.{ℕ, suc, ◌+◌, ◌*◌, ◌/◌, ◌%◌, ◌<◌, ◌≤◌}
use mathlib.Core.Path.{◌≡◌, refl, sym, ap, subst, ◌∙◌}
use mathlib.Core.Bool.{Bool, true, false, ◌&&◌}
use mathlib.Core.List.{List}
use native.Mathlib.Omega.{arith}
use lib.Ieee.{Float, nan}
use Rattle.loops.specs.Run.{check}
use Rattle.loops.specs.Every.{every}
use Rattle.loops.proofs.Fill.{Fills}
use Rattle.joint_refusals.specs.Refusals.{words_fit_of}
use Rattle.job_file.specs.File.{row_number, row_word, row_words, written, row_numbers_over, row_words_over, section_numbers, section_words}
use Rattle.job_file.specs.Refusals.{keys_fit}
use Rattle.job_file.proofs.Counted.{filled_count}
use Rattle.job_file.proofs.Written.{fills_row}

-- a list in parts of c: where the parts below i are read and part i is written, those below i + 1 are
part_next : {X : Type 0} {d : X} (h : ℕ → ℕ → X) (c count i : ℕ) {l l' : List X} → c * i + c ≡ c * (i + 1) → c * i + c ≤ c * count → ((k : ℕ) → k < c → (c * i + k) / c ≡ i) → ((k : ℕ) → k < c → (c * i + k) % c ≡ k)
    → Fills d (λ k. h (k / c) (k % c)) (c * count) (c * i) l → l' ≡ written (h i) (c * i) c l → Fills d (λ k. h (k / c) (k % c)) (c * count) (c * (i + 1)) l'
part_next {X} {d} h c count i {l} next room p q read e =
    rw e (subst (λ m. Fills d (λ k. h (k / c) (k % c)) (c * count) m (written (h i) (c * i) c l)) next (fills_row (h i) c read room (λ k own. sym (ap (λ a. h a ((c * i + k) % c)) (p k own) ∙ ap (h i) (q k own)))))

module _ (file : List ℕ) (offset rows : ℕ) where
  -- so many rows are read
  abbrev pub NumbersRead : ℕ → List Float → Type 0
  NumbersRead row l = Fills nan (λ k. row_number file offset (k / 27) (k % 27)) (27 * rows) (27 * row) l

  abbrev pub WordsRead : ℕ → List ℕ → Type 0
  WordsRead row l = Fills 0 (λ k. row_word file offset (k / 8) (k % 8)) (8 * rows) (8 * row) l

  -- one more row is read
  pub numbers_next : (row : ℕ) {l l' : List Float} → row < rows → NumbersRead row l → l' ≡ row_numbers_over file offset row l → NumbersRead (row + 1) l'
  numbers_next row b = part_next (row_number file offset) 27 rows row (omega arith) (omega arith) (λ k own. omega arith) (λ k own. omega arith)

  pub words_next : (row : ℕ) {l l' : List ℕ} → row < rows → WordsRead row l → l' ≡ row_words_over file offset row l → WordsRead (row + 1) l'
  words_next row b = part_next (row_word file offset) 8 rows row (omega arith) (omega arith) (λ k own. omega arith) (λ k own. omega arith)

  pub all_read : (row : ℕ) {xs : List Float} {ys : List ℕ} → rows ≤ row → NumbersRead row xs → WordsRead row ys → (xs ≡ section_numbers file offset rows) × (ys ≡ section_words file offset rows)
  unfolding section_numbers section_words
  all_read row b p q = (let end : 27 * rows ≤ 27 * row = omega arith in filled_count p end (omega arith), let end : 8 * rows ≤ 8 * row = omega arith in filled_count q end (omega arith))

-- ---- refusal 4, row by row

module _ (file : List ℕ) (offset : ℕ) where
  pub keys_none : true ≡ keys_fit file offset 0
  unfolding keys_fit every
  keys_none = refl

  pub keys_next : (i : ℕ) {b : Bool} → b ≡ words_fit_of (row_words file offset i) → (keys_fit file offset i && b) ≡ keys_fit file offset (i + 1)
  unfolding keys_fit every check
  keys_next i {b} e = let next : suc i ≡ i + 1 = omega arith in and_check (keys_fit file offset i) b ∙ ap (λ b. check (keys_fit file offset i) b false) e ∙ ap (keys_fit file offset) next
    where
      and_check : (a b : Bool) → (a && b) ≡ check a b false
      and_check true b = refl
      and_check false b = refl
