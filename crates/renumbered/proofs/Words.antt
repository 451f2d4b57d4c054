-- The words of rows whose bodies stand under new numbers: two of each eight are others. Assumes nothing.
use Prim.Native.Nat.{ℕ, ◌+◌, ◌*◌, ◌%◌, ◌<◌}
use mathlib.Core.Path.{◌≡◌, refl, ap, ◌∙◌}
use mathlib.Core.Bool.{◌||◌, cond}
use mathlib.Core.List.{List}
use native.Mathlib.Omega.{arith}
use lib.Dec.{eqb}
use lib.ListN.{length, get_or}
use lib.Ieee.{Float}
use Rattle.loops.proofs.Tabulate.{length_tabulate, get_d_tabulate}
use Rattle.kapitsa_joint.specs.Row.{words_of, row_of}
use Rattle.renumbered.specs.Renumber.{bodies_by, renumbered_row}
use Rattle.renumbered.specs.Lists.{renumbered_words}

module _ (p : ℕ → ℕ) (l : List ℕ) where
  pub words_kept : length (renumbered_words p l) ≡ length l
  unfolding renumbered_words
  words_kept = length_tabulate _ (length l)

  -- word r of a row
  pub word_renumbered : (r k : ℕ) → k < length l → k % 8 ≡ r → get_or (renumbered_words p l) k 0 ≡ cond (eqb r 2 || eqb r 3) (p (get_or l k 0)) (get_or l k 0)
  unfolding renumbered_words
  word_renumbered r k h m =
      get_d_tabulate (λ k. cond (eqb (k % 8) 2 || eqb (k % 8) 3) (p (get_or l k 0)) (get_or l k 0)) (length l) k 0 h ∙ ap (λ (m : ℕ). cond (eqb m 2 || eqb m 3) (p (get_or l k 0)) (get_or l k 0)) m

  module _ (i rows : ℕ) (h : i < rows) (long : length l ≡ 8 * rows) where
    word_at : (r k : ℕ) → r < 8 → k ≡ 8 * i + r → get_or (renumbered_words p l) k 0 ≡ cond (eqb r 2 || eqb r 3) (p (get_or l k 0)) (get_or l k 0)
    word_at r k b e = word_renumbered r k (omega arith) (omega arith)

    words_renumbered : words_of (renumbered_words p l) (8 * i) ≡ bodies_by p (words_of l (8 * i))
    unfolding words_of bodies_by
    words_renumbered = rw (word_at 0 (8 * i) (omega arith) (omega arith), word_at 1 (8 * i + 1) (omega arith) refl, word_at 2 (8 * i + 2) (omega arith) refl, word_at 3 (8 * i + 3) (omega arith) refl, word_at 4 (8 * i + 4) (omega arith) refl, word_at 5 (8 * i + 5) (omega arith) refl, word_at 6 (8 * i + 6) (omega arith) refl, word_at 7 (8 * i + 7) (omega arith) refl)

    pub row_renumbered : (numbers : List Float) → row_of numbers (renumbered_words p l) i ≡ renumbered_row p (row_of numbers l i)
    unfolding row_of renumbered_row
    row_renumbered numbers = rw words_renumbered
