-- The layout that a word names, as the code finds it. Assumes nothing.
use Prim.Native.Nat.{ℕ}
use mathlib.Core.Path.{◌≡◌, sym, ◌∙◌}
use mathlib.Core.Bool.{Bool, true, false, ◌&&◌}
use mathlib.Core.List.{List}
use mathlib.Core.Logic.{◌≢◌}
use lib.Dec.{eqb}
use lib.ListN.{length, get_or}
use borrow.Author.Tests.{eq-eqb, ne_eqb}
use Rattle.job_converter.specs.Program.{is_word, layout_named}

module _ (word : List ℕ) where
  module _ (a b c : ℕ) where
    pub word_other : length word ≢ 3 → false ≡ is_word word a b c
    unfolding is_word
    word_other h = rw (ne_eqb (length word) 3 h)

    pub word_three : length word ≡ 3 → ((eqb (get_or word 0 0) a && eqb (get_or word 1 0) b) && eqb (get_or word 2 0) c) ≡ is_word word a b c
    unfolding is_word
    word_three h = rw (eq-eqb (length word) 3 h)

  module _ {old : Bool} (o : old ≡ is_word word 111 108 100) where
    pub named_old : old ≡ true → 0 ≡ layout_named word
    unfolding layout_named
    named_old h = rw (sym o ∙ h)

    module _ (h : old ≡ false) {new : Bool} (n : new ≡ is_word word 110 101 119) where
      pub named_new : new ≡ true → 1 ≡ layout_named word
      unfolding layout_named
      named_new k = rw (sym o ∙ h, sym n ∙ k)

      pub named_none : new ≡ false → 2 ≡ layout_named word
      unfolding layout_named
      named_none k = rw (sym o ∙ h, sym n ∙ k)
