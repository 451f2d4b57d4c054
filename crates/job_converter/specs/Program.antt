-- The converter as a program: its one argument is `old` or `new`; it writes the converted file, or one line, `convert` and the number of the refusal.
use Rattle.std.specs.Prelude.{ℕ, Bool, ◌&&◌, cond, List, [], ◌∷◌, ◌++◌, eqb, length, get_or}
use Rattle.loops.specs.Run.{on}
use Rattle.listing.specs.Digits.{number}
use Rattle.listing.specs.Lines.{newline}
use Rattle.job_file.specs.File.{trailer_of}
use Rattle.job_converter.specs.Converted.{converted_length, converted_of}

-- the word of these three bytes
unfoldable pub is_word : List ℕ → ℕ → ℕ → ℕ → Bool
is_word word a b c = eqb (length word) 3 && ((eqb (get_or word 0 0) a && eqb (get_or word 1 0) b) && eqb (get_or word 2 0) c)

-- "old" is layout 0 and "new" is layout 1; another word is the layout word 2, which 3 turns back
unfoldable pub layout_named : List ℕ → ℕ
layout_named word = cond (is_word word 111 108 100) 0 (cond (is_word word 110 101 119) 1 2)

-- "convert"
unfoldable pub convert_name : List ℕ
convert_name = 99 ∷ 111 ∷ 110 ∷ 118 ∷ 101 ∷ 114 ∷ 116 ∷ []

unfoldable pub refused_line : ℕ → List ℕ
refused_line refusal = convert_name ++ number refusal ++ newline

-- its output has always the right length
unfoldable pub converted_text : List ℕ → ℕ → List ℕ
converted_text file layout = on (converted_of file layout (converted_length (trailer_of file) layout)) (λ text. text) refused_line
