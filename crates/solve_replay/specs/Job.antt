-- A job in its words. oracle/README.md has the 64 bytes of header, and "a row: its 27 doubles in document 01's order, then its eight u32, each as one word".
use Rattle.std.specs.Prelude.{ℕ, ◌+◌, ◌*◌, ◌/◌, ◌%◌, List, get_or, Float}
use Rattle.std.specs.Float.{binary64}
use Rattle.std.specs.Float.Ieee.{of_bits}
use Rattle.loops.specs.Tabulate.{tabulate}
use Rattle.little_endian.specs.Words.{half_at, word_at}
use Rattle.solve_replay.specs.declared.header.Header.{Header}

unfoldable pub header_of : List ℕ → ℕ → Header
header_of list at = record {
  rows = half_at list at;
  bodies = half_at list (at + 4);
  limit = half_at list (at + 8);
  mode = half_at list (at + 12);
  refusal = half_at list (at + 16);
  count = half_at list (at + 20);
  flag = half_at list (at + 24);
  linear_tolerance = word_at list (at + 32);
  angular_tolerance = word_at list (at + 40);
  linear_maximum = word_at list (at + 48);
  angular_maximum = word_at list (at + 56);
}

-- the first n words as doubles
unfoldable pub doubles_of : List ℕ → ℕ → List Float
doubles_of words n = tabulate (λ i. of_bits binary64 (get_or words i 0)) n

-- the first n numbers of rows of 35 words, 27 of each
unfoldable pub row_numbers : List ℕ → ℕ → List Float
row_numbers words n = tabulate (λ i. of_bits binary64 (get_or words (35 * (i / 27) + i % 27) 0)) n

-- and the first n u32, eight of each
unfoldable pub row_words : List ℕ → ℕ → List ℕ
row_words words n = tabulate (λ i. get_or words (35 * (i / 8) + 27 + i % 8) 0 % 4294967296) n
