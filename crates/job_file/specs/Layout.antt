-- Document 01, "What a job is made of": "any placement of a row section (248 bytes a row, doubles first) and a mass section (80 a body), then a 48-byte trailer that points back". Document 02, d: "The mass gains its centre, three doubles at its end, and becomes 104 bytes; a trailer spare of 1 marks such a file, and 0 marks the old one". The table of places: each stands here once.
use Rattle.std.specs.Prelude.{ℕ, ◌+◌, ◌*◌, ◌-◌, List, length}

-- ---- sections, from the byte `offset` on: "A row is 27 doubles ... and eight u32", "a mass ten"

-- number j of row i
abbrev pub number_place : ℕ → ℕ → ℕ → ℕ
number_place offset i j = offset + 248 * i + 8 * j

-- word j of row i, after the 27 doubles
abbrev pub word_place : ℕ → ℕ → ℕ → ℕ
word_place offset i j = offset + 248 * i + 216 + 4 * j

-- the bytes of a mass, in a file of this spare: 80, and 24 more where the spare is 1
abbrev pub mass_bytes : ℕ → ℕ
mass_bytes spare = 80 + 24 * spare

-- number j of body b, in a file of this spare
abbrev pub mass_place : ℕ → ℕ → ℕ → ℕ → ℕ
mass_place offset spare b j = offset + mass_bytes spare * b + 8 * j

-- number j of three of the centre of body b, in a file that has centres: it follows the ten
abbrev pub centre_place : ℕ → ℕ → ℕ → ℕ
centre_place offset b j = mass_place offset 1 b (10 + j)

-- the first byte after a section
abbrev pub rows_end : ℕ → ℕ → ℕ
rows_end offset rows = offset + 248 * rows

abbrev pub masses_end : ℕ → ℕ → ℕ → ℕ
masses_end offset spare bodies = offset + mass_bytes spare * bodies

-- ---- the trailer, which begins at the byte `at`: "u32 row count, body count, limit, mode, row offset, mass offset; two f64 tolerances, linear first; u32 file length; u32 spare 0", now 0 or 1

abbrev pub trailer_at : List ℕ → ℕ
trailer_at file = length file - 48

abbrev pub row_count_place : ℕ → ℕ
row_count_place at = at

abbrev pub body_count_place : ℕ → ℕ
body_count_place at = at + 4

abbrev pub limit_place : ℕ → ℕ
limit_place at = at + 8

abbrev pub mode_place : ℕ → ℕ
mode_place at = at + 12

abbrev pub row_offset_place : ℕ → ℕ
row_offset_place at = at + 16

abbrev pub mass_offset_place : ℕ → ℕ
mass_offset_place at = at + 20

abbrev pub linear_place : ℕ → ℕ
linear_place at = at + 24

abbrev pub angular_place : ℕ → ℕ
angular_place at = at + 32

abbrev pub file_length_place : ℕ → ℕ
file_length_place at = at + 40

abbrev pub spare_place : ℕ → ℕ
spare_place at = at + 44
