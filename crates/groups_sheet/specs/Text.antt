-- What the groups program prints, document 02, g, "Several mechanisms on one bench": a first line, and of each group a line and what the job program prints of its rows alone.
use Rattle.std.specs.Prelude.{ℕ, cond, List, [], ◌∷◌, ◌++◌, eqb, length, get_or}
use Rattle.std.specs.Float.{nan}
use Rattle.group_table.specs.Pick.{pick_rows}
use Rattle.job_file.specs.Job.{Job}
use Rattle.job_file.specs.declared.trailer.Trailer.{Trailer}
use Rattle.listing.specs.Digits.{number}
use Rattle.listing.specs.Lines.{newline}
use Rattle.job_sheet.specs.Sheet.{job_sheet}
use Rattle.job_sheet.specs.declared.which.Sheet.TheVariants as sheets

-- ---- the names, in ASCII

-- "groups"
unfoldable pub groups_name : List ℕ
groups_name = 103 ∷ 114 ∷ 111 ∷ 117 ∷ 112 ∷ 115 ∷ []

-- "group"
unfoldable pub group_name : List ℕ
group_name = 103 ∷ 114 ∷ 111 ∷ 117 ∷ 112 ∷ []

-- ---- the lines

-- the refusal of the file or of its whole table, or 0, and how many groups there are
unfoldable pub groups_line : ℕ → ℕ → List ℕ
groups_line refusal count = groups_name ++ number refusal ++ number count ++ newline

-- the numbers of these rows
unfoldable pub row_words : List ℕ → List ℕ
row_words [] = []
row_words (r ∷ rows) = number r ++ row_words rows

-- the group's number, how many rows it has, and which rows of the job they are
unfoldable pub group_line : ℕ → List ℕ → List ℕ
group_line g rows = group_name ++ number g ++ number (length rows) ++ row_words rows ++ newline

-- row i adds its number where it is of group g
unfoldable pub row_word : List ℕ → ℕ → ℕ → List ℕ
row_word groups g i = cond (eqb (get_or groups i 0) g) (number i) []

-- ---- one group

-- "a solve of its rows alone, in their order": the job of these rows, with all bodies
abbrev pub group_job : Job → List ℕ → Job
group_job j rows = record { rows = length rows; bodies = j.bodies; limit = j.limit; mode = j.mode; tolerance = j.tolerance; spare = j.spare; numbers = pick_rows nan 27 rows j.numbers; words = pick_rows 0 8 rows j.words; masses = j.masses; centres = j.centres }

-- its trailer
abbrev pub with_rows : Trailer → ℕ → Trailer
with_rows t rows = record { rows = rows; bodies = t.bodies; limit = t.limit; mode = t.mode; row_offset = t.row_offset; mass_offset = t.mass_offset; tolerance = t.tolerance; file_length = t.file_length; spare = t.spare }

-- "each gets the answer or refusal that a solve of its rows alone, in their order, would give": rows are counted within the group
unfoldable pub group_text : Job → ℕ → List ℕ → List ℕ
group_text j g rows = group_line g rows ++ job_sheet sheets.Job (group_job j rows)
