-- A reader of the row section and its walk. Document 01, "What a job is made of": "The job is read through a reader that refers to the lent file and stands at one row."
use Rattle.std.specs.Prelude.{ℕ, ◌+◌, ◌<◌, ◌≤◌, Bool, List, Float, length}
use Rattle.std.specs.Borrow.{Bor}
use Rattle.joint_refusals.specs.Refusals.{words_fit_of}
use Rattle.job_file.specs.Layout.{rows_end}
use Rattle.job_file.specs.File.{row_words, row_numbers_over, row_words_over}
use Rattle.job_file.specs.declared.reader.Reader.{Reader}

-- at a row of so many, in a section that begins at `offset`
abbrev pub reader_of : Bor (List ℕ) → ℕ → ℕ → ℕ → Reader
reader_of file offset rows row = record { file = file; offset = offset; rows = rows; row = row }

-- there is a row where it stands, and the section lies in the file: what may be read
abbrev pub Standing : Reader → Type 0
Standing r = (rows_end r.offset r.rows ≤ length r.file.now) × (r.row < r.rows)

-- the same file and section, one row on
abbrev pub stepped : Reader → Reader
stepped r = reader_of r.file r.offset r.rows (r.row + 1)

-- refusal 4 passes the row where it stands
abbrev pub keys_here : Reader → Bool
keys_here r = words_fit_of (row_words r.file.now r.offset r.row)

-- a list of all rows after the row where it stands is read into it
abbrev pub numbers_here : Reader → List Float → List Float
numbers_here r l = row_numbers_over r.file.now r.offset r.row l

abbrev pub words_here : Reader → List ℕ → List ℕ
words_here r l = row_words_over r.file.now r.offset r.row l
