-- Document 01, "Why a job was turned back", 1 to 4 of a job file. Each test is true where the refusal does not apply.
use Rattle.std.specs.Prelude.{ℕ, ◌*◌, Bool, ◌&&◌, ◌||◌, List, leb, eqb, length}
use Rattle.loops.specs.Every.{every}
use Rattle.joint_refusals.specs.Counts.{counts_fit, rows_fit}
use Rattle.joint_refusals.specs.Refusals.{words_fit_of}
use Rattle.job_file.specs.Layout.{rows_end, masses_end, trailer_at}
use Rattle.job_file.specs.File.{trailer_of, row_words}
use Rattle.job_file.specs.declared.trailer.Trailer.{Trailer}

-- ---- 1. "The file is under 48 or over 65,536 bytes, its stored length differs, or its spare is not 0." Document 02, d: "refusal 1 now meets a spare from 2 upward".
unfoldable pub size_fits : Trailer → ℕ → Bool
size_fits t bytes = (leb bytes 65536 && eqb t.file_length bytes) && leb t.spare 1

unfoldable pub passes1 : List ℕ → Bool
passes1 file = leb 48 (length file) && size_fits (trailer_of file) (length file)

-- ---- 2. "A count exceeds the program's limit, or a section overlaps the other (an empty one never does) or, even empty, runs past the trailer's start." The program takes up to 128 rows and 64 bodies.
unfoldable pub limits_fit : Trailer → Bool
limits_fit t = leb t.rows 128 && leb t.bodies 64

unfoldable pub apart : Trailer → Bool
apart t =
    ((eqb t.rows 0 || eqb t.bodies 0) || leb (rows_end t.row_offset t.rows) t.mass_offset) || leb (masses_end t.mass_offset t.spare t.bodies) t.row_offset

unfoldable pub ends_fit : Trailer → ℕ → Bool
ends_fit t end = leb (rows_end t.row_offset t.rows) end && leb (masses_end t.mass_offset t.spare t.bodies) end

unfoldable pub sections_fit : Trailer → ℕ → Bool
sections_fit t end = (limits_fit t && apart t) && ends_fit t end

unfoldable pub passes2 : List ℕ → Bool
passes2 file = sections_fit (trailer_of file) (trailer_at file)

-- ---- 3. "The row count, body count or mode is beyond this paper"
abbrev pub trailer_counts_fit : Trailer → Bool
trailer_counts_fit t = counts_fit t.rows t.bodies t.mode

unfoldable pub passes3 : List ℕ → Bool
passes3 file = trailer_counts_fit (trailer_of file)

-- "or a lent slice has not the length the counts call for", where slices are lent
unfoldable pub lengths_fit : Trailer → ℕ → ℕ → ℕ → ℕ → Bool
lengths_fit t numbers words masses centres = rows_fit t.rows t.bodies numbers words masses && eqb centres (3 * t.bodies)

-- ---- 4. "A row's key, dimension, flag or spare has another value than those above."
unfoldable pub keys_fit : List ℕ → ℕ → ℕ → Bool
keys_fit file offset rows = every (λ i. words_fit_of (row_words file offset i)) rows

unfoldable pub passes4 : List ℕ → Bool
passes4 file = keys_fit file (trailer_of file).row_offset (trailer_of file).rows
