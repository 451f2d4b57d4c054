-- Document 02, e: "rows from byte 0, masses straight after, then the trailer".
use Rattle.std.specs.Prelude.{ℕ, ◌+◌, ◌*◌, ◌&&◌, cond, List, ◌++◌, leb}
use Rattle.listing.specs.Written.{pieces}
use Rattle.job_file.specs.Layout.{masses_end}
use Rattle.job_writer.specs.declared.head.JobHead.{JobHead}
use Rattle.job_writer.specs.Bytes.{little, doubles, halves}
use Rattle.job_writer.specs.JobBits.{JobBits}

-- ---- places, by the counts and the layout, which is the file's spare

abbrev pub trailer_place : ℕ → ℕ → ℕ → ℕ
trailer_place rows bodies layout = masses_end (248 * rows) layout bodies

abbrev pub file_length : ℕ → ℕ → ℕ → ℕ
file_length rows bodies layout = trailer_place rows bodies layout + 48

-- as it is told to any caller: 0 where there is no such file
unfoldable pub written_length : ℕ → ℕ → ℕ → ℕ
written_length rows bodies layout = cond ((leb rows 128 && leb bodies 64) && leb layout 1) (file_length rows bodies layout) 0

-- ---- the parts

-- row i: 27 doubles, then 8 words
unfoldable pub written_row : List ℕ → List ℕ → ℕ → List ℕ
written_row numbers words i = doubles numbers (27 * i) 27 ++ halves words (8 * i) 8

-- body b: ten doubles; in layout 1 three more, its centre
unfoldable pub written_mass : List ℕ → List ℕ → ℕ → ℕ → List ℕ
written_mass masses centres layout b = doubles masses (10 * b) 10 ++ doubles centres (3 * b) (3 * layout)

-- the trailer: counts, limit and mode,
unfoldable pub written_counts : JobHead → List ℕ
written_counts h = little 4 h.rows ++ little 4 h.bodies ++ little 4 h.limit ++ little 4 h.mode

-- the tolerances, the file's length and the spare
unfoldable pub written_end : JobHead → ℕ → List ℕ
written_end h bytes = little 8 h.linear ++ little 8 h.angular ++ little 4 bytes ++ little 4 h.layout

-- and the two offsets between them
unfoldable pub written_trailer : JobHead → List ℕ
written_trailer h = written_counts h ++ little 4 0 ++ little 4 (248 * h.rows) ++ written_end h (file_length h.rows h.bodies h.layout)

-- ---- the file
unfoldable pub written : JobBits → List ℕ
written job =
    pieces (written_row job.numbers job.words) job.head.rows
    ++ pieces (written_mass job.masses job.centres job.head.layout) job.head.bodies
    ++ written_trailer job.head
