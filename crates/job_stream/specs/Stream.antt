-- A stream of job files, and what the program prints of it: each file is preceded by its length in bytes, 32 bits, little end first, and the stream ends with its last byte.
use Rattle.std.specs.Prelude.{ℕ, zero, suc, ◌+◌, cond, List, [], ◌∷◌, ◌++◌, leb, ltb, length, take, drop}
use Rattle.little_endian.specs.Words.{half_at}
use Rattle.listing.specs.Digits.{number}
use Rattle.listing.specs.Lines.{newline}
use Rattle.listing.specs.Listing.{refused_listing}
use Rattle.job_sheet.specs.Sheet.{sheet_of}
use Rattle.job_sheet.specs.declared.which.Sheet.TheVariants as sheets

-- "job", in ASCII
unfoldable pub job_name : List ℕ
job_name = 106 ∷ 111 ∷ 98 ∷ []

-- jobs are counted from 0
unfoldable pub job_line : ℕ → List ℕ
job_line n = job_name ++ number n ++ newline

-- ---- the job at the front of what is left of the stream

-- the bytes of its length and of its file
unfoldable pub frame_length : List ℕ → ℕ
frame_length bytes = 4 + half_at bytes 0

unfoldable pub front_file : List ℕ → List ℕ
front_file bytes = take (half_at bytes 0) (drop 4 bytes)

-- what the job program prints of the file, so 1 where it is longer than 65,536 bytes; and 1 where the stream ends inside the file or its length
unfoldable pub front_sheet : List ℕ → List ℕ
front_sheet bytes = cond (leb (frame_length bytes) (length bytes)) (sheet_of sheets.Job (front_file bytes)) (refused_listing 1)

unfoldable pub front_text : ℕ → List ℕ → List ℕ
front_text n bytes = job_line n ++ front_sheet bytes

-- ---- all that is left, where the job at the front is number n

-- The first number counts the jobs down; there are never more than bytes.
unfoldable pub stream_by : ℕ → ℕ → List ℕ → List ℕ
stream_by zero n bytes = []
stream_by (suc k) n bytes = cond (ltb 0 (length bytes)) (front_text n bytes ++ stream_by k (suc n) (drop (frame_length bytes) bytes)) []

unfoldable pub stream_from : ℕ → List ℕ → List ℕ
stream_from n bytes = stream_by (length bytes) n bytes

-- ---- the whole stream
abbrev pub stream_text : List ℕ → List ℕ
stream_text bytes = stream_from 0 bytes
