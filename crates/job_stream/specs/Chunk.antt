-- The jobs of a chunk: of bytes that the stream goes on with, of which more may follow.
use Rattle.std.specs.Prelude.{ℕ, zero, suc, ◌+◌, ◌-◌, ◌≡◌, Bool, ◌&&◌, ◌||◌, cond, List, leb, ltb, length, drop}
use Rattle.loops.specs.Every.{every}
use Rattle.listing.specs.Written.{Wrote, pieces}
use Rattle.job_stream.specs.Stream.{frame_length, front_text}
use Rattle.job_stream.specs.declared.chunk.Jobs.{Jobs}

-- The job at the front needs no more bytes: its file is there, or its length is and says more than 65,536, which 1 turns back whatever the file is.
unfoldable pub ready : List ℕ → Bool
ready bytes = leb 4 (length bytes) && (ltb 65540 (frame_length bytes) || leb (frame_length bytes) (length bytes))

-- it is written where there is a number for it and for the next, and room for the longest line, 15 bytes, and the longest sheet, 16,384
unfoldable pub goes_on : ℕ → ℕ → List ℕ → Bool
goes_on n room bytes = (ltb n 4294967295 && leb 16399 room) && ready bytes

-- ---- one job after the other

-- where job i of the chunk begins; of a file that is passed over unread the end may lie beyond the chunk
unfoldable pub place : List ℕ → ℕ → ℕ
place bytes zero = 0
place bytes (suc i) = place bytes i + frame_length (drop (place bytes i) bytes)

abbrev pub rest : List ℕ → ℕ → List ℕ
rest bytes i = drop (place bytes i) bytes

-- of its first k jobs, where the first is number n
unfoldable pub chunk_text : ℕ → List ℕ → ℕ → List ℕ
chunk_text n bytes k = pieces (λ i. front_text (n + i) (rest bytes i)) k

unfoldable pub goes_at : ℕ → ℕ → List ℕ → ℕ → Bool
goes_at n room bytes i = goes_on (n + i) (room - length (chunk_text n bytes i)) (rest bytes i)

-- how many of k tests pass before the first that does not
unfoldable pub leading : (ℕ → Bool) → ℕ → ℕ
leading p zero = zero
leading p (suc k) = cond (every p (suc k)) (suc k) (leading p k)

-- how many jobs are written into so much room; there are never more than bytes
unfoldable pub jobs_in : ℕ → ℕ → List ℕ → ℕ
jobs_in n room bytes = leading (goes_at n room bytes) (length bytes)

-- a call that writes them to the front of `out`: the number of the job that is next, where it begins, and where their text ends
pub record JobsWritten (n : ℕ) (bytes out out' : List ℕ) (r : Jobs) : Type 0 where
  pub next : r.next ≡ n + jobs_in n (length out) bytes
  pub read : r.read ≡ place bytes (jobs_in n (length out) bytes)
  pub text : Wrote out 0 (chunk_text n bytes (jobs_in n (length out) bytes)) out' r.wrote
