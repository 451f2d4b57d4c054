-- What is left of the bytes that were read once the jobs that are whole among them are printed.
use Rattle.std.specs.Prelude.{ℕ, ◌+◌, ◌-◌, ◌<◌, ◌≡◌, Bool, List, length, take, drop, Option, Some, None}
use Rattle.job_stream.specs.Chunk.{goes_on, place, rest, leading}
use Rattle.job_stream.specs.declared.program.Unread.{Unread}

-- the text is written out and begun anew, so that there is always room
unfoldable pub printable : ℕ → List ℕ → ℕ → Bool
printable n bytes i = goes_on (n + i) 16399 (rest bytes i)

-- how many jobs are printed, where the first is number n
unfoldable pub printed_jobs : ℕ → List ℕ → ℕ
printed_jobs n bytes = leading (printable n bytes) (length bytes)

-- the bytes from where the next job begins are kept, or those up to there, which are still to come, are passed over
abbrev pub LeftOf : ℕ → List ℕ → Unread → Type 0
LeftOf n bytes u = (u.number ≡ n + printed_jobs n bytes) × (u.kept ≡ length bytes - place bytes (printed_jobs n bytes)) × (u.passed ≡ place bytes (printed_jobs n bytes) - length bytes) × (u.kept < 65540)

-- of an output that takes nothing more, or a number that there is none of, nothing is said
abbrev pub LeftBy : Option Unread → ℕ → List ℕ → Type 0
LeftBy (Some unread) n bytes = LeftOf n bytes unread
LeftBy None n bytes = Unit

-- of these bytes
pub record Leaves (r : Option Unread) (n : ℕ) (bytes : List ℕ) : Type 0 where
  pub left : LeftBy r n bytes

-- ---- of a space with so many bytes more behind those that were kept

-- what is unread in it
abbrev pub unread_part : Unread → ℕ → List ℕ → List ℕ
unread_part u more space = take (u.kept + more - u.passed) (drop u.passed space)

-- the same, with what is kept at its front again
abbrev pub MovedOf : Unread → ℕ → List ℕ → List ℕ → Unread → Type 0
MovedOf u more space space' v =
    let part = unread_part u more space in
    let end = place part (printed_jobs u.number part) in
    (v.number ≡ u.number + printed_jobs u.number part) × (v.kept ≡ length part - end) × (v.passed ≡ (u.passed - (u.kept + more)) + (end - length part)) × (v.kept < 65540) × (take v.kept space' ≡ take v.kept (drop (u.kept + more - v.kept) space))

abbrev pub MovedBy : Unread → ℕ → List ℕ → List ℕ → Option Unread → Type 0
MovedBy u more space space' (Some v) = MovedOf u more space space' v
MovedBy u more space space' None = Unit

pub record Moves (u : Unread) (more : ℕ) (space space' : List ℕ) (r : Option Unread) : Type 0 where
  pub moved : MovedBy u more space space' r
