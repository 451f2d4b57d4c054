-- std's bytes of a number are those of the definition. Assumes nothing.
use Rattle.std.proofs.Common.{ℕ, ◌≡◌, ◌/◌, arith, w32, w64}
use Rattle.std.specs.Int.{to_le_bytes}
use Rattle.listing.specs.Written.{pieces}
use Rattle.job_writer.specs.Bytes.{little}

pub little_8 : (x : ℕ) → to_le_bytes w64 x ≡ little 8 x
unfolding little pieces
little_8 x = let first : x / 1 ≡ x = omega arith in rw first

pub little_4 : (x : ℕ) → to_le_bytes w32 x ≡ little 4 x
unfolding little pieces
little_4 x = let first : x / 1 ≡ x = omega arith in rw first
