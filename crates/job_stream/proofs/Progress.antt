-- What a call of `write_jobs` leaves: where it has written no job, fewer bytes than the longest file that is read has with its length; and else it has read some. Assumes nothing.
use Prim.Native.Nat.{ℕ, zero, suc, ◌+◌, ◌-◌, ◌<◌, ◌≤◌}
use mathlib.Core.Path.{◌≡◌, sym, ◌∙◌}
use mathlib.Core.Bool.{false}
use mathlib.Core.List.{List}
use native.Mathlib.Omega.{arith}
use lib.ListN.{length, drop, length-drop}
use borrow.Author.Tests.{lt-ltb, le-leb}
use Rattle.listing.specs.Written.{pieces}
use Rattle.listing.proofs.Joined.{length_wrote}
use Rattle.pairs.proofs.Parted.{rest_of, rest_is}
use Rattle.job_stream.specs.Chunk.{ready, goes_on, place, rest, chunk_text, goes_at, jobs_in, JobsWritten}
use Rattle.job_stream.specs.declared.chunk.Jobs.{Jobs}
use Rattle.job_stream.proofs.Leading.{leading_stops}
use Rattle.job_stream.proofs.Stream.{frame_long}
use Rattle.job_stream.proofs.Going.{goes_unready}
use Rattle.job_stream.proofs.Steps.{unready}

-- the first job of a chunk
first_test : (n room : ℕ) (bytes : List ℕ) → goes_at n room bytes 0 ≡ goes_on n room bytes
unfolding goes_at place chunk_text pieces
first_test n room bytes = let e : n + 0 ≡ n = omega arith in let r : room - 0 ≡ room = omega arith in rw (e, r)

not_ready : (n room : ℕ) (bytes : List ℕ) → n < 4294967295 → 16399 ≤ room → goes_on n room bytes ≡ false → ready bytes ≡ false
unfolding goes_on
not_ready n room bytes h l t = rw (lt-ltb n 4294967295 h, le-leb 16399 room l) at t

-- each job takes bytes
pub place_least : (bytes : List ℕ) (k : ℕ) → k ≤ place bytes k
unfolding place
place_least bytes zero = omega arith
place_least bytes (suc k) = let h = place_least bytes k in omega (arith, frame_long (rest bytes k))

place_later : (bytes : List ℕ) (k : ℕ) → 0 < k → 0 < place bytes k
unfolding place
place_later bytes zero h = omega arith
place_later bytes (suc k) h = omega (arith, frame_long (rest bytes k))

first_fails : (n room : ℕ) (bytes : List ℕ) → 0 < length bytes → jobs_in n room bytes ≡ 0 → goes_at n room bytes 0 ≡ false
unfolding jobs_in
first_fails n room bytes s k = rw k at (leading_stops (goes_at n room bytes) (length bytes) (rw k s))

module _ {n : ℕ} {bytes out out' : List ℕ} {r : Jobs} (w : JobsWritten n bytes out out' r) where
  pub none_ready : r.next ≤ n → n < 4294967295 → 16399 ≤ length out → 0 < length bytes → ready bytes ≡ false
  none_ready e h l s =
      let a = w.next in
      let k : jobs_in n (length out) bytes ≡ 0 = omega arith in
      not_ready n (length out) bytes h l (sym (first_test n (length out) bytes) ∙ first_fails n (length out) bytes s k)

  pub some_read : n < r.next → 0 < r.read
  some_read d =
      let a = w.next in
      let b = w.read in
      let l : 0 < jobs_in n (length out) bytes = omega arith in
      omega (arith, place_later bytes (jobs_in n (length out) bytes) l)

  pub wrote_within : r.wrote ≤ length out'
  wrote_within = let a = w.text.within in let b = w.text.after in let l = length_wrote w.text in omega arith

-- of the bytes that were lent from `at` on
module _ (bytes : List ℕ) (at : ℕ) {n : ℕ} {out out' : List ℕ} {r : Jobs} (w : JobsWritten n (rest_of at bytes) out out' r) (e : r.next ≤ n) (h : n < 4294967295) (l : 16399 ≤ length out) (s : at < length bytes) where
  rest_long : length (rest_of at bytes) ≡ length bytes - at
  rest_long = rw (rest_is at bytes, length-drop)

  rest_unready : ready (rest_of at bytes) ≡ false
  rest_unready = none_ready w e h l (let q = rest_long in omega arith)

  pub kept_few : length bytes - at < 65540
  kept_few = let q = rest_long in let k = (unready (rest_of at bytes) rest_unready).1 in omega arith

  pub none_goes : goes_on n 16399 (drop at bytes) ≡ false
  none_goes = goes_unready n 16399 (drop at bytes) (rw (rest_is at bytes) at rest_unready)
