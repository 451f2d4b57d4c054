-- The loop of `write_jobs`: its invariant `Going`, and what that comes to at each of its needs. Assumes nothing.
use Prim.Native.Nat.{ℕ, suc, ◌+◌, ◌-◌, ◌<◌, ◌≤◌}
use mathlib.Core.Path.{◌≡◌, refl, sym, ◌∙◌}
use mathlib.Core.Bool.{Bool, true, false, ◌&&◌, false≢true}
use mathlib.Core.List.{List, []}
use native.Mathlib.Omega.{arith}
use lib.Dec.{leb, ltb}
use lib.ListN.{length, drop, length-drop, drop_of_length-le}
use borrow.Author.Tests.{ltb-true, leb-true}
use Rattle.loops.specs.Every.{every}
use Rattle.loops.proofs.Inverse.{check_true}
use Rattle.listing.specs.Written.{Wrote, pieces}
use Rattle.listing.proofs.Joined.{wrote_none, wrote_join, length_wrote}
use Rattle.pairs.proofs.Parted.{rest_of, rest_is}
use Rattle.job_stream.specs.Stream.{frame_length, front_text}
use Rattle.job_stream.specs.Chunk.{ready, goes_on, place, chunk_text, goes_at, jobs_in, JobsWritten}
use Rattle.job_stream.proofs.Leading.{leading_first}
use Rattle.job_stream.proofs.Stream.{frame_long}
use Rattle.job_stream.proofs.Ways.{ready_short}
use Rattle.job_stream.proofs.Following.{is_ready}

-- ---- one test

both : (a b : Bool) → a && b ≡ true → (a ≡ true) × (b ≡ true)
both true b h = (refl, h)
both false b h = absurd (false≢true h)

never : (a : Bool) → a && false ≡ false
never true = refl
never false = refl

pub goes_some : (n room : ℕ) (bytes : List ℕ) → goes_on n room bytes ≡ true → (n < 4294967295) × (ready bytes ≡ true)
unfolding goes_on
goes_some n room bytes h =
    let (a, r) = both (ltb n 4294967295 && leb 16399 room) (ready bytes) h in
    let (b, c) = both (ltb n 4294967295) (leb 16399 room) a in
    (ltb-true n 4294967295 b, r)

-- no job goes on that is not ready
pub goes_unready : (n room : ℕ) (bytes : List ℕ) → ready bytes ≡ false → goes_on n room bytes ≡ false
unfolding goes_on
goes_unready n room bytes h = rw h (never (ltb n 4294967295 && leb 16399 room))

-- what a job that goes on has: a number, room and its length
pub record Goes (n room at : ℕ) (bytes : List ℕ) : Type 0 where
  pub numbered : n < 4294967295
  pub wide : 16399 ≤ room
  pub begun : at + 4 ≤ length bytes

pub goes : (n room at : ℕ) (bytes : List ℕ) → goes_on n room (drop at bytes) ≡ true → Goes n room at bytes
unfolding goes_on
goes n room at bytes h =
    let (a, r) = both (ltb n 4294967295 && leb 16399 room) (ready (drop at bytes)) h in
    let (b, c) = both (ltb n 4294967295) (leb 16399 room) a in
    let l = (is_ready (drop at bytes) r).begun in
    let e = length-drop at bytes in
    record { numbered = ltb-true n 4294967295 b; wide = leb-true 16399 room c; begun = omega arith }

-- beyond the bytes there is no job
pub goes_beyond : (n room at : ℕ) (bytes : List ℕ) → length bytes ≤ at → false ≡ goes_on n room (drop at bytes)
unfolding goes_on
goes_beyond n room at bytes h = rw (drop_of_length-le bytes {i = at} h, ← ready_short [] (omega arith)) (sym (never (ltb n 4294967295 && leb 16399 room)))

-- within them it is the one in the lent rest
pub goes_here : (n room at : ℕ) (bytes : List ℕ) {r : Bool} → r ≡ ready (rest_of at bytes) → (ltb n 4294967295 && leb 16399 room) && r ≡ goes_on n room (drop at bytes)
unfolding goes_on
goes_here n room at bytes e = rw (e, rest_is at bytes)

-- ---- the loop: next - n jobs were written
pub record Going (n : ℕ) (bytes out : List ℕ) (next at end : ℕ) (out' : List ℕ) : Type 0 where
  pub above : n ≤ next
  pub placed : at ≡ place bytes (next - n)
  pub wrote : Wrote out 0 (chunk_text n bytes (next - n)) out' end
  pub passed : every (goes_at n (length out) bytes) (next - n) ≡ true
  pub few : next - n ≤ length bytes
  pub short : next - n ≤ at

pub going_none : (n : ℕ) (bytes out : List ℕ) → Going n bytes out n 0 0 out
unfolding place chunk_text pieces every
going_none n bytes out =
    let e : n - n ≡ 0 = omega arith in
    record { above = omega arith; placed = rw e; wrote = rw e (wrote_none out 0 (omega arith)); passed = rw e; few = omega arith; short = omega arith }

module _ {n : ℕ} {bytes out : List ℕ} {next at end : ℕ} {out' : List ℕ} (g : Going n bytes out next at end out') where
  pub going_length : length out' ≡ length out
  going_length = length_wrote g.wrote

  pub going_within : end ≤ length out'
  going_within = let w = g.wrote.within in let a = g.wrote.after in let l = going_length in omega arith

  -- the test of the loop is that of the job
  same_test : goes_at n (length out) bytes (next - n) ≡ goes_on next (length out' - end) (drop at bytes)
  unfolding goes_at
  same_test =
      let a = g.above in
      let e : n + (next - n) ≡ next = omega arith in
      let w = g.wrote.after in
      let t : length (chunk_text n bytes (next - n)) ≡ end = omega arith in
      rw (e, t, ← g.placed, going_length)

  pub going_on : {out'' : List ℕ} {at' end' : ℕ} → goes_on next (length out' - end) (drop at bytes) ≡ true → Wrote out' end (front_text next (drop at bytes)) out'' end' → at' ≡ at + frame_length (drop at bytes) → Going n bytes out (next + 1) at' end' out''
  unfolding place chunk_text pieces every
  going_on h w q =
      let a = g.above in
      let f = g.few in
      let s = g.short in
      let p = g.placed in
      let l = (goes next (length out' - end) at bytes h).begun in
      let e : next + 1 - n ≡ suc (next - n) = omega arith in
      let m : n + (next - n) ≡ next = omega arith in
      let v = frame_long (drop at bytes) in
      record {
        above = omega arith;
        placed = rw (e, ← p) q;
        wrote = rw (e, m, ← p) (wrote_join g.wrote w);
        passed = rw e (check_true _ _ _ g.passed ∙ same_test ∙ h);
        few = omega arith;
        short = omega arith;
      }

  pub going_end : goes_on next (length out' - end) (drop at bytes) ≡ false → JobsWritten n bytes out out' record { next = next; read = at; wrote = end }
  unfolding jobs_in
  going_end h =
      let a = g.above in
      let e = leading_first (goes_at n (length out) bytes) (next - n) g.passed (same_test ∙ h) (length bytes) g.few in
      record { next = rw e (omega arith); read = rw e g.placed; text = rw e g.wrote }

-- each turn takes bytes
pub turn_less : (bytes : List ℕ) (at : ℕ) {at' : ℕ} → at + 4 ≤ length bytes → at' ≡ at + frame_length (drop at bytes) → length bytes - at' < length bytes - at
turn_less bytes at h e = omega (arith, frame_long (drop at bytes))

-- ---- what is lent from `at` on
pub rest_begun : (at : ℕ) (bytes : List ℕ) → at + 4 ≤ length bytes → 4 ≤ length (rest_of at bytes)
rest_begun at bytes h = rw (rest_is at bytes, length-drop) (omega arith)

pub rest_frame : (at : ℕ) (bytes : List ℕ) {r : ℕ} → r ≡ frame_length (rest_of at bytes) → at + r ≡ at + frame_length (drop at bytes)
rest_frame at bytes e = rw (e, rest_is at bytes)
