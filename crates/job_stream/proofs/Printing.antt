-- The loop of `print_ready`: its invariant `Upto`, and what that comes to at each of its needs. Assumes nothing.
use Prim.Native.Nat.{ℕ, zero, suc, ◌+◌, ◌-◌, ◌<◌, ◌≤◌}
use mathlib.Core.Path.{◌≡◌, refl, sym, ap, ◌∙◌}
use mathlib.Core.Bool.{Bool, true, false}
use mathlib.Core.List.{List}
use native.Mathlib.Omega.{arith}
use lib.Dec.{ltb}
use lib.ListN.{length, drop, length-drop}
use lib.Seq.{drop-drop}
use borrow.Author.Tests.{lt-ltb, ltb-true, ltb-false}
use Rattle.loops.proofs.Every.{every_iff}
use Rattle.pairs.proofs.Parted.{rest_of, rest_is}
use Rattle.job_stream.specs.Chunk.{goes_on, place, rest, chunk_text, goes_at, leading, jobs_in, JobsWritten}
use Rattle.job_stream.specs.Left.{printable, printed_jobs, LeftOf}
use Rattle.job_stream.specs.declared.chunk.Jobs.{Jobs}
use Rattle.job_stream.proofs.Leading.{leading_passes, leading_most, leading_first}
use Rattle.job_stream.proofs.Going.{goes_beyond, goes_some}
use Rattle.job_stream.proofs.Progress.{place_least}

-- ---- the jobs of what is left after some
module _ (bytes : List ℕ) (j : ℕ) where
  pub place_on : (i : ℕ) → place bytes (j + i) ≡ place bytes j + place (rest bytes j) i
  unfolding place
  place_on zero = let e : j + 0 ≡ j = omega arith in let z : place bytes j + 0 ≡ place bytes j = omega arith in rw (e, z)
  place_on (suc i) =
      let e : j + suc i ≡ suc (j + i) = omega arith in
      let q = place_on i in
      let d = drop-drop (place (rest bytes j) i) (place bytes j) bytes in
      rw (e, q, d) (omega arith)

  pub rest_on : (i : ℕ) → rest (rest bytes j) i ≡ rest bytes (j + i)
  rest_on i = drop-drop (place (rest bytes j) i) (place bytes j) bytes ∙ ap (λ k. drop k bytes) (sym (place_on i))

-- room for one is room enough
pub goes_printable : (n room : ℕ) (bytes : List ℕ) → goes_on n room bytes ≡ true → goes_on n 16399 bytes ≡ true
unfolding goes_on
goes_printable n room bytes h = let (a, r) = goes_some n room bytes h in rw (lt-ltb n 4294967295 a, r)

-- next - n jobs were printed
pub record Upto (n : ℕ) (bytes : List ℕ) (next at : ℕ) : Type 0 where
  pub above : n ≤ next
  pub placed : at ≡ place bytes (next - n)
  pub passed : (i : ℕ) → i < next - n → printable n bytes i ≡ true
  pub few : next - n ≤ length bytes
  pub short : next - n ≤ at

pub upto_none : (n : ℕ) (bytes : List ℕ) → Upto n bytes n 0
unfolding place
upto_none n bytes = let e : n - n ≡ 0 = omega arith in record { above = omega arith; placed = rw e; passed = λ i l. absurd (omega arith); few = omega arith; short = omega arith }

-- job i of a call on what is left after j jobs is job j + i of all
call_passed : (n room : ℕ) (bytes : List ℕ) (j i : ℕ) → i < jobs_in (n + j) room (rest bytes j) → printable n bytes (j + i) ≡ true
unfolding jobs_in goes_at printable
call_passed n room bytes j i l =
    let left = rest bytes j in
    let p = goes_at (n + j) room left in
    let h = (every_iff p (leading p (length left))).0 (leading_passes p (length left)) i l in
    let e : n + (j + i) ≡ n + j + i = omega arith in
    rw (e, ← rest_on bytes j i) (goes_printable (n + j + i) (room - length (chunk_text (n + j) left i)) (rest left i) h)

jobs_most : (n room : ℕ) (bytes : List ℕ) → jobs_in n room bytes ≤ length bytes
unfolding jobs_in
jobs_most n room bytes = leading_most (goes_at n room bytes) (length bytes)

module _ {n : ℕ} {bytes : List ℕ} {next at : ℕ} (u : Upto n bytes next at) where
  pub upto_on : {out out' : List ℕ} {r : Jobs} → at ≤ length bytes → JobsWritten next (rest_of at bytes) out out' r → Upto n bytes r.next (at + r.read)
  upto_on {out} {out'} {r} a w =
      let j = next - n in
      let v : JobsWritten next (rest bytes j) out out' r = rw (rest_is at bytes, u.placed) at w in
      let k = jobs_in next (length out) (rest bytes j) in
      let x = v.next in
      let y = v.read in
      let above = u.above in
      let placed = u.placed in
      let short = u.short in
      let m = jobs_most next (length out) (rest bytes j) in
      let d = length-drop (place bytes j) bytes in
      let q = place_on bytes j k in
      let s = place_least (rest bytes j) k in
      let e : r.next - n ≡ j + k = omega arith in
      record {
        above = omega arith;
        placed = rw e (omega arith);
        passed = λ i l. each k refl i (omega arith);
        few = rw e (omega arith);
        short = rw e (omega arith);
      }
    where
      each : (k : ℕ) → k ≡ jobs_in next (length out) (rest bytes (next - n)) → (i : ℕ) → i < (next - n) + k → printable n bytes i ≡ true
      each k z i l = go (ltb i (next - n)) (ltb-true i (next - n)) (ltb-false i (next - n))
        where
          go : (b : Bool) → (b ≡ true → i < next - n) → (b ≡ false → next - n ≤ i) → printable n bytes i ≡ true
          go true f g = u.passed i (f refl)
          go false f g =
              let t = g refl in
              let above = u.above in
              let m : n + (next - n) ≡ next = omega arith in
              let o : (next - n) + (i - (next - n)) ≡ i = omega arith in
              rw o at (call_passed n (length out) bytes (next - n) (i - (next - n)) (rw (m, ← z) (omega arith)))

  -- it ends at a job that can't be printed
  pub upto_left : {kept passed : ℕ} → goes_on next 16399 (drop at bytes) ≡ false → kept ≡ length bytes - at → passed ≡ at - length bytes → kept < 65540 → LeftOf n bytes record { number = next; kept = kept; passed = passed }
  unfolding printed_jobs printable
  upto_left {kept} {passed} f a b c =
      let above = u.above in
      let m : n + (next - n) ≡ next = omega arith in
      let t : goes_on (n + (next - n)) 16399 (rest bytes (next - n)) ≡ false = rw (m, ← u.placed) f in
      let e = leading_first (printable n bytes) (next - n) ((every_iff (printable n bytes) (next - n)).1 u.passed) t (length bytes) u.few in
      (rw e (sym m), rw (e, ← u.placed) a, rw (e, ← u.placed) b, c)

  -- or behind all bytes
  pub upto_past : {passed : ℕ} → length bytes ≤ at → passed ≡ at - length bytes → LeftOf n bytes record { number = next; kept = 0; passed = passed }
  upto_past h b = upto_left (sym (goes_beyond next 16399 at bytes h)) (omega arith) b (omega arith)
