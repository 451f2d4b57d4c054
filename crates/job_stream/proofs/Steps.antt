-- Chunk after chunk `write_jobs` writes the text of the whole stream (`chunk_step`), and `write_front` that of a job which the stream ends in (`stream_cut`). By their contracts alone. Assumes nothing.
use Prim.Native.Nat.{ℕ, suc, ◌+◌, ◌-◌, ◌<◌, ◌≤◌}
use mathlib.Core.Path.{◌≡◌, refl, sym, ap, ◌∙◌}
use mathlib.Core.Bool.{Bool, true, false, ◌&&◌, ◌||◌, false≢true}
use mathlib.Core.List.{List, ◌++◌, append-nil}
use native.Mathlib.Omega.{arith}
use lib.Dec.{leb, ltb}
use lib.ListN.{length, take, drop, drop_of_length-le}
use borrow.Author.Tests.{ltb-false, leb-false}
use Rattle.loops.proofs.Every.{every_iff}
use Rattle.listing.proofs.Joined.{wrote_front}
use Rattle.job_stream.specs.Stream.{frame_length, front_text, stream_from}
use Rattle.job_stream.specs.Chunk.{ready, goes_on, rest, chunk_text, goes_at, leading, jobs_in, JobsWritten}
use Rattle.job_stream.specs.declared.chunk.Jobs.{Jobs}
use Rattle.job_stream.proofs.Leading.{leading_passes}
use Rattle.job_stream.proofs.Stream.{frame_long, stream_none, stream_front, stream_pieces}
use Rattle.job_stream.proofs.Following.{Ready, is_ready, place_same, within_joined, text_same}

second_holds : (a b : Bool) → a && b ≡ true → b ≡ true
second_holds true b h = h
second_holds false b h = absurd (false≢true h)

each_ready : (n room : ℕ) (bytes : List ℕ) (i : ℕ) → i < jobs_in n room bytes → Ready (rest bytes i)
unfolding jobs_in goes_at goes_on
each_ready n room bytes i l =
    is_ready (rest bytes i)
    (second_holds (ltb (n + i) 4294967295 && leb 16399 (room - length (chunk_text n bytes i))) (ready (rest bytes i))
    ((every_iff (goes_at n room bytes) (leading (goes_at n room bytes) (length bytes))).0 (leading_passes (goes_at n room bytes) (length bytes)) i l))

-- Of a stream that goes on with these bytes: what a call wrote, and then what is printed from where it has read to.
pub chunk_step : {n : ℕ} {bytes out out' : List ℕ} {r : Jobs} → JobsWritten n bytes out out' r → (more : List ℕ) → stream_from n (bytes ++ more) ≡ take r.wrote out' ++ stream_from r.next (drop r.read (bytes ++ more))
chunk_step {n} {bytes} {out} {out'} {r} w more =
    let k = jobs_in n (length out) bytes in
    let each = each_ready n (length out) bytes in
    stream_pieces n (bytes ++ more) k (within_joined bytes more k each)
    ∙ ap (λ t. t ++ stream_from (n + k) (rest (bytes ++ more) k)) (text_same bytes more n k each ∙ sym (wrote_front w.text))
    ∙ ap (λ p. take r.wrote out' ++ stream_from (n + k) (drop p (bytes ++ more))) (place_same bytes more k each ∙ sym w.read)
    ∙ ap (λ m. take r.wrote out' ++ stream_from m (drop r.read (bytes ++ more))) (sym w.next)

-- what is not ready has too few bytes, and never more than are kept
pub unready : (bytes : List ℕ) → ready bytes ≡ false → (length bytes < frame_length bytes) × (length bytes < 65540)
unfolding ready
unready bytes h = go (leb 4 (length bytes)) (ltb 65540 (frame_length bytes)) (leb (frame_length bytes) (length bytes)) (leb-false 4 (length bytes)) (ltb-false 65540 (frame_length bytes)) (leb-false (frame_length bytes) (length bytes)) h
  where
    go : (a b c : Bool) → (a ≡ false → length bytes < 4) → (b ≡ false → frame_length bytes ≤ 65540) → (c ≡ false → length bytes < frame_length bytes) → a && (b || c) ≡ false → (length bytes < frame_length bytes) × (length bytes < 65540)
    go false b c f g k t = let l = f refl in let s = frame_long bytes in (omega arith, omega arith)
    go true true c f g k t = absurd (false≢true (sym t))
    go true false true f g k t = absurd (false≢true (sym t))
    go true false false f g k t = let l = k refl in let s = g refl in (l, omega arith)

-- where the input ends there, that job is the last
pub stream_cut : (n : ℕ) (bytes : List ℕ) → 0 < length bytes → ready bytes ≡ false → stream_from n bytes ≡ front_text n bytes
stream_cut n bytes h r =
    let l = (unready bytes r).0 in
    stream_front n bytes h
    ∙ ap (λ t. front_text n bytes ++ stream_from (suc n) t) (drop_of_length-le bytes {i = frame_length bytes} (omega arith))
    ∙ ap (λ t. front_text n bytes ++ t) (stream_none (suc n))
    ∙ append-nil (front_text n bytes)
