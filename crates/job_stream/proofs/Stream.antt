-- The stream's text job by job: `stream_front`, `stream_none`, and of its first jobs together `stream_pieces`. Assumes nothing.
use Prim.Native.Nat.{ℕ, zero, suc, ◌+◌, ◌<◌, ◌≤◌}
use mathlib.Core.Path.{◌≡◌, refl, sym, ap, ◌∙◌}
use mathlib.Core.Bool.{Bool, true, false, cond}
use mathlib.Core.List.{List, [], ◌++◌, append_assoc}
use native.Mathlib.Omega.{arith}
use lib.Dec.{ltb}
use lib.ListN.{length, drop, length-drop}
use lib.Seq.{drop-drop}
use borrow.Author.Tests.{lt-ltb, le-ltb}
use Rattle.listing.specs.Written.{pieces}
use Rattle.job_stream.specs.Stream.{frame_length, front_text, stream_by, stream_from}
use Rattle.job_stream.specs.Chunk.{place, rest, chunk_text}

pub frame_long : (bytes : List ℕ) → 4 ≤ frame_length bytes
unfolding frame_length
frame_long bytes = omega arith

-- the count down does not matter, once it is as long as the bytes
counted : (j k n : ℕ) (bytes : List ℕ) → length bytes ≤ j → length bytes ≤ k → stream_by j n bytes ≡ stream_by k n bytes
unfolding stream_by
counted zero zero n bytes h g = refl
counted zero (suc k) n bytes h g = rw (le-ltb 0 (length bytes) h)
counted (suc j) zero n bytes h g = rw (le-ltb 0 (length bytes) g)
counted (suc j) (suc k) n bytes h g = go (ltb 0 (length bytes)) (counted j k (suc n) (drop (frame_length bytes) bytes) (rw length-drop (omega (arith, frame_long bytes))) (rw length-drop (omega (arith, frame_long bytes))))
  where
    go : (b : Bool) → stream_by j (suc n) (drop (frame_length bytes) bytes) ≡ stream_by k (suc n) (drop (frame_length bytes) bytes)
        → cond b (front_text n bytes ++ stream_by j (suc n) (drop (frame_length bytes) bytes)) [] ≡ cond b (front_text n bytes ++ stream_by k (suc n) (drop (frame_length bytes) bytes)) []
    go true e = ap (λ l. front_text n bytes ++ l) e
    go false e = refl

pub stream_none : (n : ℕ) → stream_from n [] ≡ []
unfolding stream_from stream_by
stream_none n = refl

once : (n : ℕ) (bytes : List ℕ) → 0 < length bytes → stream_by (suc (length bytes)) n bytes ≡ front_text n bytes ++ stream_by (length bytes) (suc n) (drop (frame_length bytes) bytes)
unfolding stream_by
once n bytes h = rw (lt-ltb 0 (length bytes) h)

pub stream_front : (n : ℕ) (bytes : List ℕ) → 0 < length bytes → stream_from n bytes ≡ front_text n bytes ++ stream_from (suc n) (drop (frame_length bytes) bytes)
unfolding stream_from
stream_front n bytes h =
    counted (length bytes) (suc (length bytes)) n bytes (omega arith) (omega arith)
    ∙ once n bytes h
    ∙ ap (λ l. front_text n bytes ++ l) (counted (length bytes) (length (drop (frame_length bytes) bytes)) (suc n) (drop (frame_length bytes) bytes) (rw length-drop (omega arith)) (omega arith))

-- of k jobs that begin within the stream, and of what is left after them
pub stream_pieces : (n : ℕ) (bytes : List ℕ) (k : ℕ) → ((i : ℕ) → i < k → place bytes i < length bytes) → stream_from n bytes ≡ chunk_text n bytes k ++ stream_from (n + k) (rest bytes k)
unfolding chunk_text pieces place
stream_pieces n bytes zero h = let e : n + 0 ≡ n = omega arith in rw e
stream_pieces n bytes (suc k) h =
    let left = rest bytes k in
    let l : 0 < length left = rw length-drop (omega (arith, h k (omega arith))) in
    let e : n + suc k ≡ suc (n + k) = omega arith in
    stream_pieces n bytes k (λ i s. h i (omega arith))
    ∙ ap (λ t. chunk_text n bytes k ++ t) (stream_front (n + k) left l)
    ∙ sym (append_assoc (chunk_text n bytes k) (front_text (n + k) left) (stream_from (suc (n + k)) (drop (frame_length left) left)))
    ∙ rw (e, drop-drop (frame_length left) (place bytes k) bytes)
