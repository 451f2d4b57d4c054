-- A chunk and what follows it: a job that is ready is printed the same whatever follows. Assumes nothing.
use Prim.Native.Nat.{ℕ, zero, suc, ◌+◌, ◌-◌, ◌<◌, ◌≤◌}
use mathlib.Core.Path.{◌≡◌, refl, sym, ap, ◌∙◌}
use mathlib.Core.Bool.{Bool, true, false, ◌&&◌, ◌||◌, cond, false≢true}
use mathlib.Core.List.{List, ◌++◌}
use native.Mathlib.Omega.{arith}
use lib.Dec.{leb, ltb}
use lib.ListN.{length, drop, length-append, length-take, length-drop, get_or-append}
use lib.Seq.{take-append-le, drop-append-le}
use borrow.Author.Tests.{leb-true, le-leb, lt-leb, ltb-true}
use Rattle.loops.specs.Run.{on, check}
use Rattle.loops.specs.Judge.{judge, test}
use Rattle.little_endian.specs.Words.{half_at}
use Rattle.listing.specs.Written.{pieces}
use Rattle.listing.specs.Listing.{refused_listing}
use Rattle.job_file.specs.Refusals.{size_fits, passes1}
use Rattle.job_file.specs.Job.{job_of}
use Rattle.job_sheet.specs.declared.which.Sheet.{Sheet}
use Rattle.job_sheet.specs.Sheet.{file_turned, sheet_of}
use Rattle.job_sheet.specs.declared.which.Sheet.TheVariants as sheets
use Rattle.job_stream.specs.Stream.{job_line, frame_length, front_file, front_sheet, front_text}
use Rattle.job_stream.specs.Chunk.{ready, place, rest, chunk_text}

-- ---- 1 of a long file
long_not_1 : (file : List ℕ) → 65536 < length file → passes1 file ≡ false
unfolding passes1 size_fits
long_not_1 file h = rw (lt-leb (length file) 65536 h) (go (leb 48 (length file)))
  where
    go : (b : Bool) → b && false ≡ false
    go true = refl
    go false = refl

pub long_refused : (sheet : Sheet) (file : List ℕ) → 65536 < length file → sheet_of sheet file ≡ refused_listing 1
unfolding sheet_of file_turned job_of judge test check on
long_refused sheet file h = rw (long_not_1 file h)

-- ---- the job at the front
pub record Ready (bytes : List ℕ) : Type 0 where
  pub begun : 4 ≤ length bytes
  pub known : leb (frame_length bytes) (length bytes) ≡ false → 65540 < frame_length bytes

pub is_ready : (bytes : List ℕ) → ready bytes ≡ true → Ready bytes
unfolding ready
is_ready bytes h = go (leb 4 (length bytes)) (ltb 65540 (frame_length bytes)) (leb (frame_length bytes) (length bytes)) (leb-true 4 (length bytes)) (ltb-true 65540 (frame_length bytes)) refl h
  where
    go : (a b c : Bool) → (a ≡ true → 4 ≤ length bytes) → (b ≡ true → 65540 < frame_length bytes) → leb (frame_length bytes) (length bytes) ≡ c → a && (b || c) ≡ true → Ready bytes
    go false b c f g e t = absurd (false≢true t)
    go true true c f g e t = record { begun = f refl; known = λ _. g refl }
    go true false true f g e t = record { begun = f refl; known = λ n. absurd (false≢true (sym n ∙ e)) }
    go true false false f g e t = absurd (false≢true t)

module _ (bytes more : List ℕ) (h : 4 ≤ length bytes) where
  half_same : half_at (bytes ++ more) 0 ≡ half_at bytes 0
  unfolding half_at
  half_same = rw (get_or-append bytes more 0 0 (omega arith), get_or-append bytes more 0 1 (omega arith), get_or-append bytes more 0 2 (omega arith), get_or-append bytes more 0 3 (omega arith))

  pub frame_same : frame_length (bytes ++ more) ≡ frame_length bytes
  unfolding frame_length
  frame_same = rw half_same

  -- its file is there
  file_same : frame_length bytes ≤ length bytes → front_file (bytes ++ more) ≡ front_file bytes
  unfolding front_file frame_length
  file_same l = rw (half_same, drop-append-le 4 bytes more h, take-append-le (half_at bytes 0) (drop 4 bytes) more (rw length-drop (omega arith)))

file_long : (bytes : List ℕ) → frame_length bytes ≤ length bytes → 65540 < frame_length bytes → 65536 < length (front_file bytes)
unfolding front_file frame_length
file_long bytes l h = rw (length-take, length-drop) (omega arith)

module _ (bytes more : List ℕ) (r : Ready bytes) where
  sheet_same : front_sheet (bytes ++ more) ≡ front_sheet bytes
  unfolding front_sheet
  sheet_same = go (leb (frame_length bytes) (length bytes)) refl
    where
      e : frame_length (bytes ++ more) ≡ frame_length bytes
      e = frame_same bytes more r.begun

      joined : length (bytes ++ more) ≡ length bytes + length more
      joined = length-append bytes more

      -- refused, whether or not the file is there by now
      refused : 65540 < frame_length bytes → (b : Bool) → leb (frame_length (bytes ++ more)) (length (bytes ++ more)) ≡ b → cond b (sheet_of sheets.Job (front_file (bytes ++ more))) (refused_listing 1) ≡ refused_listing 1
      refused s true t = long_refused _ (front_file (bytes ++ more)) (file_long (bytes ++ more) (leb-true _ _ t) (rw e s))
      refused s false t = refl

      go : (b : Bool) → leb (frame_length bytes) (length bytes) ≡ b → cond (leb (frame_length (bytes ++ more)) (length (bytes ++ more))) (sheet_of sheets.Job (front_file (bytes ++ more))) (refused_listing 1) ≡ cond b (sheet_of sheets.Job (front_file bytes)) (refused_listing 1)
      go true t =
          let l = leb-true (frame_length bytes) (length bytes) t in
          let s : frame_length (bytes ++ more) ≤ length (bytes ++ more) = rw (e, joined) (omega arith) in
          rw (le-leb _ _ s, file_same bytes more r.begun l)
      go false t = refused (r.known t) (leb (frame_length (bytes ++ more)) (length (bytes ++ more))) refl

  pub front_same : (n : ℕ) → front_text n (bytes ++ more) ≡ front_text n bytes
  unfolding front_text
  front_same n = ap (λ l. job_line n ++ l) sheet_same

-- ---- the jobs of the chunk, where each of k is ready
module _ (bytes more : List ℕ) where
  begins : (i : ℕ) → Ready (rest bytes i) → place bytes i + 4 ≤ length bytes
  begins i r = let l = r.begun in let e = length-drop (place bytes i) bytes in omega arith

  rest_joined : (i : ℕ) → Ready (rest bytes i) → drop (place bytes i) (bytes ++ more) ≡ rest bytes i ++ more
  rest_joined i r = drop-append-le (place bytes i) bytes more (let l = begins i r in omega arith)

  pub place_same : (k : ℕ) → ((i : ℕ) → i < k → Ready (rest bytes i)) → place (bytes ++ more) k ≡ place bytes k
  unfolding place
  place_same zero h = refl
  place_same (suc k) h =
      let r = h k (omega arith) in
      rw (place_same k (λ i l. h i (omega arith)), rest_joined k r, frame_same (rest bytes k) more r.begun)

  pub within_joined : (k : ℕ) → ((i : ℕ) → i < k → Ready (rest bytes i)) → (i : ℕ) → i < k → place (bytes ++ more) i < length (bytes ++ more)
  within_joined k h i l = let b = begins i (h i l) in rw (place_same i (λ j s. h j (omega arith)), length-append) (omega arith)

  pub text_same : (n k : ℕ) → ((i : ℕ) → i < k → Ready (rest bytes i)) → chunk_text n (bytes ++ more) k ≡ chunk_text n bytes k
  unfolding chunk_text pieces
  text_same n zero h = refl
  text_same n (suc k) h =
      let r = h k (omega arith) in
      let e : rest (bytes ++ more) k ≡ rest bytes k ++ more = rw (place_same k (λ i l. h i (omega arith))) (rest_joined k r) in
      rw (text_same n k (λ i l. h i (omega arith)), e, front_same (rest bytes k) more r (n + k))
