-- The ways through the functions of the job at the front: whether it is ready, and what is printed of it. Assumes nothing.
use Prim.Native.Nat.{ℕ, ◌-◌, ◌<◌, ◌≤◌}
use mathlib.Core.Path.{◌≡◌}
use mathlib.Core.Bool.{true, false}
use mathlib.Core.List.{List}
use native.Mathlib.Omega.{arith}
use lib.Dec.{leb}
use lib.ListN.{length, take, drop}
use borrow.Author.Tests.{le-leb, lt-leb, lt-ltb, le-ltb}
use Rattle.little_endian.specs.Words.{half_at}
use Rattle.listing.specs.Listing.{refused_listing}
use Rattle.job_sheet.specs.Sheet.{sheet_of}
use Rattle.job_sheet.specs.declared.which.Sheet.TheVariants as sheets
use Rattle.job_stream.specs.Stream.{frame_length, front_file, front_sheet}
use Rattle.job_stream.specs.Chunk.{ready}
use Rattle.job_stream.proofs.Stream.{frame_long}

module _ (bytes : List ℕ) where
  pub ready_short : length bytes < 4 → false ≡ ready bytes
  unfolding ready
  ready_short h = rw (lt-leb 4 (length bytes) h)

  pub sheet_cut : length bytes < frame_length bytes → refused_listing 1 ≡ front_sheet bytes
  unfolding front_sheet
  sheet_cut h = rw (lt-leb (frame_length bytes) (length bytes) h)

  pub sheet_short : length bytes < 4 → refused_listing 1 ≡ front_sheet bytes
  sheet_short h = sheet_cut (omega (arith, frame_long bytes))

  -- the call's answer
  module _ {end : ℕ} (e : end ≡ frame_length bytes) where
    pub frame_over : 4 ≤ end
    frame_over = omega (arith, frame_long bytes)

    pub ready_long : 4 ≤ length bytes → 65540 < end → true ≡ ready bytes
    unfolding ready
    ready_long h l = let g : 65540 < frame_length bytes = rw e at l in rw (le-leb 4 (length bytes) h, lt-ltb 65540 (frame_length bytes) g)

    pub ready_whole : 4 ≤ length bytes → end ≤ 65540 → leb end (length bytes) ≡ ready bytes
    unfolding ready
    ready_whole h l = let g : frame_length bytes ≤ 65540 = rw e at l in rw (e, le-leb 4 (length bytes) h, le-ltb 65540 (frame_length bytes) g)

    pub sheet_ends : length bytes < end → refused_listing 1 ≡ front_sheet bytes
    sheet_ends l = sheet_cut (rw e at l)

    -- the file as it is lent
    pub sheet_whole : end ≤ length bytes → sheet_of sheets.Job (take (end - 4) (drop 4 bytes)) ≡ front_sheet bytes
    unfolding front_sheet front_file
    sheet_whole l =
        let g : frame_length bytes ≤ length bytes = rw e at l in
        let k : end - 4 ≡ half_at bytes 0 = rw e (unfold frame_length in omega arith) in
        rw (le-leb (frame_length bytes) (length bytes) g, k)
