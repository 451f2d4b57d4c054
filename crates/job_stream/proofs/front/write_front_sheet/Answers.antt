-- `job_stream::front::write_front_sheet` meets its contract. Assumes nothing.
use native.Mathlib.Omega.{arith}
use borrow.Author.Rules.{rules}
use Rattle.listing.proofs.Joined.{wrote_as}
use Rattle.listing.proofs.Length.{refused_room}
use Rattle.job_stream.proofs.Ways.{frame_over, sheet_short, sheet_ends, sheet_whole}
use Rattle.job_stream.proofs.front.write_front_sheet.Goals as goal

pub write_refusal-requires : goal.write_refusal-requires
write_refusal-requires c =
    refused_room _ _ (omega arith) (omega (arith, c.requires))

pub returns-then-bytes-lt4 : goal.returns-then-bytes-lt4
returns-then-bytes-lt4 c =
    wrote_as (sheet_short _ (search rules)) c.write_refusal.ensures

pub write_refusal-requires-then-bytes-end : goal.write_refusal-requires-then-bytes-end
write_refusal-requires-then-bytes-end c =
    refused_room _ _ (omega arith) (omega (arith, c.requires))

pub returns-then-bytes-end : goal.returns-then-bytes-end
returns-then-bytes-end c =
    wrote_as (sheet_ends _ c.frame_length-end.ensures.value (search rules)) c.write_refusal-then-bytes-end.ensures

pub slice_bounds-write_sheet-count : goal.slice_bounds-write_sheet-count
slice_bounds-write_sheet-count c =
    frame_over _ c.frame_length-end.ensures.value

pub slice_bounds-write_sheet-start : goal.slice_bounds-write_sheet-start
slice_bounds-write_sheet-start c =
    frame_over _ c.frame_length-end.ensures.value

pub slice_bounds-write_sheet-end : goal.slice_bounds-write_sheet-end
slice_bounds-write_sheet-end c =
    let h = frame_over _ c.frame_length-end.ensures.value in search rules

pub returns : goal.returns
returns c =
    wrote_as (sheet_whole _ c.frame_length-end.ensures.value (search rules)) c.write_sheet.ensures
