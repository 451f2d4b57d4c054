-- `job_stream::front::write_front` meets its contract. Assumes nothing.
use native.Mathlib.Omega.{arith}
use borrow.Author.Rules.{rules}
use Rattle.listing.proofs.Joined.{wrote_join, length_wrote}
use Rattle.job_stream.specs.Stream.{front_text}
use Rattle.job_stream.proofs.Line.{job_room, sheet_room}
use Rattle.job_stream.proofs.front.write_front.Goals as goal

pub job_line-at-requires : goal.job_line-at-requires
unfolding front_text
job_line-at-requires c =
    job_room _ _ (search rules) (omega (arith, c.requires))

pub write_behind-requires : goal.write_behind-requires
unfolding front_text
write_behind-requires c =
    sheet_room c.args.out.now _ c.args.number _ (search rules) (omega (arith, c.requires)) (length_wrote c.job_line-at.ensures) c.job_line-at.ensures

pub returns : goal.returns
unfolding front_text
returns c =
    wrote_join c.job_line-at.ensures c.write_behind.ensures
