-- `job_stream::chunk::write_at` meets its contract. Assumes nothing.
use mathlib.Core.Path.{ap}
use native.Mathlib.Omega.{arith}
use Rattle.pairs.proofs.Parted.{rest_is}
use Rattle.listing.proofs.Joined.{wrote_as}
use Rattle.job_sheet.proofs.Behind.{wrote_behind, behind_end}
use Rattle.job_stream.specs.Stream.{front_text}
use Rattle.job_stream.proofs.chunk.write_at.Goals as goal

pub overflow_add-result : goal.overflow_add-result
overflow_add-result c =
    let e = behind_end c.args.out.now c.args.end _ _ _ (omega (arith, c.requires.end_in_bounds)) c.write_front-more.ensures in let g = c.well_formed.1.1.1.0.0 in omega arith

pub returns : goal.returns
returns c =
    wrote_as (ap (λ l. front_text c.args.number l) (rest_is c.args.at c.args.bytes.now)) (wrote_behind c.args.out.now c.args.end _ _ _ (omega (arith, c.requires.end_in_bounds)) c.write_front-more.ensures)
