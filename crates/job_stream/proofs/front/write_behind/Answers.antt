-- `job_stream::front::write_behind` meets its contract. Assumes nothing.
use native.Mathlib.Omega.{arith}
use Rattle.job_sheet.proofs.Behind.{wrote_behind, behind_end}
use Rattle.job_stream.proofs.front.write_behind.Goals as goal

pub overflow_add-result : goal.overflow_add-result
overflow_add-result c =
    let e = behind_end c.args.out.now c.args.at _ _ _ (omega (arith, c.requires)) c.write_front_sheet-end.ensures in let g = c.well_formed.1.0.0 in omega arith

pub returns : goal.returns
returns c =
    wrote_behind c.args.out.now c.args.at _ _ _ (omega (arith, c.requires)) c.write_front_sheet-end.ensures
