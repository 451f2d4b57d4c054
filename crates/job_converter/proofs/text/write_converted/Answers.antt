-- `job_converter::text::write_converted` meets its contract. Assumes nothing.
use Rattle.std.proofs.Common.{arith, sym}
use Rattle.refusals.proofs.Few.{number_fits}
use Rattle.listing.proofs.Joined.{wrote_as}
use Rattle.job_converter.proofs.Opening.{opened_file}
use Rattle.job_converter.proofs.Ways.{output_unknown, output_printed, convert_early, convert_3, convert_last, convert_going}
use Rattle.job_converter.proofs.Printing.{refused_room, converted_short, printed_refused, printed_written}
use Rattle.job_converter.proofs.text.write_converted.Goals as goal

pub write_refused-requires : goal.write_refused-requires
write_refused-requires c = refused_room _ _ (number_fits _) c.requires

pub returns-in-Err : goal.returns-in-Err
returns-in-Err c = wrote_as (printed_refused _ _ (convert_early _ _ _ c.in-Err.ensures)) c.write_refused.ensures

pub write_refused-requires-then-layout-gt1 : goal.write_refused-requires-then-layout-gt1
write_refused-requires-then-layout-gt1 c = refused_room _ _ (omega arith) c.requires

pub returns-then-layout-gt1 : goal.returns-then-layout-gt1
returns-then-layout-gt1 c =
    wrote_as (printed_refused _ _ (convert_3 _ _ _ c.in-Ok.ensures (sym (output_unknown _ _ _ (omega arith))))) c.write_refused-then-layout-gt1.ensures

pub judge_last-requires : goal.judge_last-requires
judge_last-requires c = opened_file _ c.in-Ok.ensures

pub write_refused-requires-in-Err-judge_last : goal.write_refused-requires-in-Err-judge_last
write_refused-requires-in-Err-judge_last c = refused_room _ _ (number_fits _) c.requires

pub returns-in-Err-judge_last : goal.returns-in-Err-judge_last
returns-in-Err-judge_last c =
    let fit = output_printed (opened_file _ c.in-Ok.ensures) _ (omega arith) in
    wrote_as (printed_refused _ _ (convert_last _ _ _ c.in-Ok.ensures fit c.in-Err-judge_last.ensures)) c.write_refused-in-Err-judge_last.ensures

pub fill_converted-requires : goal.fill_converted-requires
fill_converted-requires c =
    let opened = opened_file _ c.in-Ok.ensures in
    let short = converted_short c.args.layout opened (omega arith) in
    record { opened = opened; layout_bound = (omega arith, omega arith) }

pub returns : goal.returns
returns c =
    let fit = output_printed (opened_file _ c.in-Ok.ensures) _ (omega arith) in
    wrote_as (printed_written _ _ (convert_going _ _ _ c.in-Ok.ensures fit c.in_default.ensures)) c.fill_converted.ensures
