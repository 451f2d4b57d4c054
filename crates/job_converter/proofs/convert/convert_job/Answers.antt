-- `job_converter::convert::convert_job` meets its contract. Assumes nothing.
use Rattle.std.proofs.Common.{arith, sym, ◌∙◌}
use Rattle.refusals.proofs.Again.{told_again}
use Rattle.job_writer.proofs.Ways.{answers_refused, answers_written}
use Rattle.job_converter.proofs.Opening.{opened_file}
use Rattle.job_converter.proofs.Ways.{output_known, convert_early, convert_3, convert_last, convert_going}
use Rattle.job_converter.proofs.Printing.{wrote_converted}
use Rattle.job_converter.proofs.convert.convert_job.Goals as goal

pub returns-in_err-trailer : goal.returns-in_err-trailer
returns-in_err-trailer c =
    rw (told_again _ _ c.from_residual.ensures.1) (answers_refused (convert_early _ _ _ c.in_err-trailer.ensures))

pub output_fits-requires : goal.output_fits-requires
output_fits-requires c =
    let opened = opened_file _ c.in_ok-trailer.ensures in
    (opened.few_rows, opened.few_bodies)

pub returns-then-not-output_fits : goal.returns-then-not-output_fits
returns-then-not-output_fits c =
    answers_refused (convert_3 _ _ _ c.in_ok-trailer.ensures (sym c.output_fits.ensures ∙ c.if-not-output_fits.true))

pub judge_last-requires : goal.judge_last-requires
judge_last-requires c = opened_file _ c.in_ok-trailer.ensures

pub returns-in_err-judge_last : goal.returns-in_err-judge_last
returns-in_err-judge_last c =
    let fit = sym c.output_fits.ensures ∙ c.if-not-output_fits.false in
    rw (told_again _ _ c.from_residual-in_err-judge_last.ensures.1) (answers_refused (convert_last _ _ _ c.in_ok-trailer.ensures fit c.in_err-judge_last.ensures))

pub fill_converted-requires : goal.fill_converted-requires
fill_converted-requires c =
    let known = output_known _ _ _ (sym c.output_fits.ensures ∙ c.if-not-output_fits.false) in
    record { opened = opened_file _ c.in_ok-trailer.ensures; layout_bound = (known.0, omega arith) }

pub returns : goal.returns
returns c =
    let fit = sym c.output_fits.ensures ∙ c.if-not-output_fits.false in
    let wrote = wrote_converted _ (opened_file _ c.in_ok-trailer.ensures) (output_known _ _ _ fit).1 c.fill_converted.ensures in
    answers_written (convert_going _ _ _ c.in_ok-trailer.ensures fit c.in_ok-judge_last.ensures) wrote
