-- `job_file::judge::judge_trailer` meets its contract. Assumes nothing.
use Rattle.job_file.proofs.Judgement.{spare_known, opened_short, opened_1, opened_2, opened_3, opened_passed}
use native.Mathlib.Omega.{arith}
use Rattle.job_file.proofs.judge.judge_trailer.Goals as goal

pub returns-then-length-lt-TRAILER_BYTES : goal.returns-then-length-lt-TRAILER_BYTES
returns-then-length-lt-TRAILER_BYTES c = opened_short _ (omega arith)

pub returns-then-not-size_fits : goal.returns-then-not-size_fits
returns-then-not-size_fits c = opened_1 _ (omega arith) c.read_trailer-trailer.ensures c.size_fits.ensures c.if-not-size_fits.true

pub sections_fit-requires : goal.sections_fit-requires
sections_fit-requires c = spare_known _ _ c.size_fits.ensures c.if-not-size_fits.false

pub returns-then-not-sections_fit : goal.returns-then-not-sections_fit
returns-then-not-sections_fit c = opened_2 _ (omega arith) c.read_trailer-trailer.ensures c.size_fits.ensures c.if-not-size_fits.false c.sections_fit.ensures c.if-not-sections_fit.true

pub returns-then-not-counts_fit : goal.returns-then-not-counts_fit
returns-then-not-counts_fit c = opened_3 _ (omega arith) c.read_trailer-trailer.ensures c.size_fits.ensures c.if-not-size_fits.false c.sections_fit.ensures c.if-not-sections_fit.false c.counts_fit.ensures c.if-not-counts_fit.true

pub returns : goal.returns
returns c = opened_passed _ (omega arith) c.read_trailer-trailer.ensures c.size_fits.ensures c.if-not-size_fits.false c.sections_fit.ensures c.if-not-sections_fit.false c.counts_fit.ensures c.if-not-counts_fit.false
