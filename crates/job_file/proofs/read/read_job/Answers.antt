-- `job_file::read::read_job` meets its contract. Assumes nothing.
use Rattle.std.proofs.Common.{refl}
use Rattle.refusals.proofs.Again.{told_again}
use Rattle.job_file.proofs.Judgement.{rows_inside, masses_inside}
use Rattle.job_file.proofs.Reading.{reads_early, reads_3, reads_4, reads_passed, numbers_long, words_long, masses_long, centres_long}
use Rattle.job_file.proofs.read.read_job.Goals as goal

pub returns-in_err-trailer : goal.returns-in_err-trailer
returns-in_err-trailer c = rw (told_again _ _ c.from_residual.ensures.1) (reads_early _ _ _ _ _ c.in_err-trailer.ensures refl)

pub returns-then-not-lengths_fit : goal.returns-then-not-lengths_fit
returns-then-not-lengths_fit c = reads_3 _ _ _ _ _ c.in_ok-trailer.ensures refl c.lengths_fit.ensures c.if-not-lengths_fit.true

pub keys_fit-requires : goal.keys_fit-requires
keys_fit-requires c = rows_inside _ c.in_ok-trailer.ensures refl

pub returns-then-not-keys_fit : goal.returns-then-not-keys_fit
returns-then-not-keys_fit c =
    reads_4 _ _ _ _ _ c.in_ok-trailer.ensures refl c.lengths_fit.ensures c.if-not-lengths_fit.false c.keys_fit.ensures c.if-not-keys_fit.true

pub read_rows-requires : goal.read_rows-requires
read_rows-requires c =
    let fit = c.if-not-lengths_fit.false in
    (rows_inside _ c.in_ok-trailer.ensures refl, numbers_long _ _ _ _ _ c.lengths_fit.ensures fit, words_long _ _ _ _ _ c.lengths_fit.ensures fit)

pub read_masses-requires : goal.read_masses-requires
read_masses-requires c =
    (masses_inside _ c.in_ok-trailer.ensures refl, masses_long _ _ _ _ _ c.lengths_fit.ensures c.if-not-lengths_fit.false)

pub read_centres-requires : goal.read_centres-requires
read_centres-requires c =
    (masses_inside _ c.in_ok-trailer.ensures refl, centres_long _ _ _ _ _ c.lengths_fit.ensures c.if-not-lengths_fit.false)

pub returns : goal.returns
returns c =
    let fit = c.if-not-lengths_fit.false in
    let rows = c.read_rows.ensures in
    reads_passed _ _ _ _ _ c.in_ok-trailer.ensures refl c.lengths_fit.ensures fit c.keys_fit.ensures c.if-not-keys_fit.false
    rows.0 rows.1 c.read_masses.ensures c.read_centres.ensures
