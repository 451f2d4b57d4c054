-- `job_writer::whole::write_job` meets its contract. Assumes nothing.
use Rattle.std.proofs.Common.{arith, sym, ◌∙◌}
use Rattle.job_writer.specs.Refusals.{written_of}
use Rattle.job_writer.proofs.Sizes.{room_whole, wrote_whole}
use Rattle.job_writer.proofs.Ways.{answers_refused, answers_written, way_2, way_3, way_4, way_24, way_written, few, lent, words_long, out_long}
use Rattle.job_writer.proofs.whole.write_job.Goals as goal

pub returns-then-not-limits_fit : goal.returns-then-not-limits_fit
unfolding written_of
returns-then-not-limits_fit c = answers_refused (way_2 _ _ _ _ _ (cc))

pub sizes_fit-requires : goal.sizes_fit-requires
sizes_fit-requires c = few c.args.head (cc)

pub returns-then-not-sizes_fit : goal.returns-then-not-sizes_fit
unfolding written_of
returns-then-not-sizes_fit c = answers_refused (way_3 _ _ _ _ _ (cc) (cc))

pub words_fit-requires : goal.words_fit-requires
words_fit-requires c =
    let long = words_long c.args.head _ _ _ _ _ (sym c.sizes_fit.ensures ∙ c.if-not-sizes_fit.false) in omega arith

pub returns-then-not-words_fit : goal.returns-then-not-words_fit
unfolding written_of
returns-then-not-words_fit c = answers_refused (way_4 _ _ _ _ _ (cc) (cc) (cc))

pub returns-then-not-centres_fit : goal.returns-then-not-centres_fit
unfolding written_of
returns-then-not-centres_fit c = answers_refused (way_24 _ _ _ _ _ (cc) (cc) (cc) (cc))

pub fill_job-requires : goal.fill_job-requires
fill_job-requires c =
    let fit = sym c.sizes_fit.ensures ∙ c.if-not-sizes_fit.false in
    (lent _ _ _ _ _ _ (cc) fit, room_whole _ (out_long c.args.head _ _ _ _ _ fit))

pub returns : goal.returns
unfolding written_of
returns c =
    let long = out_long c.args.head _ _ _ _ _ (sym c.sizes_fit.ensures ∙ c.if-not-sizes_fit.false) in
    answers_written (way_written _ _ _ _ _ (cc) (cc) (cc) (cc)) (wrote_whole _ long c.fill_job.ensures)
