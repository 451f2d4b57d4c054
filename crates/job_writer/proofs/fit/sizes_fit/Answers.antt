-- `job_writer::fit::sizes_fit` meets its contract. Assumes nothing.
use Rattle.std.proofs.Common.{◌∙◌}
use Rattle.job_writer.proofs.Ways.{head_known, sizes_head, sizes_lengths}
use Rattle.job_writer.proofs.fit.sizes_fit.Goals as goal

pub returns-then-not-head_fits : goal.returns-then-not-head_fits
returns-then-not-head_fits c = sizes_head _ _ _ _ _ _ (cc)

pub lengths_fit-requires : goal.lengths_fit-requires
lengths_fit-requires c = (c.requires.0, c.requires.1, (head_known c.args.head (cc)).1)

pub returns : goal.returns
returns c = c.lengths_fit.ensures ∙ sizes_lengths _ _ _ _ _ _ (cc)
