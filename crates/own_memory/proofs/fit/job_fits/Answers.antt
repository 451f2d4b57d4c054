-- `own_memory::fit::job_fits` meets its contract. Assumes nothing.
use borrow.Author.Rules.{rules}
use Rattle.own_memory.specs.Job.{job_fits}
use Rattle.own_memory.proofs.fit.job_fits.Goals as goal

pub rules_lent-requires : goal.rules_lent-requires
unfolding job_fits
rules_lent-requires c =
    search rules

pub beside_lent-requires : goal.beside_lent-requires
unfolding job_fits
beside_lent-requires c =
    search rules

pub counts_fit-requires : goal.counts_fit-requires
unfolding job_fits
counts_fit-requires c =
    search rules

pub table_fits-requires : goal.table_fits-requires
unfolding job_fits
table_fits-requires c =
    search rules

pub returns : goal.returns
unfolding job_fits
returns c =
    rw (c.rules_lent.ensures, c.beside_lent.ensures, c.counts_fit.ensures, c.table_fits.ensures)
