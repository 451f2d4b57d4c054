-- `work_memory::fit::table_fits` meets its contract. Assumes nothing.
use Rattle.loops.proofs.Loop.{loops}
use Rattle.work_memory.specs.Lengths.{table_fits}
use Rattle.work_memory.proofs.fit.table_fits.Goals as goal

ruleset known = (loops)

pub wide-n-requires : goal.wide-n-requires
unfolding table_fits
wide-n-requires c =
    search known

pub wide-b-requires : goal.wide-b-requires
unfolding table_fits
wide-b-requires c =
    search known

pub overflow_mul-result : goal.overflow_mul-result
unfolding table_fits
overflow_mul-result c =
    search known

pub overflow_mul-result-2 : goal.overflow_mul-result-2
unfolding table_fits
overflow_mul-result-2 c =
    search known

pub overflow_mul-result-3 : goal.overflow_mul-result-3
unfolding table_fits
overflow_mul-result-3 c =
    search known

pub overflow_mul-result-4 : goal.overflow_mul-result-4
unfolding table_fits
overflow_mul-result-4 c =
    search known

pub returns : goal.returns
unfolding table_fits
returns c =
    rw (c.wide-n.ensures, c.wide-b.ensures)
