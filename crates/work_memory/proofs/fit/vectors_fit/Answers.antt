-- `work_memory::fit::vectors_fit` meets its contract. Assumes nothing.
use Rattle.loops.proofs.Loop.{loops}
use Rattle.work_memory.specs.Lengths.{vectors_fit}
use Rattle.work_memory.proofs.fit.vectors_fit.Goals as goal

ruleset known = (loops)

pub wide-n-requires : goal.wide-n-requires
unfolding vectors_fit
wide-n-requires c =
    search known

pub wide-b-requires : goal.wide-b-requires
unfolding vectors_fit
wide-b-requires c =
    search known

pub overflow_mul-result : goal.overflow_mul-result
unfolding vectors_fit
overflow_mul-result c =
    search known

pub overflow_mul-result-2 : goal.overflow_mul-result-2
unfolding vectors_fit
overflow_mul-result-2 c =
    search known

pub overflow_mul-result-3 : goal.overflow_mul-result-3
unfolding vectors_fit
overflow_mul-result-3 c =
    search known

pub returns : goal.returns
unfolding vectors_fit
returns c =
    rw (c.wide-n.ensures, c.wide-b.ensures)
