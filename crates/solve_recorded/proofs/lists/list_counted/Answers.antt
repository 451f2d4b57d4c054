-- `solve_recorded::lists::list_counted` meets its contract. Assumes nothing.
use Rattle.std.proofs.Common.{◌-◌, arith}
use Rattle.loops.proofs.Loop.{loops}
use Rattle.solve_recorded.proofs.Counting.{jobs_none, jobs_more, jobs_end, list_missing, begins_within}
use Rattle.solve_recorded.proofs.lists.list_counted.Goals as goal

pub begins-requires : goal.begins-requires
begins-requires c =
    c.requires

pub missing-requires : goal.missing-requires
missing-requires c =
    record {}

pub returns-then-not-begins : goal.returns-then-not-begins
returns-then-not-begins c =
    list_missing c.args.kind _ _ _ _ c.begins.ensures c.if-not-begins.true-raw c.missing.ensures

pub overflow_add-at : goal.overflow_add-at
overflow_add-at c =
    omega (arith, begins_within c.args.list.now _ _ c.begins.ensures c.if-not-begins.false-raw, c.requires)

pub half-jobs-requires : goal.half-jobs-requires
half-jobs-requires c =
    omega (arith, begins_within c.args.list.now _ _ c.begins.ensures c.if-not-begins.false-raw, c.requires)

pub overflow_add-at-2 : goal.overflow_add-at-2
overflow_add-at-2 c =
    omega (arith, begins_within c.args.list.now _ _ c.begins.ensures c.if-not-begins.false-raw, c.requires)

pub from-count-requires : goal.from-count-requires
from-count-requires c =
    record {}

pub loop-i-init : goal.loop-i-init
loop-i-init c =
    search (jobs_none, loops)

pub next_counted-count-requires : goal.next_counted-count-requires
next_counted-count-requires c =
    c.requires

pub overflow_add-i : goal.overflow_add-i
overflow_add-i c =
    search loops

pub loop-i-smaller : goal.loop-i-smaller
loop-i-smaller c =
    search loops

pub loop-i-preserved : goal.loop-i-preserved
loop-i-preserved c =
    search (jobs_more, loops)

pub returns : goal.returns
returns c =
    jobs_end c.args.kind _ _ _ _ _ c.begins.ensures c.if-not-begins.false-raw c.half-jobs.ensures.value c.from-count.ensures c.loop-i.invariant (omega (arith, c.loop-i-test.false))
