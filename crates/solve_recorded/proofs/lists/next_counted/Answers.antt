-- `solve_recorded::lists::next_counted` meets its contract. Assumes nothing.
use Rattle.std.proofs.Common.{arith}
use Rattle.solve_recorded.proofs.Counting.{next_missing, next_seen}
use Rattle.solve_recorded.proofs.lists.next_counted.Goals as goal

pub missing-requires : goal.missing-requires
missing-requires c =
    record {}

pub returns-then-list-at : goal.returns-then-list-at
returns-then-list-at c =
    next_missing c.args.kind _ _ _ (omega (arith, c.if-list-at.true)) c.missing.ensures

pub job_seen-requires : goal.job_seen-requires
job_seen-requires c =
    omega (arith, c.if-list-at.false, c.requires)

pub with-requires : goal.with-requires
with-requires c =
    record {}

pub returns : goal.returns
returns c =
    next_seen c.args.kind _ _ _ _ (omega (arith, c.if-list-at.false)) c.job_seen.ensures c.with.ensures
