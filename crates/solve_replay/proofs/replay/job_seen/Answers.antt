-- `solve_replay::replay::job_seen` meets its contract. Assumes nothing.
use native.Mathlib.Omega.{arith}
use Rattle.solve_replay.proofs.Showing.{job_counts, job_malformed, job_shown}
use Rattle.solve_replay.proofs.replay.job_seen.Goals as goal

pub read_header-header-requires : goal.read_header-header-requires
read_header-header-requires c =
    omega (arith, c.requires)

pub malformed-requires : goal.malformed-requires
malformed-requires c =
    record {}

pub returns-then-not-header : goal.returns-then-not-header
returns-then-not-header c =
    job_malformed c.args.kind _ _ _ _ c.read_header-header.ensures c.if-not-header.true-raw c.malformed.ensures

pub overflow_add-at : goal.overflow_add-at
overflow_add-at c =
    omega (arith, c.requires)

pub sized_seen-requires : goal.sized_seen-requires
sized_seen-requires c =
    (omega (arith, c.requires), (job_counts c.read_header-header.result.rows c.read_header-header.result.bodies c.if-not-header.false-raw).0, (job_counts c.read_header-header.result.rows c.read_header-header.result.bodies c.if-not-header.false-raw).1)

pub returns : goal.returns
returns c =
    job_shown c.args.kind _ _ _ _ c.read_header-header.ensures c.if-not-header.false-raw c.sized_seen.ensures
