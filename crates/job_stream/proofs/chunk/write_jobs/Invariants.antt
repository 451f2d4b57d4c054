-- `job_stream::chunk::write_jobs` meets its contract, and ends: each turn takes bytes. Assumes nothing.
use Prim.Native.Nat.{◌-◌}
use lib.ListN.{length}
use Rattle.job_stream.proofs.Going.{Going}
use Rattle.job_stream.proofs.chunk.write_jobs.Given as goal

abbrev pub invariant-loop-out : goal.invariant-loop-out
invariant-loop-out l =
    Going l.number l.bytes l.initial.out l.next l.at l.end l.out

abbrev pub decreases-loop-out : goal.decreases-loop-out
decreases-loop-out l = length l.bytes - l.at
