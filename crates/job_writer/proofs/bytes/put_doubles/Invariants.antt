-- `job_writer::bytes::put_doubles` meets its contract: the numbers below k are written. Assumes nothing.
use Prim.Native.Nat.{◌+◌}
use lib.ListN.{get_or}
use Rattle.listing.proofs.Pieces.{Writing}
use Rattle.job_writer.specs.Bytes.{little}
use Rattle.job_writer.proofs.bytes.put_doubles.Given as goal

abbrev pub invariant-loop-k : goal.invariant-loop-k
invariant-loop-k l =
    Writing l.initial.out l.at (λ k. little 8 (get_or l.from (l.first + k) 0)) l.n l.k l.out l.next
