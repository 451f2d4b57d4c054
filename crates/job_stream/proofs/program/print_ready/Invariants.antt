-- `job_stream::program::print_ready` meets its contract, and ends: each turn reads a byte at least. Assumes nothing.
use Rattle.std.proofs.Common.{◌≡◌, ◌-◌, ◌≤◌, length}
use Rattle.job_stream.proofs.Printing.{Upto}
use Rattle.job_stream.proofs.program.print_ready.Given as goal

abbrev pub invariant-loop-at : goal.invariant-loop-at
invariant-loop-at l =
    Upto l.number l.bytes l.next l.at × (l.at ≤ length l.bytes) × (length l.text ≡ length l.initial.text)

abbrev pub decreases-loop-at : goal.decreases-loop-at
decreases-loop-at l = length l.bytes - l.at
