-- `program_io::read_full` reads within the space, and ends: each turn reads a byte at least. Assumes nothing.
use Rattle.std.proofs.Common.{◌≡◌, ◌-◌, ◌≤◌, length}
use Rattle.program_io.proofs.read_full.Given as goal

abbrev pub invariant-loop-done : goal.invariant-loop-done
invariant-loop-done l =
    (l.done ≤ length l.space) × (length l.space ≡ length l.initial.space)

abbrev pub decreases-loop-done : goal.decreases-loop-done
decreases-loop-done l = length l.space - l.done
