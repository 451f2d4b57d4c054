-- `job_file::sections::put_numbers` meets its contract: of the row, what stands below j is written. Assumes nothing.
use Prim.Native.Nat.{◌*◌}
use Rattle.job_file.specs.File.{row_number}
use Rattle.job_file.proofs.Written.{Writes}
use Rattle.job_file.proofs.sections.put_numbers.Given as goal

abbrev pub invariant-loop-j : goal.invariant-loop-j
invariant-loop-j l =
    Writes (row_number l.file l.offset l.i) (27 * l.i) 27 l.initial.numbers l.j l.numbers
