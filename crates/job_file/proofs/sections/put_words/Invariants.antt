-- `job_file::sections::put_words` meets its contract: of the row, what stands below j is written. Assumes nothing.
use Prim.Native.Nat.{◌*◌}
use Rattle.job_file.specs.File.{row_word}
use Rattle.job_file.proofs.Written.{Writes}
use Rattle.job_file.proofs.sections.put_words.Given as goal

abbrev pub invariant-loop-j : goal.invariant-loop-j
invariant-loop-j l =
    Writes (row_word l.file l.offset l.i) (8 * l.i) 8 l.initial.words l.j l.words
