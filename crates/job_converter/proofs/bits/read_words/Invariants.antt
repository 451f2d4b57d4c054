-- `job_converter::bits::read_words` meets its contract: what stands below k is read. Assumes nothing.
use Prim.Native.Nat.{◌/◌, ◌%◌}
use lib.ListN.{length}
use Rattle.loops.proofs.Fill.{Fills}
use Rattle.job_file.specs.File.{row_word}
use Rattle.job_converter.proofs.bits.read_words.Given as goal

abbrev pub invariant-loop-k : goal.invariant-loop-k
invariant-loop-k l =
    Fills 0 (λ k. row_word l.file l.offset (k / 8) (k % 8)) (length l.initial.words) l.k l.words
