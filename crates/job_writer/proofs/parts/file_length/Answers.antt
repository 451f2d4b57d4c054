-- `job_writer::parts::file_length` meets its contract. Assumes nothing.
use native.Mathlib.Omega.{arith}
use Rattle.job_writer.proofs.Sizes.{old_length, new_length}
use Rattle.job_writer.proofs.parts.file_length.Goals as goal

pub returns-then-layout-eq0 : goal.returns-then-layout-eq0
returns-then-layout-eq0 c =
    old_length _ _ _ (omega arith)

pub returns : goal.returns
returns c =
    new_length _ _ _ (omega arith) (omega arith)
