-- `job_file::sections::put_numbers` meets its contract: of the row, what stands below j is written. Assumes nothing.
use Rattle.job_file.proofs.Written.{writes}
use Rattle.job_file.proofs.sections.put_numbers.Goals as goal

pub loop-j-init : goal.loop-j-init
loop-j-init c = search writes

pub loop-j-preserved : goal.loop-j-preserved
loop-j-preserved c = search writes

pub returns : goal.returns
returns c = search writes
