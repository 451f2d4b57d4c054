-- `job_stream::program::print_stream` stays within the space, where there is always room for more. Assumes nothing.
use Rattle.std.proofs.Common.{◌<◌}
use Rattle.job_stream.proofs.program.print_stream.Given as goal

abbrev pub invariant-stream : goal.invariant-stream
invariant-stream l = l.kept < 65540
