-- `job_stream::chunk::goes_on` meets its contract. Assumes nothing.
use borrow.Author.Rules.{rules}
use Rattle.job_stream.proofs.Going.{goes_beyond, goes_here}
use Rattle.job_stream.proofs.chunk.goes_on.Goals as goal

pub returns-then-bytes-at : goal.returns-then-bytes-at
returns-then-bytes-at c =
    goes_beyond c.args.number c.args.room c.args.at c.args.bytes.now (search rules)

pub returns : goal.returns
returns c =
    goes_here c.args.number c.args.room c.args.at c.args.bytes.now c.is_ready.ensures
