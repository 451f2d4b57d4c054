-- `job_stream::program::print_more` meets its contract. Assumes nothing.
use borrow.Author.Rules.{rules}
use Rattle.job_stream.proofs.Kept.{passed_over}
use Rattle.job_stream.proofs.program.print_more.Goals as goal

pub returns-then-to-passed : goal.returns-then-to-passed
returns-then-to-passed c =
    passed_over c.args.unread c.args.more c.args.space.now (search rules)
