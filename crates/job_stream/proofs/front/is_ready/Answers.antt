-- `job_stream::front::is_ready` meets its contract. Assumes nothing.
use borrow.Author.Rules.{rules}
use Rattle.job_stream.proofs.Ways.{ready_short, ready_long, ready_whole}
use Rattle.job_stream.proofs.front.is_ready.Goals as goal

pub returns-then-bytes-lt4 : goal.returns-then-bytes-lt4
returns-then-bytes-lt4 c =
    ready_short _ (search rules)

pub returns-then-end-gt65540 : goal.returns-then-end-gt65540
returns-then-end-gt65540 c =
    ready_long _ c.frame_length-end.ensures.value (search rules) (search rules)

pub returns : goal.returns
returns c =
    ready_whole _ c.frame_length-end.ensures.value (search rules) (search rules)
