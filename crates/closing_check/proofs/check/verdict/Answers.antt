-- `closing_check::check::verdict` meets its contract. Assumes nothing.
use Rattle.closing_check.proofs.Measured.{all_within, one_misses}
use Rattle.closing_check.proofs.check.verdict.Goals as goal

pub returns-then-rows_close : goal.returns-then-rows_close
returns-then-rows_close c =
    all_within _ _ _ _ c.rows_close.ensures c.largest_reaches-gap.ensures c.if-rows_close.true

pub returns : goal.returns
returns c =
    one_misses _ _ _ _ c.rows_close.ensures c.largest_reaches-gap.ensures c.if-rows_close.false
