-- `group_step::tell::flag_word` meets its contract. Assumes nothing.
use Rattle.group_step.proofs.Telling.{flag_on, flag_off}
use Rattle.group_step.proofs.tell.flag_word.Goals as goal

pub returns-then-flag : goal.returns-then-flag
returns-then-flag c =
    flag_on _ c.if-flag.true

pub returns : goal.returns
returns c =
    flag_off _ c.if-flag.false
