-- `position_steps::opening::open_table` meets its contract. Assumes nothing.
use Rattle.position_steps.proofs.opening.open_table.Goals as goal

pub returns-then-all_ready : goal.returns-then-all_ready
returns-then-all_ready c =
    c.all_ready.ensures c.if-all_ready.true

pub returns : goal.returns
returns c =
    c.open_in_order.ensures
