-- `solve_by_rules::lent::centres_lent` meets its contract. Assumes nothing.
use Rattle.loops.proofs.Loop.{loops}
use Rattle.solve_by_rules.specs.Ruled.{centres_lent}
use Rattle.solve_by_rules.proofs.lent.centres_lent.Goals as goal

pub wide-requires : goal.wide-requires
unfolding centres_lent
wide-requires c =
    search loops

pub overflow_mul-result : goal.overflow_mul-result
unfolding centres_lent
overflow_mul-result c =
    search loops

pub wide-requires-2 : goal.wide-requires-2
unfolding centres_lent
wide-requires-2 c =
    search loops

pub overflow_mul-result-2 : goal.overflow_mul-result-2
unfolding centres_lent
overflow_mul-result-2 c =
    search loops

pub returns : goal.returns
unfolding centres_lent
returns c =
    rw (c.wide.ensures, c.wide-2.ensures)
