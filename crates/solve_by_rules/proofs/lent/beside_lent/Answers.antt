-- `solve_by_rules::lent::beside_lent` meets its contract. Assumes nothing.
use Rattle.loops.proofs.Loop.{loops}
use Rattle.solve_by_rules.proofs.lent.beside_lent.Goals as goal

pub residual_lent-requires : goal.residual_lent-requires
residual_lent-requires c =
    search loops

pub placed_of-requires : goal.placed_of-requires
placed_of-requires c =
    search loops

pub centres_lent-requires : goal.centres_lent-requires
centres_lent-requires c =
    search loops

pub returns : goal.returns
returns c =
    rw (c.residual_lent.ensures, c.centres_lent.ensures, c.placed_of.ensures)
