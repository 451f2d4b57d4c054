-- `block_factor::block::cell_at` meets its contract. Assumes nothing.
use Rattle.block_factor.proofs.Cells.{at_cell, at_eleven, mass_a, mass_b}
use Rattle.loops.proofs.Loop.{loops}
use Rattle.block_factor.proofs.block.cell_at.Goals as goal

ruleset known = (at_eleven, at_cell, mass_a, mass_b, loops)

pub returns-then-not-one_pair : goal.returns-then-not-one_pair
returns-then-not-one_pair c =
    search known

pub block_value-requires : goal.block_value-requires
block_value-requires c =
    search known

pub returns : goal.returns
returns c =
    search known
