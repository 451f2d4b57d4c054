-- `block_jacobi::store::put_block` meets its contract. Assumes nothing.
use borrow.Author.Rules.{rules}
use Rattle.block_jacobi.proofs.Stores.{block_put}
use Rattle.block_jacobi.proofs.store.put_block.Goals as goal

pub returns : goal.returns
returns c =
    search (block_put, rules)
