-- `sparse::cholesky::pivot_root` meets its contract. Assumes nothing.
use Rattle.sparse.proofs.Fit.{root_taken}
use Rattle.sparse.proofs.cholesky.pivot_root.Goals as goal

pub returns : goal.returns
returns c = root_taken _ _ c.root.ensures.value c.requires c.unwrap_or.ensures
