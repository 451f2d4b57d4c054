-- `inertia::lent::put_mat` meets its contract. Assumes nothing.
use borrow.Author.Rules.{rules}
use Rattle.inertia.proofs.Nines.{nine_is}
use Rattle.inertia.proofs.lent.put_mat.Goals as goal

ruleset known = (nine_is, rules)

pub put_vec-requires : goal.put_vec-requires
put_vec-requires c =
    search known

pub put_vec-requires-2 : goal.put_vec-requires-2
put_vec-requires-2 c =
    search known

pub put_vec-requires-3 : goal.put_vec-requires-3
put_vec-requires-3 c =
    search known

pub returns : goal.returns
returns c =
    search known
