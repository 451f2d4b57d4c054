-- `inertia::lent::inverse_in` meets its contract. Assumes nothing.
use borrow.Author.Rules.{rules}
use Rattle.inertia.proofs.Nines.{nine_in, nine_out, lent_3, lent_refused, lent_told}
use Rattle.inertia.proofs.lent.inverse_in.Goals as goal

ruleset known = (nine_in, nine_out, lent_3, lent_refused, lent_told, rules)

pub nines_fit-requires : goal.nines_fit-requires
nines_fit-requires c = search known

pub returns-then-not-nines_fit : goal.returns-then-not-nines_fit
returns-then-not-nines_fit c = search known

pub mat_at-requires : goal.mat_at-requires
mat_at-requires c = search known

pub inverse_spd-requires : goal.inverse_spd-requires
inverse_spd-requires c = search known

pub put_mat-requires : goal.put_mat-requires
put_mat-requires c = search known

pub number-requires : goal.number-requires
number-requires c = search known

pub returns-in-Ok : goal.returns-in-Ok
returns-in-Ok c = search known

pub returns-in-Err : goal.returns-in-Err
returns-in-Err c = search known
