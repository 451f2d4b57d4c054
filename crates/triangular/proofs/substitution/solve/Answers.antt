-- `triangular::substitution::solve` meets its contract. Assumes nothing.
use Rattle.loops.proofs.Loop.{loops}
use Rattle.triangular.proofs.Down.{indexed_places, indexed_room, indexed_same}
use Rattle.triangular.proofs.Solves.{solve_on, solve_out_lem, sixteen}
use Rattle.triangular.proofs.substitution.solve.Goals as goal

ruleset known = (indexed_places, indexed_room, indexed_same, solve_out_lem, solve_on, loops)

pub returns-in_err-forward : goal.returns-in_err-forward
returns-in_err-forward c =
    record { output_value = search known; output_value_2 = sixteen _ c.forward.new.output (search known) }

pub returns : goal.returns
returns c =
    record { output_value = search known; output_value_2 = sixteen c.backward.result _ (search known) }
