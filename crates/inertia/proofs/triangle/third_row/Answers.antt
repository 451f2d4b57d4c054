-- `inertia::triangle::third_row` meets its contract. Assumes nothing.
use borrow.Author.Rules.{rules}
use Rattle.inertia.specs.Triangle.{less_sum, sum_of_one, sum_of_two, third_x, third_y, third_pivot}
use Rattle.inertia.proofs.Rows.{third_done, third_refused}
use Rattle.inertia.proofs.Accepted.{third_tells, row_none}
use Rattle.inertia.proofs.triangle.third_row.Goals as goal

pub returns-in_err-p : goal.returns-in_err-p
unfolding less_sum sum_of_one sum_of_two third_x third_y third_pivot
returns-in_err-p c = search (third_refused, row_none, rules)

pub returns : goal.returns
unfolding less_sum sum_of_one sum_of_two third_x third_y third_pivot
returns c =
    let accepted = c.in_ok-p.was in
    record {
      second_value = third_done c.args.n c.args.first c.args.second c.pivot.ensures.value_value accepted;
      row_tells = third_tells c.args.n c.args.first c.args.second c.pivot.ensures.pivot_tells accepted;
    }
