-- `inertia::triangle::second_row` meets its contract. Assumes nothing.
use borrow.Author.Rules.{rules}
use Rattle.inertia.specs.Triangle.{less_sum, sum_of_one, second_x, second_pivot}
use Rattle.inertia.proofs.Rows.{second_done, second_refused}
use Rattle.inertia.proofs.Accepted.{second_tells, row_none}
use Rattle.inertia.proofs.triangle.second_row.Goals as goal

pub returns-in_err-p : goal.returns-in_err-p
unfolding less_sum sum_of_one second_x second_pivot
returns-in_err-p c = search (second_refused, row_none, rules)

pub returns : goal.returns
unfolding less_sum sum_of_one second_x second_pivot
returns c =
    let accepted = c.in_ok-p.was in
    record {
      first_value = second_done c.args.n c.args.first c.pivot.ensures.value_value accepted;
      row_tells = second_tells c.args.n c.args.first c.pivot.ensures.pivot_tells accepted;
    }
