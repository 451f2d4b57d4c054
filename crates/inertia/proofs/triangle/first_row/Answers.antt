-- `inertia::triangle::first_row` meets its contract. Assumes nothing.
use borrow.Author.Rules.{rules}
use Rattle.inertia.specs.Triangle.{less_sum}
use Rattle.inertia.proofs.Rows.{first_done, first_refused}
use Rattle.inertia.proofs.Accepted.{first_tells, row_none}
use Rattle.inertia.proofs.triangle.first_row.Goals as goal

pub returns-in_err-p : goal.returns-in_err-p
unfolding less_sum
returns-in_err-p c = search (first_refused, row_none, rules)

pub returns : goal.returns
unfolding less_sum
returns c =
    let accepted = c.in_ok-p.was in
    record {
      n_value = first_done c.args.n c.pivot.ensures.value_value accepted;
      row_tells = first_tells c.args.n c.pivot.ensures.pivot_tells accepted;
    }
