-- `inertia::triangle::triangle` meets its contract. Assumes nothing.
use borrow.Author.Rules.{rules}
use Rattle.inertia.proofs.Rows.{triangle_done, triangle_first, triangle_second, triangle_third}
use Rattle.inertia.proofs.Accepted.{triangle_tells, triangle_none}
use Rattle.inertia.proofs.triangle.triangle.Goals as goal

ruleset known = (triangle_done, triangle_first, triangle_second, triangle_third, triangle_tells, triangle_none, rules)

pub returns-in_default : goal.returns-in_default
returns-in_default c = search known

pub returns-in_default-second_row : goal.returns-in_default-second_row
returns-in_default-second_row c = search known

pub returns-in_default-third_row : goal.returns-in_default-third_row
returns-in_default-third_row c = search known

pub returns : goal.returns
returns c = search known
