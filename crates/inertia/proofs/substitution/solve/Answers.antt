-- `inertia::substitution::solve` meets its contract. Assumes nothing.
use borrow.Author.Rules.{rules}
use Rattle.inertia.proofs.Solving.{solve_21, solve_divided, solve_result, solve_done}
use Rattle.inertia.proofs.substitution.solve.Goals as goal

ruleset known = (solve_21, solve_divided, solve_result, solve_done, rules)

pub returns-then-not-is_finite : goal.returns-then-not-is_finite
returns-then-not-is_finite c = search known

pub returns-then-not-is_finite-2 : goal.returns-then-not-is_finite-2
returns-then-not-is_finite-2 c = search known

pub returns-then-not-is_finite-3 : goal.returns-then-not-is_finite-3
returns-then-not-is_finite-3 c = search known

pub returns : goal.returns
returns c = search known
