-- `inertia::triangle::pivot` meets its contract. Assumes nothing.
use borrow.Author.Rules.{rules}
use Rattle.inertia.proofs.Pivot.{pivot_not_finite, pivot_low, pivot_root, pivot_tells, pivot_none}
use Rattle.inertia.proofs.triangle.pivot.Goals as goal

ruleset known = (pivot_not_finite, pivot_low, pivot_root, pivot_tells, pivot_none, rules)

pub returns-then-not-is_finite : goal.returns-then-not-is_finite
returns-then-not-is_finite c = search known

pub returns-then-value : goal.returns-then-value
returns-then-value c = search known

pub returns : goal.returns
returns c = search known
