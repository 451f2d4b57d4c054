-- `kapitsa_math::vector::Vec3::checked_dot` meets its contract. Assumes nothing.
use borrow.Author.Rules.{rules}
use Rattle.kapitsa_math.proofs.CheckedWays.{dot_told, dot_checked, dot_refused}
use Rattle.kapitsa_math.proofs.vector.Vec3.checked_dot.Goals as goal

ruleset known = (dot_told, dot_checked, dot_refused, rules)

pub returns-then-not-is_finite : goal.returns-then-not-is_finite
returns-then-not-is_finite c = search known

pub returns : goal.returns
returns c = search known
