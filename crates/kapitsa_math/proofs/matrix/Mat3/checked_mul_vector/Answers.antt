-- `kapitsa_math::matrix::Mat3::checked_mul_vector` meets its contract. Assumes nothing.
use borrow.Author.Rules.{rules}
use Rattle.kapitsa_math.proofs.CheckedWays.{product_told, product_checked, product_refused}
use Rattle.kapitsa_math.proofs.matrix.Mat3.checked_mul_vector.Goals as goal

ruleset known = (product_told, product_checked, product_refused, rules)

pub returns-then-not-is_finite : goal.returns-then-not-is_finite
returns-then-not-is_finite c = search known

pub returns : goal.returns
returns c = search known
