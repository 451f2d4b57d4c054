-- The vector operations of the recurrence, each number rounded by itself: pcg.rs, checked_dot_product and the update loops of solve_position_pcg_prepared.
use Rattle.std.specs.Prelude.{List, get_or, length, Float}
use Rattle.std.specs.Float.{nan, binary64}
use Rattle.std.specs.Float.Ieee.{add, sub, mul}
use Rattle.loops.specs.Tabulate.{tabulate}
-- x · y, ascending from +0.0: the operator sums one too
unfoldable pub use Rattle.mass_operator.specs.Dot.{dot_to, dot_product_of}

-- x + a y, x - a y
unfoldable pub plus_scaled : List Float → Float → List Float → List Float
plus_scaled x a y = tabulate (λ i. add binary64 (get_or x i nan) (mul binary64 a (get_or y i nan))) (length x)

unfoldable pub less_scaled : List Float → Float → List Float → List Float
less_scaled x a y = tabulate (λ i. sub binary64 (get_or x i nan) (mul binary64 a (get_or y i nan))) (length x)
