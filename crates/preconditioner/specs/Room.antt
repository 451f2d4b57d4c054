-- The lent memory of a factor, by mode, for n rows: what it holds and how long it is. Said here once.
use Rattle.std.specs.Prelude.{ℕ, ◌+◌, ◌*◌, ◌≡◌, List, length, Float}
use Rattle.pairs.specs.Pairs.{pair_room}
use Rattle.preconditioner.specs.declared.mode.Mode.{Mode}
use Rattle.preconditioner.specs.declared.mode.Mode.TheVariants as modes

-- diagonal: the (replaced) diagonal; in mode 1 the factor's pivots take its place
-- pattern: mode 1 where each row starts, n + 1 words, then a column a place; mode 2 the joint of each row
-- order: mode 1 the index by column, n words, then two a place
-- values: mode 1 the factor's number at each place; mode 2 the blocks, 36 numbers a row
pub record Memory : Type 0 where
  pub diagonal : List Float
  pub pattern : List ℕ
  pub order : List ℕ
  pub values : List Float

unfoldable pub pattern_room : Mode → ℕ → ℕ
pattern_room modes.Diagonal n = 0
pattern_room (modes.IncompleteCholesky shift) n = n + 1 + pair_room n
pattern_room modes.BlockJacobi n = n

unfoldable pub order_room : Mode → ℕ → ℕ
order_room modes.Diagonal n = 0
order_room (modes.IncompleteCholesky shift) n = n + 2 * pair_room n
order_room modes.BlockJacobi n = 0

unfoldable pub values_room : Mode → ℕ → ℕ
values_room modes.Diagonal n = 0
values_room (modes.IncompleteCholesky shift) n = pair_room n
values_room modes.BlockJacobi n = 36 * n

-- every length is what n rows call for
pub record Roomy (mode : Mode) (n : ℕ) (m : Memory) : Type 0 where
  pub diagonal_long : length m.diagonal ≡ n
  pub pattern_long : length m.pattern ≡ pattern_room mode n
  pub order_long : length m.order ≡ order_room mode n
  pub values_long : length m.values ≡ values_room mode n
