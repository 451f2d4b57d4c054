-- What the lent memory holds of a mode's factor.
use Rattle.std.specs.Prelude.{ℕ, ◌+◌, ◌*◌, ◌<◌, ◌≡◌, true, List, length, get_or, Float, Result}
use Rattle.loops.specs.Run.{Run, going, ended}
use Rattle.loops.specs.Tabulate.{tabulate}
use Rattle.mass_operator.specs.System.{System}
use Rattle.sparse.specs.Triangle.{Sparse}
use Rattle.sparse.specs.Kept.{numbers}
use Rattle.triangular.specs.Column.{Indexed}
use Rattle.triangular.specs.Triangular.{or_sixteen}
use Rattle.pairs.specs.Pairs.{pattern_of, pair_count}
use Rattle.pairs.specs.Pattern.{starts_in, columns_in}
use Rattle.incomplete_cholesky.specs.Build.{cholesky_run, FactorHeld, FactorPast}
use Rattle.block_jacobi.specs.Runs.{owner_in, begins, RunsFit}
use Rattle.block_jacobi.specs.Blocks.{block_in, blocks_run, blocked_out}
use Rattle.refusals.specs.Told.{told}
use Rattle.refusals.specs.declared.Refusal.{Refusal}
use Rattle.preconditioner.specs.Factor.{block_at}
use Rattle.preconditioner.specs.Apply.{preconditioned_run}
use Rattle.preconditioner.specs.Room.{Memory}
use Rattle.preconditioner.specs.Shift.{shifted}
use Rattle.preconditioner.specs.declared.mode.Mode.{Mode}
use Rattle.preconditioner.specs.declared.mode.Mode.TheVariants as modes
use Rattle.preconditioner.specs.declared.apply.Preconditioner.{Preconditioner}
use Rattle.preconditioner.specs.declared.apply.Preconditioner.TheVariants as built

-- the factor's numbers of n rows
abbrev pub factor_in : ℕ → Memory → Sparse
factor_in n m = numbers (starts_in n m.pattern) (columns_in n m.pattern) m.values

-- ---- what a solve asks of the memory, for n rows
pub record FactorReady (n count : ℕ) (m : Memory) : Type 0 where
  pub indexed : Indexed (starts_in n m.pattern) (columns_in n m.pattern) m.order n count
  pub pattern_long : length m.pattern ≡ n + 1 + length m.values
  pub order_long : length m.order ≡ n + 2 * length m.values

pub record BlocksReady (n : ℕ) (m : Memory) : Type 0 where
  pub fits : RunsFit (owner_in m.pattern) n
  pub pattern_long : length m.pattern ≡ n
  pub values_long : length m.values ≡ 36 * n

pub record Ready (p : Preconditioner) (n : ℕ) (m : Memory) : Type 0 where
  pub long : length m.diagonal ≡ n
  pub factor : (count : ℕ) → p ≡ built.IncompleteCholesky count → FactorReady n count m
  pub blocks : p ≡ built.BlockJacobi → BlocksReady n m

-- z by what stands there; a Run that has ended carries the numbers as they then stand
abbrev pub z_run : Preconditioner → ℕ → Memory → List Float → Run (List Float) (List Float)
z_run p n m residual = preconditioned_run p m.diagonal (factor_in n m) (block_in m.values) (owner_in m.pattern) residual

-- the same, where refused with 16
abbrev pub z_in : Preconditioner → ℕ → Memory → List Float → Run (List Float) ℕ
z_in p n m residual = or_sixteen (z_run p n m residual)

-- ---- the mode's factor is there; diagonal is the one that it is made of
pub data Holds (s : System) (owner : ℕ → ℕ) (diagonal : List Float) (m : Memory) : Mode → Preconditioner → Type 0 where
  holds_diagonal : m.diagonal ≡ diagonal → Holds s owner diagonal m modes.Diagonal built.Diagonal
  holds_factor : (shift : Float) (count : ℕ) → cholesky_run s (shifted shift diagonal) ≡ going (factor_in s.rows m, m.diagonal) → Holds s owner diagonal m (modes.IncompleteCholesky shift) (built.IncompleteCholesky count)
  holds_blocks : owner_in m.pattern ≡ owner → ((i : ℕ) → i < s.rows → begins owner i ≡ true → block_at s owner i ≡ going (block_in m.values i)) → Holds s owner diagonal m modes.BlockJacobi built.BlockJacobi

-- the joint of each row: word 6 of its eight
abbrev pub joints_in : List ℕ → ℕ → ℕ
joints_in words i = get_or words (8 * i + 6) 0

-- ---- what an answer tells
abbrev pub prepared_out : Run Preconditioner ℕ → Run Unit ℕ
prepared_out (going p) = going tt
prepared_out (ended number) = ended number

abbrev pub factor_prepared : Run ℕ ℕ → Run Preconditioner ℕ
factor_prepared (going count) = going (built.IncompleteCholesky count)
factor_prepared (ended number) = ended number

abbrev pub blocks_prepared : Run Unit ℕ → Run Preconditioner ℕ
blocks_prepared (going _) = going built.BlockJacobi
blocks_prepared (ended number) = ended number

-- of an answer the memory before and after: what is not the mode's is untouched
pub data FactorBuilt (s : System) (owner : ℕ → ℕ) (before after : Memory) : Mode → Run Preconditioner ℕ → Type 0 where
  built_diagonal : after ≡ before → FactorBuilt s owner before after modes.Diagonal (going built.Diagonal)
  built_factor : (shift : Float) (answer : Run ℕ ℕ) → FactorHeld s (shifted shift before.diagonal) answer (starts_in s.rows after.pattern) (columns_in s.rows after.pattern) before.order after.order before.values after.values after.diagonal
      → FactorPast s.rows (pair_count (pattern_of s) s.rows) before.pattern after.pattern before.order after.order before.values after.values → FactorBuilt s owner before after (modes.IncompleteCholesky shift) (factor_prepared answer)
  built_blocks : (answer : Result Unit Refusal) → blocks_run s owner before.values ≡ blocked_out answer after.values → after ≡ record { diagonal = before.diagonal; pattern = tabulate owner s.rows; order = before.order; values = after.values }
      → FactorBuilt s owner before after modes.BlockJacobi (blocks_prepared (told answer))
