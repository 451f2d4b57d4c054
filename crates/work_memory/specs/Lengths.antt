-- Document 01, "3. The row count, body count or mode is beyond this paper, or a lent slice has not the length the counts call for." Each test is true where the refusal does not apply.
use Rattle.std.specs.Prelude.{ℕ, ◌*◌, ◌≡◌, Bool, ◌&&◌, List, eqb, length, Float}
use Rattle.joint_refusals.specs.Counts.{counts_fit, rows_fit}
use Rattle.preconditioner.specs.Mode.{room_mode}
use Rattle.preconditioner.specs.Room.{Roomy, pattern_room, order_room, values_room}
use Rattle.preconditioner.specs.declared.mode.Mode.{Mode}
use Rattle.work_memory.specs.Work.{StepMemory, TableMemory, WorkMemory}

-- the lengths of rows, masses and what is delivered
unfoldable pub table_fits : ℕ → ℕ → ℕ → ℕ → ℕ → ℕ → ℕ → Bool
table_fits n b numbers words masses solution impulses = (rows_fit n b numbers words masses && eqb solution n) && eqb impulses (6 * b)

-- of the work memory: the compact table and the vectors,
unfoldable pub vectors_fit : ℕ → ℕ → ℕ → ℕ → ℕ → ℕ → ℕ → ℕ → ℕ → ℕ → Bool
vectors_fit n b jacobians links tolerances residual pending direction product body_impulses =
    ((((((eqb jacobians (12 * n) && eqb links (2 * n)) && eqb tolerances n) && eqb residual n) && eqb pending n) && eqb direction n) && eqb product n) && eqb body_impulses (6 * b)

-- and the factor's, by mode
unfoldable pub factor_fits : Mode → ℕ → ℕ → ℕ → ℕ → ℕ → Bool
factor_fits mode n diagonal pattern order values = ((eqb diagonal n && eqb pattern (pattern_room mode n)) && eqb order (order_room mode n)) && eqb values (values_room mode n)

unfoldable pub passes3 : ℕ → ℕ → ℕ → List Float → List ℕ → List Float → List Float → List Float → WorkMemory → Bool
passes3 n b mode numbers words masses solution impulses w =
    ((counts_fit n b mode && table_fits n b (length numbers) (length words) (length masses) (length solution) (length impulses))
    && vectors_fit n b (length w.table.jacobians) (length w.table.links) (length w.steps.tolerances) (length w.table.residual) (length w.table.pending) (length w.steps.direction) (length w.steps.product) (length w.table.body_impulses))
    && factor_fits (room_mode mode) n (length w.steps.factor.diagonal) (length w.steps.factor.pattern) (length w.steps.factor.order) (length w.steps.factor.values)

-- ---- what refusal 3 has passed
pub record StepRoom (mode : Mode) (n : ℕ) (m : StepMemory) : Type 0 where
  pub tolerances_long : length m.tolerances ≡ n
  pub direction_long : length m.direction ≡ n
  pub product_long : length m.product ≡ n
  pub factor : Roomy mode n m.factor

pub record TableRoom (n b : ℕ) (m : TableMemory) : Type 0 where
  pub jacobians_long : length m.jacobians ≡ 12 * n
  pub links_long : length m.links ≡ 2 * n
  pub residual_long : length m.residual ≡ n
  pub pending_long : length m.pending ≡ n
  pub body_impulses_long : length m.body_impulses ≡ 6 * b

pub record WorkRoom (mode : Mode) (n b : ℕ) (w : WorkMemory) : Type 0 where
  pub steps : StepRoom mode n w.steps
  pub table : TableRoom n b w.table

-- rows and masses
pub record RowsRoom (n b : ℕ) (numbers : List Float) (words : List ℕ) (masses : List Float) : Type 0 where
  pub numbers_long : length numbers ≡ 27 * n
  pub words_long : length words ≡ 8 * n
  pub masses_long : length masses ≡ 10 * b
