-- The work memory of a solve, named once. Document 01: "Work memory is +0.0 (integers 0) after each call except one refused by 1, 2 or 3, which writes nothing."
use Rattle.std.specs.Prelude.{ℕ, ◌≡◌, Bool, true, false, List, Float}
use Rattle.loops.specs.Cleared.{cleared, cleared_words}
use Rattle.preconditioner.specs.Room.{Memory}

-- what the count alone uses
pub record StepMemory : Type 0 where
  pub tolerances : List Float
  pub direction : List Float
  pub product : List Float
  pub factor : Memory

-- what the delivery reads as well
pub record TableMemory : Type 0 where
  pub jacobians : List Float
  pub links : List ℕ
  pub residual : List Float
  pub pending : List Float
  pub body_impulses : List Float

pub record WorkMemory : Type 0 where
  pub steps : StepMemory
  pub table : TableMemory

-- ---- read out of the lent slices
abbrev pub step_memory : List Float → List Float → List Float → List Float → List ℕ → List ℕ → List Float → StepMemory
step_memory tolerances diagonal direction product pattern order values = record { tolerances = tolerances; direction = direction; product = product; factor = record { diagonal = diagonal; pattern = pattern; order = order; values = values } }

abbrev pub table_memory : List Float → List ℕ → List Float → List Float → List Float → TableMemory
table_memory jacobians links residual pending body_impulses = record { jacobians = jacobians; links = links; residual = residual; pending = pending; body_impulses = body_impulses }

-- in the order in which a solve is lent them
abbrev pub work_memory : List Float → List ℕ → List Float → List Float → List Float → List Float → List Float → List Float → List Float → List ℕ → List ℕ → List Float → WorkMemory
work_memory jacobians links tolerances diagonal residual pending direction product body_impulses pattern order values =
    record { steps = step_memory tolerances diagonal direction product pattern order values; table = table_memory jacobians links residual pending body_impulses }

-- ---- cleared, as long as they are
abbrev pub cleared_steps : StepMemory → StepMemory
cleared_steps m = record {
  tolerances = cleared m.tolerances;
  direction = cleared m.direction;
  product = cleared m.product;
  factor = record { diagonal = cleared m.factor.diagonal; pattern = cleared_words m.factor.pattern; order = cleared_words m.factor.order; values = cleared m.factor.values };
}

abbrev pub cleared_table : TableMemory → TableMemory
cleared_table m = record {
  jacobians = cleared m.jacobians;
  links = cleared_words m.links;
  residual = cleared m.residual;
  pending = cleared m.pending;
  body_impulses = cleared m.body_impulses;
}

abbrev pub cleared_work : WorkMemory → WorkMemory
cleared_work m = record { steps = cleared_steps m.steps; table = cleared_table m.table }

pub record After (fits : Bool) (before after : WorkMemory) : Type 0 where
  pub emptied : fits ≡ true → after ≡ cleared_work before
  pub untouched : fits ≡ false → after ≡ before
