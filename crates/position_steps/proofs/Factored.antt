-- What stands after the factor is built: the steps may be made with it. Assumes nothing.
use Prim.Native.Nat.{ℕ, ◌*◌, ◌≤◌}
use mathlib.Core.Path.{◌≡◌, sym, subst}
use mathlib.Core.Bool.{Bool}
use mathlib.Core.List.{List}
use lib.ListN.{length}
use lib.Ieee.{Float}
use Rattle.loops.specs.Run.{Run, going}
use Rattle.compact_table.specs.Compact.{Linked}
use Rattle.mass_operator.specs.System.{System, compact_system}
use Rattle.preconditioner.specs.Factor.{factor_judged}
use Rattle.preconditioner.specs.Room.{Memory, Roomy}
use Rattle.preconditioner.specs.Held.{FactorBuilt, Holds, z_in, joints_in, prepared_out}
use Rattle.preconditioner.specs.declared.mode.Mode.{Mode}
use Rattle.preconditioner.specs.declared.apply.Preconditioner.{Preconditioner}
use Rattle.preconditioner.proofs.Modes.{joints_are}
use Rattle.preconditioner.proofs.Means.{built_answered, built_holds, built_ready}
use Rattle.recurrence.specs.Step.{Iterate}
use Rattle.position_iteration.specs.Standing.{Standing}
use Rattle.position_steps.specs.Running.{stepping_by}

module _ (n bodies : ℕ) (words : List ℕ) (masses jacobians : List Float) (links : List ℕ) (before after : Memory) (mode : Mode) (a : Run Preconditioner ℕ) (built : FactorBuilt (compact_system n bodies jacobians links masses) (joints_in words) before after mode a) where
  abbrev system : System
  system = compact_system n bodies jacobians links masses

  pub factor_told : factor_judged mode system (joints_in words) before.diagonal ≡ prepared_out a
  factor_told = built_answered system (joints_in words) before after mode a built

  module _ (ew : length words ≡ 8 * n) (room : Roomy mode n before) (p : Preconditioner) (done : a ≡ going p) where
    pub factor_holds : Holds system (joints_in words) before.diagonal after mode p
    factor_holds = built_holds system (joints_in words) before after p (joints_are words n ew) mode a done room built

    -- k rows have a tolerance
    pub factor_stands : (tolerances : List Float) (k : ℕ) → k ≡ n → length tolerances ≡ n → 10 * bodies ≤ length masses → 12 * n ≤ length jacobians → 2 * n ≤ length links → Linked links n bodies
        → length after.diagonal ≡ length before.diagonal → length after.pattern ≡ length before.pattern → length after.order ≡ length before.order → length after.values ≡ length before.values
        → Standing p k bodies tolerances masses jacobians links after
    factor_stands tolerances k ek et em ej el linked ed ep eo ev = subst (λ (i : ℕ). Standing p i bodies tolerances masses jacobians links after) (sym ek) (record {
      tolerances_long = et;
      masses_long = em;
      jacobians_long = ej;
      links_long = el;
      linked = linked;
      ready = built_ready system (joints_in words) before after p (joints_are words n ew) ed ep eo ev mode a done room built;
    })

    -- as many rows as there are tolerances
    pub factor_runs : (tolerance : ℕ → Float) (limit : ℕ) (v : Iterate) (k : ℕ) {o : Run (Bool × ℕ × Iterate) ℕ} → k ≡ n → stepping_by (z_in p k after) (compact_system k bodies jacobians links masses) tolerance limit v ≡ o → stepping_by (z_in p n after) system tolerance limit v ≡ o
    factor_runs tolerance limit v k {o} e h = subst (λ (i : ℕ). stepping_by (z_in p i after) (compact_system i bodies jacobians links masses) tolerance limit v ≡ o) e h
