-- The entry of velocities lends no centres, and takes none back. Assumes nothing.
use Prim.Native.Nat.{ℕ}
use mathlib.Core.Path.{◌≡◌, refl}
use mathlib.Core.Bool.{Bool, true, false, ◌&&◌}
use mathlib.Core.List.{List, [], ◌∷◌}
use native.Mathlib.Omega.{arith}
use lib.ListN.{length}
use lib.Ieee.{Float}
use Rattle.rules.specs.Rules.{Rules}
use Rattle.preconditioner.specs.declared.mode.Mode.{Mode}
use Rattle.position.specs.Problem.{Problem}
use Rattle.position_delivery.specs.Outcome.{Lent}
use Rattle.work_memory.specs.Work.{WorkMemory}
use Rattle.loops.specs.Run.{Run}
use Rattle.position_delivery.specs.declared.answer.PositionPcgResult.{PositionPcgResult}
use Rattle.solve_by_rules.specs.Ruled.{residual_lent, centres_lent, SolveRuled}

no_centre : (a x b : Bool) → ((a && (x && centres_lent 0 0 0)) && b) ≡ ((a && x) && b)
unfolding centres_lent
no_centre true true b = refl
no_centre true false b = refl
no_centre false x b = refl

none : (l : List Float) → length l ≡ 0 → l ≡ []
none [] e = refl
none (x ∷ l) e = absurd (omega arith)

pub moving_ruled : (rules : Bool) (rows residual : ℕ) (passed : Bool) {s : Rules} {p : Problem} {mode : Mode} {limit place n : ℕ} {before : Lent} {numbers solution impulses : List Float} (centres : List Float) {named namedAfter : List ℕ} {answer : Run PositionPcgResult ℕ} {work workAfter : WorkMemory}
    → length centres ≡ 0 → SolveRuled ((rules && (residual_lent rows residual && centres_lent 0 0 0)) && passed) s p mode limit place n before (record { numbers = numbers; solution = solution; impulses = impulses; centres = centres }) named namedAfter answer work workAfter
    → SolveRuled ((rules && residual_lent rows residual) && passed) s p mode limit place n before (record { numbers = numbers; solution = solution; impulses = impulses; centres = [] }) named namedAfter answer work workAfter
moving_ruled rules rows residual passed centres e h = rw (no_centre rules (residual_lent rows residual) passed, none centres e) at h
