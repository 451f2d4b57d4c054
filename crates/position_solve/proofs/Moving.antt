-- The entry of velocities lends no centres, and takes none back. Assumes nothing.
use Prim.Native.Nat.{ℕ}
use mathlib.Core.Path.{◌≡◌, refl}
use mathlib.Core.Bool.{Bool}
use mathlib.Core.List.{List, [], ◌∷◌}
use native.Mathlib.Omega.{arith}
use lib.ListN.{length}
use lib.Ieee.{Float}
use Rattle.rules.specs.Rules.{Rules}
use Rattle.preconditioner.specs.declared.mode.Mode.{Mode}
use Rattle.position.specs.Problem.{Problem}
use Rattle.position_delivery.specs.Outcome.{Lent}
use Rattle.loops.specs.Run.{Run}
use Rattle.position_delivery.specs.declared.answer.PositionPcgResult.{PositionPcgResult}
use Rattle.own_memory.specs.Job.{JobSolved}

none : (l : List Float) → length l ≡ 0 → l ≡ []
none [] e = refl
none (x ∷ l) e = absurd (omega arith)

pub moving_solved : {fits : Bool} {s : Rules} {p : Problem} {mode : Mode} {limit place n : ℕ} {before : Lent} {numbers solution impulses : List Float} (centres : List Float) {named namedAfter : List ℕ} {answer : Run PositionPcgResult ℕ} → length centres ≡ 0
    → JobSolved fits s p mode limit place n before (record { numbers = numbers; solution = solution; impulses = impulses; centres = centres }) named namedAfter answer
    → JobSolved fits s p mode limit place n before (record { numbers = numbers; solution = solution; impulses = impulses; centres = [] }) named namedAfter answer
moving_solved centres e h = rw (none centres e) at h
