-- Flag, count and the step counted, once refusal 3 has passed: what is judged before step 0, then step 0 and the steps after it.
use Rattle.std.specs.Prelude.{ℕ, Bool, true}
use Rattle.loops.specs.Run.{Run, next}
use Rattle.position.specs.Problem.{Problem}
use Rattle.preconditioner.specs.declared.mode.Mode.{Mode}
use Rattle.recurrence.specs.Step.{Iterate}
use Rattle.steps.specs.Solve.{counting}
use Rattle.solve_method.specs.Method.{opening_of, method_of}

unfoldable pub counted_of : Mode → Problem → ℕ → Run (Bool × ℕ × Iterate) ℕ
counted_of mode p limit = next (opening_of true p limit) (λ _. counting (method_of true p mode) limit)
