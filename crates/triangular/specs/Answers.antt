-- What the answer of a solve and the output at exit tell together. Overflow is refusal 16.
use Rattle.std.specs.Prelude.{ℕ, List, Float, Result, Ok, Err}
use Rattle.loops.specs.Run.{Run, going, ended}
use Rattle.triangular.specs.declared.substitution.Overflow.{Overflow}

abbrev pub solve_out : Result Unit Overflow → List Float → Run (List Float) (List Float)
solve_out (Ok _) y = going y
solve_out (Err _) y = ended y

-- document 01's number of each answer
abbrev pub solved_out : Result Unit Overflow → List Float → Run (List Float) ℕ
solved_out (Ok _) y = going y
solved_out (Err _) y = ended 16
