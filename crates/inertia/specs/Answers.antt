-- Document 02 c's number of each answer, and its value. Distinct answers have distinct runs.
use Rattle.std.specs.Prelude.{ℕ, Option, Some, None, Result, Ok, Err}
use Rattle.loops.specs.Run.{Run, going, ended}
use Rattle.inertia.specs.declared.triangle.CholeskyError.{CholeskyError}
use Rattle.inertia.specs.declared.triangle.CholeskyError.TheVariants.{NonFiniteInput, NotSymmetric, NotPositiveDefinite, ResultOutOfRange}

-- in the order of judging
abbrev pub number_of : CholeskyError → ℕ
number_of NonFiniteInput = 21
number_of NotSymmetric = 22
number_of NotPositiveDefinite = 23
number_of ResultOutOfRange = 12

-- a pivot or a row that is not accepted is refusal 23
abbrev pub accepted_out : {A : Type 0} → Option A → Run A ℕ
accepted_out (Some x) = going x
accepted_out None = ended 23

abbrev pub cholesky_out : {A : Type 0} → Result A CholeskyError → Run A ℕ
cholesky_out (Ok x) = going x
cholesky_out (Err e) = ended (number_of e)
