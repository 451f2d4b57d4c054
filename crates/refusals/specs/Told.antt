-- What an answer tells: it goes on with its value, or ends with the refusal's number.
use Rattle.std.specs.Prelude.{ℕ, Result, Ok, Err}
use Rattle.loops.specs.Run.{Run, going, ended}
use Rattle.refusals.specs.declared.Refusal.{Refusal}
use Rattle.refusals.specs.Number.{number_of}

abbrev pub told : {A : Type 0} → Result A Refusal → Run A ℕ
told (Ok x) = going x
told (Err refusal) = ended (number_of refusal)
