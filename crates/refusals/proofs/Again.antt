-- A refusal that `?` passes on tells the same number. Assumes nothing.
use Rattle.std.proofs.Common.{◌≡◌, ap, Result, Ok, Err, IsErrAnd}
use Rattle.loops.specs.Run.{ended}
use Rattle.refusals.specs.declared.Refusal.{Refusal}
use Rattle.refusals.specs.Number.{number_of}
use Rattle.refusals.specs.Told.{told}

pub told_again : {A : Type 0} (r : Result A Refusal) (e : Refusal) → IsErrAnd r (λ y. y ≡ e) → told r ≡ ended (number_of e)
told_again (Ok x) e h = absurd h
told_again (Err y) e h = ap (λ y. ended (number_of y)) h
