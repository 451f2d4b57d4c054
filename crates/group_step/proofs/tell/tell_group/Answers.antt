-- `group_step::tell::tell_group` meets its contract. Assumes nothing.
use mathlib.Core.Path.{refl, ap}
use native.Mathlib.Omega.{arith}
use Rattle.group_step.proofs.Telling.{tell_accepted, tell_refused}
use Rattle.refusals.specs.Told.{told}
use Rattle.group_step.proofs.tell.tell_group.Goals as goal

pub tell_words-requires : goal.tell_words-requires
tell_words-requires c =
    omega (arith, c.requires.0)

pub tell_maxima-requires : goal.tell_maxima-requires
tell_maxima-requires c =
    omega (arith, c.requires.1)

pub tell_words-requires-in-Err : goal.tell_words-requires-in-Err
tell_words-requires-in-Err c =
    omega (arith, c.requires.0)

pub returns-in-Ok : goal.returns-in-Ok
returns-in-Ok c =
    tell_accepted _ _ _ _ (ap told c.in-Ok.is) refl c.flag_word-flag.ensures c.tell_words.ensures c.tell_maxima.ensures

pub returns-in-Err : goal.returns-in-Err
returns-in-Err c =
    tell_refused _ _ _ _ (ap told c.in-Err.is) refl (rw c.number.ensures at c.tell_words-in-Err.ensures)
