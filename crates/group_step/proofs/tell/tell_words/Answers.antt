-- `group_step::tell::tell_words` meets its contract. Assumes nothing.
use native.Mathlib.Omega.{arith}
use lib.ListN.{length-set}
use Rattle.group_step.proofs.Telling.{two_long, words_put}
use Rattle.group_step.proofs.tell.tell_words.Goals as goal

pub bounds-words-at-2 : goal.bounds-words-at-2
bounds-words-at-2 c =
    omega (arith, length-set (c).args.words.now (c).args.at (c).args.refusal, (c).requires)

pub bounds-words-at-3 : goal.bounds-words-at-3
bounds-words-at-3 c =
    omega (arith, two_long 0 (c).args.words.now (c).args.at (c).args.refusal (c).args.count (omega (arith, (c).requires)), (c).requires)

pub returns : goal.returns
returns c =
    words_put _ _ _ _ _ (c).requires
