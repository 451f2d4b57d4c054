-- `pairs::gathering::pairs` meets its contract. Assumes nothing.
use native.Mathlib.Omega.{arith}
use Rattle.loops.proofs.Loop.{loops}
use Rattle.pairs.proofs.Places.{pairs_done, pairs_free, pairs_kept, pairs_ten, pairs_twelve}
use Rattle.pairs.proofs.gathering.pairs.Goals as goal

ruleset known = (pairs_kept, pairs_ten, pairs_twelve, pairs_done, loops)

pub gather-requires : goal.gather-requires
gather-requires c =
    search loops

pub clear_words-requires : goal.clear_words-requires
clear_words-requires c =
    search loops

pub returns-in_default : goal.returns-in_default
returns-in_default c =
    record { pairs_held = search known; pairs_free = pairs_free _ _ _ _ _ _ (omega arith) (omega arith) }

pub fill-requires : goal.fill-requires
fill-requires c =
    record { rows_in_bounds = search known; linked = search known; pattern_len = omega arith; kept = search known }

pub returns-then-not-fill : goal.returns-then-not-fill
returns-then-not-fill c =
    record { pairs_held = search known; pairs_free = pairs_free _ _ _ _ _ _ (omega arith) (omega arith) }

pub returns : goal.returns
returns c =
    record { pairs_held = search known; pairs_free = pairs_free _ _ _ _ _ _ (omega arith) (omega arith) }
