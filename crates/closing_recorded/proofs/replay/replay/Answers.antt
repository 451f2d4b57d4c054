-- `closing_recorded::replay::replay` meets its contract. Assumes nothing.
use Rattle.std.proofs.Common.{refl, arith}
use Rattle.closing_recorded.proofs.Forming.{formed_head, formed_of, replay_none, replay_seen}
use Rattle.closing_recorded.proofs.replay.replay.Goals as goal

pub returns-then-not-well_formed : goal.returns-then-not-well_formed
returns-then-not-well_formed c =
    replay_none _ c.well_formed-2.ensures c.if-not-well_formed.true-raw c.malformed.ensures

pub word-requires : goal.word-requires
word-requires c =
    omega (arith, formed_head _ c.well_formed-2.ensures c.if-not-well_formed.false-raw)

pub overflow_cast-word : goal.overflow_cast-word
overflow_cast-word c =
    omega (arith, c.word.ensures, (formed_of _ c.well_formed-2.ensures c.if-not-well_formed.false-raw refl refl).rows)

pub word-requires-2 : goal.word-requires-2
word-requires-2 c =
    omega (arith, formed_head _ c.well_formed-2.ensures c.if-not-well_formed.false-raw)

pub overflow_cast-word-2 : goal.overflow_cast-word-2
overflow_cast-word-2 c =
    omega (arith, c.word-2.ensures, (formed_of _ c.well_formed-2.ensures c.if-not-well_formed.false-raw refl refl).bodies)

pub read-requires : goal.read-requires
read-requires c =
    formed_of _ c.well_formed-2.ensures c.if-not-well_formed.false-raw c.word.ensures c.word-2.ensures

pub returns : goal.returns
returns c =
    replay_seen _ c.well_formed-2.ensures c.if-not-well_formed.false-raw c.word.ensures c.word-2.ensures c.read.ensures
