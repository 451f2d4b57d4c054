-- `closing_recorded::replay::read_in` meets its contract. Assumes nothing.
use Rattle.std.proofs.Common.{take, replicate, arith, length-take-le}
use Rattle.closing_recorded.proofs.Reading.{seen_in_lem}
use Rattle.closing_recorded.proofs.replay.read_in.Goals as goal

pub read_doubles-requires-4 : goal.read_doubles-requires-4
read_doubles-requires-4 c =
    omega (arith, c.requires.formed.long, c.requires.numbers_len.4)

pub slice_bounds-rule_numbers-end : goal.slice_bounds-rule_numbers-end
slice_bounds-rule_numbers-end c =
    omega (arith, c.requires.formed.rows)

pub returns : goal.returns
returns c =
    let held = c.requires.formed in
    let n = c.args.n in
    let long = c.requires.numbers_len in
    seen_in_lem _ _ _ (take n (replicate 513 0)) long.0 long.1 long.2 long.3 long.4
    c.read_doubles.ensures c.read_halves.ensures c.read_doubles-2.ensures c.read_doubles-3.ensures c.read_doubles-4.ensures
    c.double.ensures c.double-2.ensures c.checked-answer.ensures.answered (length-take-le _ _ (omega (arith, held.rows)))
    c.word-recorded.ensures c.word-linear.ensures c.word-angular.ensures c.compared.ensures
