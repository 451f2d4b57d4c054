-- `closing_recorded::replay::read` meets its contract. Assumes nothing.
use Rattle.std.proofs.Common.{sym, arith, length-take-le, rules}
use Rattle.closing_recorded.proofs.replay.read.Goals as goal

pub slice_bounds-read_in-end : goal.slice_bounds-read_in-end
slice_bounds-read_in-end c =
    sym (length-take-le _ _ (omega arith))

pub slice_bounds-read_in-end-2 : goal.slice_bounds-read_in-end-2
slice_bounds-read_in-end-2 c =
    sym (length-take-le _ _ (omega arith))

pub slice_bounds-read_in-end-3 : goal.slice_bounds-read_in-end-3
slice_bounds-read_in-end-3 c =
    sym (length-take-le _ _ (omega arith))

pub slice_bounds-read_in-end-4 : goal.slice_bounds-read_in-end-4
slice_bounds-read_in-end-4 c =
    sym (length-take-le _ _ (omega arith))

pub slice_bounds-read_in-end-5 : goal.slice_bounds-read_in-end-5
slice_bounds-read_in-end-5 c =
    sym (length-take-le _ _ (omega arith))

pub read_in-requires : goal.read_in-requires
read_in-requires c =
    record { formed = search rules; numbers_len = (length-take-le _ _ (omega arith), length-take-le _ _ (omega arith), length-take-le _ _ (omega arith), length-take-le _ _ (omega arith), length-take-le _ _ (omega arith)) }
