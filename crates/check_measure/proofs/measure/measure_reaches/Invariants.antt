-- `check_measure::measure::measure_reaches` meets its contract: the values below i are reaches, the others as they were. Assumes nothing.
use Rattle.check_range.specs.Closing.{error_in}
use Rattle.check_measure.proofs.InPlace.{Replaced, reaching}
use Rattle.check_measure.proofs.measure.measure_reaches.Given as goal

abbrev pub invariant-loop-i : goal.invariant-loop-i
invariant-loop-i l =
    Replaced (reaching l.rows (error_in l.kind l.numbers l.given) l.sizes) l.initial.values l.i l.values
