-- `binary64::whole_root` meets its contract. The invariant: after `turn` turns the first 4 * turn digits of the radicand are root * root + rest, with rest at most 2 * root. Assumes nothing.
use Prim.Native.Nat.{◌*◌}
use Rattle.binary64.specs.RootDigits.{Partial}
use Rattle.binary64.proofs.square_root.whole_root.Given as goal

abbrev pub invariant-loop-turn : goal.invariant-loop-turn
invariant-loop-turn l = Partial l.digits (l.turn * 2) l.s.root l.s.rest l.s.coming
