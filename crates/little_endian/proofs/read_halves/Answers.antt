-- `little_endian::read_halves` meets its contract: the halves below i are read. Assumes nothing.
use Rattle.little_endian.specs.Words.{halves_at}
use Rattle.loops.proofs.Fill.{fills}
use Rattle.loops.proofs.Tabulate.{filled_tabulate}
use Rattle.little_endian.proofs.read_halves.Goals as goal

ruleset known = (filled_tabulate, fills)

pub loop-i-init : goal.loop-i-init
loop-i-init c = search known

pub loop-i-preserved : goal.loop-i-preserved
loop-i-preserved c = search known

pub returns : goal.returns
unfolding halves_at
returns c = search known
