-- `groups::group::number_rows` meets its contract: the keys below i are numbered. Assumes nothing.
use Rattle.groups.proofs.Number.{numbering_more, numbering_end}
use Rattle.loops.proofs.Loop.{loops}
use Rattle.groups.proofs.group.number_rows.Goals as goal

ruleset known = (numbering_more, numbering_end, loops)

pub loop-i-preserved : goal.loop-i-preserved
loop-i-preserved c = search known

pub returns-clause-numbered : goal.returns-clause-numbered
returns-clause-numbered c = search known
