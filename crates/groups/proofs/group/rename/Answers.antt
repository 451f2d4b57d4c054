-- `groups::group::rename` meets its contract. Assumes nothing.
use Rattle.groups.proofs.Join.{rename_same, rename_other}
use Rattle.groups.proofs.group.rename.Goals as goal

pub returns-then-x-from : goal.returns-then-x-from
returns-then-x-from c = rename_same _ _ _ c.if-x-from.true

pub returns : goal.returns
returns c = rename_other _ _ _ c.if-x-from.false
