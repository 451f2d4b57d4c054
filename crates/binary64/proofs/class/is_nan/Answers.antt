-- `binary64::is_nan` meets its contract. Assumes nothing.
use Rattle.binary64.proofs.class.Self.{not_itself}
use Rattle.binary64.proofs.class.is_nan.Goals as goal

pub returns : goal.returns
returns c =
    not_itself c.args.x
