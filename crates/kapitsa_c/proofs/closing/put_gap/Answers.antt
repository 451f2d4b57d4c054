-- `kapitsa_c::closing::put_gap` meets its contract. Assumes nothing.
use Rattle.kapitsa_c.proofs.Telling.{both_set}
use Rattle.kapitsa_c.proofs.closing.put_gap.Goals as goal

pub returns : goal.returns
returns c =
    both_set c.args.gap.now c.args.measured.linear c.args.measured.angular c.requires
