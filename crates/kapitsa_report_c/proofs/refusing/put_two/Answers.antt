-- `kapitsa_report_c::refusing::put_two` meets its contract. Assumes nothing.
use Rattle.kapitsa_report_c.proofs.Told.{two_set}
use Rattle.kapitsa_report_c.proofs.refusing.put_two.Goals as goal

pub returns : goal.returns
returns c =
    two_set (c).args.place.now (c).args.what (c).args.which (c).requires
