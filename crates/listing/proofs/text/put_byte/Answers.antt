-- `listing::text::put_byte` meets its contract. Assumes nothing.
use native.Mathlib.Omega.{arith}
use Rattle.listing.proofs.Joined.{wrote_one}
use Rattle.listing.proofs.text.put_byte.Goals as goal

pub returns : goal.returns
returns c =
    wrote_one _ _ _ (omega arith)
