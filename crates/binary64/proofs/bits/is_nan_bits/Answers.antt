-- `binary64::is_nan_bits` meets its contract: without the sign, the patterns above infinity's are the NaNs'. Assumes nothing.
use mathlib.Core.Path.{sym}
use lib.Ieee.{binary64}
use lib.Ieee.Bits.{nan_bits_above}
use Rattle.binary64.proofs.bits.is_nan_bits.Goals as goal

pub returns : goal.returns
returns c =
    sym (nan_bits_above binary64 c.args.bits)
