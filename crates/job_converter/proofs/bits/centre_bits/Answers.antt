-- `job_converter::bits::centre_bits` meets its contract. Assumes nothing.
use mathlib.Core.Path.{◌∙◌}
use native.Mathlib.Omega.{arith}
use Rattle.job_file.proofs.Masses.{centre_inside, bits_there, bits_none}
use Rattle.job_converter.proofs.bits.centre_bits.Goals as goal

pub mass_bits-requires : goal.mass_bits-requires
mass_bits-requires c =
    centre_inside _ _ _ (omega arith) (omega arith) c.requires.1

pub returns-then-spare-eq1 : goal.returns-then-spare-eq1
returns-then-spare-eq1 c =
    c.mass_bits.ensures ∙ bits_there _ _ _ _ _ (omega arith)

pub returns : goal.returns
returns c =
    bits_none _ _ _ _ _ (omega arith)
