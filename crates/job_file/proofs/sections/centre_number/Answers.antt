-- `job_file::sections::centre_number` meets its contract. Assumes nothing.
use mathlib.Core.Path.{◌∙◌}
use native.Mathlib.Omega.{arith}
use Rattle.job_file.proofs.Masses.{centre_inside, centre_there, centre_none}
use Rattle.job_file.proofs.sections.centre_number.Goals as goal

pub mass_number-requires : goal.mass_number-requires
mass_number-requires c =
    centre_inside _ _ _ (omega arith) (omega arith) c.requires.1

pub returns-then-spare-eq1 : goal.returns-then-spare-eq1
returns-then-spare-eq1 c =
    c.mass_number.ensures ∙ centre_there _ _ _ _ _ (omega arith)

pub returns : goal.returns
returns c =
    centre_none _ _ _ _ _ (omega arith)
