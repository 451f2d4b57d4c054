-- `job_converter::judge::output_fits` meets its contract. Assumes nothing.
use mathlib.Core.Path.{ap, ◌∙◌}
use lib.Dec.{eqb}
use native.Mathlib.Omega.{arith}
use Rattle.job_converter.proofs.Ways.{output_unknown, output_length}
use Rattle.job_converter.proofs.judge.output_fits.Goals as goal

pub returns-then-layout-gt1 : goal.returns-then-layout-gt1
returns-then-layout-gt1 c =
    output_unknown _ _ _ (omega arith)

pub file_length-bytes-requires : goal.file_length-bytes-requires
file_length-bytes-requires c =
    (c.requires.0, c.requires.1, omega arith)

pub returns : goal.returns
returns c =
    ap (λ n. eqb c.args.out n) c.file_length-bytes.ensures ∙ output_length _ _ _ (omega arith)
