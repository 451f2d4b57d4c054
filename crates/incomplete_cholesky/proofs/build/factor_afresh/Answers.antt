-- `incomplete_cholesky::build::factor_afresh` meets its contract. Assumes nothing.
use native.Mathlib.Omega.{arith}
use Rattle.loops.proofs.Loop.{loops}
use Rattle.incomplete_cholesky.proofs.Builds.{marks_clear}
use Rattle.incomplete_cholesky.proofs.build.factor_afresh.Goals as goal

ruleset known = (marks_clear, loops)

pub clear_words-requires : goal.clear_words-requires
clear_words-requires c =
    search known

pub factor-requires : goal.factor-requires
factor-requires c =
    record { kept = search known; values_len = omega arith; starts_len = omega arith; marks_len = omega arith; at_most = search known }

pub returns : goal.returns
returns c =
    record { value = search known; number = search known }
