-- `incomplete_cholesky::build::build_incomplete_cholesky_preconditioner` meets its contract. Assumes nothing.
use native.Mathlib.Omega.{arith}
use Rattle.loops.proofs.Loop.{loops}
use Rattle.incomplete_cholesky.proofs.Builds.{build_finished, build_refused, factor_past, paired_kept}
use Rattle.incomplete_cholesky.proofs.build.build_incomplete_cholesky_preconditioner.Goals as goal

ruleset known = (paired_kept, build_refused, build_finished, loops)

pub pairs-requires : goal.pairs-requires
pairs-requires c =
    search known

pub finish-requires : goal.finish-requires
finish-requires c =
    record { kept = search known; diagonal_len = (omega arith, omega arith, omega arith) }

pub returns : goal.returns
returns c =
    record { factor_held = build_finished _ _ _ _ _ _ c.pairs.ensures.pairs_held _ _ _ _ _ _ _ c.in_ok-pairs.was c.finish.ensures; factor_past = factor_past _ _ _ _ _ _ _ _ (omega arith) (omega arith) (omega arith) }

pub returns-in_err-pairs : goal.returns-in_err-pairs
returns-in_err-pairs c =
    record { factor_held = build_refused _ _ _ _ _ _ c.pairs.ensures.pairs_held _ _ c.in_err-pairs.was _ (search loops); factor_past = factor_past _ _ _ _ _ _ _ _ (omega arith) (omega arith) (omega arith) }
