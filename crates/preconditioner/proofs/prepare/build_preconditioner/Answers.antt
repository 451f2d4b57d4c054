-- `preconditioner::prepare::build_preconditioner` meets its contract. Assumes nothing.
use mathlib.Core.Path.{◌∙◌}
use native.Mathlib.Omega.{arith}
use Rattle.loops.proofs.Loop.{loops}
use Rattle.compact_table.proofs.Linked.{linked_same}
use Rattle.preconditioner.proofs.Modes.{factor_done, factor_refused, blocks_done, blocks_refused, factor_lent, blocks_lent, mode_diagonal, mode_factor, mode_blocks}
use Rattle.preconditioner.proofs.prepare.build_preconditioner.Goals as goal

ruleset known = (mode_diagonal, loops)

pub build_incomplete_cholesky_preconditioner-requires : goal.build_incomplete_cholesky_preconditioner-requires
build_incomplete_cholesky_preconditioner-requires c =
    let f = factor_lent _ _ _ c.requires.roomy c.in-IncompleteCholesky.is in record { rows_in_bounds = (c.requires.words_len.1, c.requires.words_len.2, c.requires.words_len.3); linked = c.requires.linked; diagonal_len = (c.diagonal-1.given ∙ f.0, f.1, f.2, f.3, c.pair_room.ensures) }

pub gather_owners-requires : goal.gather_owners-requires
gather_owners-requires c =
    let b = blocks_lent _ _ _ c.requires.roomy c.in-BlockJacobi.is in omega (arith, b.0, c.requires.words_len.0)

pub build_block_jacobi_preconditioner-requires : goal.build_block_jacobi_preconditioner-requires
build_block_jacobi_preconditioner-requires c =
    let b = blocks_lent _ _ _ c.requires.roomy c.in-BlockJacobi.is in record { owners_in_bounds = (omega (arith, b.0, c.pattern-in-BlockJacobi-1.given, c.requires.words_len), omega (arith, b.0, c.pattern-in-BlockJacobi-1.given, c.requires.words_len), c.requires.words_len.3, omega (arith, b, c.pattern-in-BlockJacobi-1.given)); linked = linked_same _ _ _ _ (c.pattern-in-BlockJacobi-1.given ∙ b.0) c.requires.linked }

pub returns-in-Diagonal : goal.returns-in-Diagonal
returns-in-Diagonal c =
    search known

pub returns-in_err-count-in-IncompleteCholesky : goal.returns-in_err-count-in-IncompleteCholesky
returns-in_err-count-in-IncompleteCholesky c =
    let made = c.build_incomplete_cholesky_preconditioner.ensures in
    mode_factor _ _ _ _ _ _ _ _ c.in-IncompleteCholesky.is c.shift_diagonal.ensures made.factor_held made.factor_past (factor_refused _ _ _ c.in_err-count-in-IncompleteCholesky.was (search loops))

pub returns-in_ok-count-in-IncompleteCholesky : goal.returns-in_ok-count-in-IncompleteCholesky
returns-in_ok-count-in-IncompleteCholesky c =
    let made = c.build_incomplete_cholesky_preconditioner.ensures in
    mode_factor _ _ _ _ _ _ _ _ c.in-IncompleteCholesky.is c.shift_diagonal.ensures made.factor_held made.factor_past (factor_done _ _ c.in_ok-count-in-IncompleteCholesky.was)

pub returns-in_err-build_block_jacobi_preconditioner-in-BlockJacobi : goal.returns-in_err-build_block_jacobi_preconditioner-in-BlockJacobi
returns-in_err-build_block_jacobi_preconditioner-in-BlockJacobi c =
    let lent = blocks_lent _ _ _ c.requires.roomy c.in-BlockJacobi.is in
    mode_blocks c.args.words.now _ _ _ _ _ _ _ _ _ _ _ c.build_block_jacobi_preconditioner.result _ c.requires.words_len.0 lent.0 (c.pattern-in-BlockJacobi-1.given ∙ lent.0) c.gather_owners.ensures c.in-BlockJacobi.is
    c.build_block_jacobi_preconditioner.ensures (blocks_refused _ _ _ c.in_err-build_block_jacobi_preconditioner-in-BlockJacobi.was (search loops))

pub returns-in_ok-build_block_jacobi_preconditioner-in-BlockJacobi : goal.returns-in_ok-build_block_jacobi_preconditioner-in-BlockJacobi
returns-in_ok-build_block_jacobi_preconditioner-in-BlockJacobi c =
    let lent = blocks_lent _ _ _ c.requires.roomy c.in-BlockJacobi.is in
    mode_blocks c.args.words.now _ _ _ _ _ _ _ _ _ _ _ c.build_block_jacobi_preconditioner.result _ c.requires.words_len.0 lent.0 (c.pattern-in-BlockJacobi-1.given ∙ lent.0) c.gather_owners.ensures c.in-BlockJacobi.is
    c.build_block_jacobi_preconditioner.ensures (blocks_done _ c.in_ok-build_block_jacobi_preconditioner-in-BlockJacobi.was)
