-- `preconditioner::apply::apply_preconditioner` meets its contract. Assumes nothing.
use mathlib.Core.Path.{sym, ◌∙◌}
use native.Mathlib.Omega.{arith}
use Rattle.loops.proofs.Loop.{loops}
use Rattle.triangular.proofs.Solves.{sixteen}
use Rattle.std.specs.Prelude.{Ok}
use Rattle.preconditioner.proofs.Applies.{apply_diagonal, apply_blocks, factor_applied, factor_lent, blocks_lent}
use Rattle.preconditioner.proofs.apply.apply_preconditioner.Goals as goal

ruleset known = (apply_diagonal, loops)

pub diagonal_solve-requires : goal.diagonal_solve-requires
diagonal_solve-requires c =
    (c.requires.residual_len, c.requires.ready.long ∙ c.requires.residual_len)

pub solve_factor-requires : goal.solve_factor-requires
solve_factor-requires c =
    record { factor_ready = factor_lent _ _ _ c.requires.ready _ _ c.in-IncompleteCholesky.is (c.output-in-IncompleteCholesky-1.given ∙ sym c.requires.residual_len); pivots_len = (c.requires.ready.long ∙ c.requires.residual_len ∙ sym c.output-in-IncompleteCholesky-1.given, c.requires.residual_len ∙ sym c.output-in-IncompleteCholesky-1.given) }

pub apply_block_jacobi_preconditioner-requires : goal.apply_block_jacobi_preconditioner-requires
apply_block_jacobi_preconditioner-requires c =
    let b = blocks_lent _ _ _ c.requires.ready c.in-BlockJacobi.is in let e = c.requires.residual_len ∙ sym c.output-in-BlockJacobi-1.given in record { owners_len = (b.0 ∙ e, e, omega (arith, b.1, e)); runs_fit = b.2 }

pub returns-in-Diagonal : goal.returns-in-Diagonal
returns-in-Diagonal c =
    record { residual_value = search known; residual_value_2 = sixteen (Ok tt) _ (search known) }

pub returns-in-IncompleteCholesky : goal.returns-in-IncompleteCholesky
returns-in-IncompleteCholesky c =
    let run = factor_applied _ _ _ _ _ _ _ c.args.output.now _ _ _ _ c.in-IncompleteCholesky.is (c.output-in-IncompleteCholesky-1.given ∙ sym c.requires.residual_len) c.clear.ensures c.requires.residual_len c.solve_factor.ensures in record { residual_value = run; residual_value_2 = sixteen _ _ run }

pub returns-in-BlockJacobi : goal.returns-in-BlockJacobi
returns-in-BlockJacobi c =
    let run = apply_blocks _ _ _ _ _ _ c.args.output.now _ c.clear-in-BlockJacobi.ensures c.requires.residual_len c.in-BlockJacobi.is c.apply_block_jacobi_preconditioner.ensures in record { residual_value = run; residual_value_2 = sixteen _ _ run }
