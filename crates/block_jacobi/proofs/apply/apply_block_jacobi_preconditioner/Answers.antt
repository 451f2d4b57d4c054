-- `block_jacobi::apply::apply_block_jacobi_preconditioner` meets its contract: the stretches of the runs before `start` are solved. Assumes nothing.
use Prim.Native.Nat.{◌*◌}
use Rattle.std.specs.Prelude.{◌≡◌, Err}
use native.Mathlib.Omega.{arith}
use Rattle.loops.proofs.Loop.{loops}
use Rattle.block_jacobi.proofs.RunsOf.{runs_none, runs_more, runs_stop, runs_end, run_within, run_some}
use Rattle.block_jacobi.proofs.Solving.{solves_stop, solves_end, solve_on, solve_out_lem, solves_pass, six_rows, part_length, lent_six, lent_alike}
use Rattle.block_jacobi.proofs.apply.apply_block_jacobi_preconditioner.Goals as goal

ruleset known = (runs_none, runs_more, runs_stop, runs_end, run_within, run_some, solve_on, solve_out_lem, solves_pass, six_rows, loops)

pub loop-start-init : goal.loop-start-init
loop-start-init c =
    search known

pub solve_block-requires : goal.solve_block-requires
solve_block-requires c =
    (part_length c.args.blocks.now (36 * c.loop-start.start) 36 (omega (arith, c.run_length-len.ensures, c.loop-start.invariant, c.requires.owners_len, c.requires.runs_fit)), lent_six _ _ _ (omega (arith, c.run_length-len.ensures, c.loop-start.invariant, c.requires.owners_len, c.requires.runs_fit)) (six_rows _ _ _ _ c.requires.runs_fit (omega arith) (c.loop-start.invariant.1.first (omega arith)) c.run_length-len.ensures.is), lent_alike c.args.residual.now c.loop-start.output c.loop-start.start _ (omega (arith, c.run_length-len.ensures, c.loop-start.invariant, c.requires.owners_len, c.requires.runs_fit)) (omega (arith, c.run_length-len.ensures, c.loop-start.invariant, c.requires.owners_len, c.requires.runs_fit)))

pub returns-in_err-solve_block : goal.returns-in_err-solve_block
returns-in_err-solve_block c =
    let e : c.from_residual.result ≡ Err c.in_err-solve_block.field-0.0 = search known in
    let stopped = solve_out_lem _ _ _ _ _ _ _ _ _ (c.loop-start.invariant.1.first (omega arith)) c.run_length-len.ensures.is (omega (arith, c.requires.owners_len, c.requires.runs_fit)) c.solve_block.ensures (search known) in
    rw e (solves_stop _ _ _ _ _ _ _ (omega (arith, c.requires.owners_len, c.requires.runs_fit)) c.loop-start.invariant.1 (omega arith) stopped)

pub loop-start-smaller : goal.loop-start-smaller
loop-start-smaller c =
    search known

pub loop-start-preserved : goal.loop-start-preserved
loop-start-preserved c =
    (search known, runs_more c.loop-start.invariant.1 (solves_pass _ _ _) (omega arith) c.run_length-len.ensures.is (solve_on _ _ _ _ _ _ _ _ _ (c.loop-start.invariant.1.first (omega arith)) c.run_length-len.ensures.is (omega (arith, c.requires.owners_len, c.requires.runs_fit)) c.solve_block.ensures (search known)))

pub returns : goal.returns
returns c =
    solves_end _ _ _ _ _ _ _ (omega (arith, c.requires.owners_len, c.requires.runs_fit)) c.loop-start.invariant.1 (omega arith)
