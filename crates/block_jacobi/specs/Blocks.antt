-- Mode 2: the factors of all blocks, run by run, and the solves with them. pcg.rs, build_velocity_block_jacobi_preconditioner, apply_block_jacobi_preconditioner.
-- "the first row of a run that leaves its body pair ends the whole block test": a Run that has ended carries document 01's number, and the blocks as they then stand.
use Rattle.std.specs.Prelude.{ℕ, ◌*◌, List, ◌++◌, length, take, drop, Float, Result, Ok, Err}
use Rattle.loops.specs.Run.{Run, going, ended, on, turns, check}
use Rattle.mass_operator.specs.System.{System}
use Rattle.block_factor.specs.Answers.{block_of}
use Rattle.block_factor.specs.Solves.{block_solve_run}
use Rattle.block_jacobi.specs.Runs.{begins, run_length}
use Rattle.refusals.specs.Number.{number_of}
use Rattle.refusals.specs.declared.Refusal.{Refusal}

-- ---- a stretch of a lent list, and that list with z in its place
unfoldable pub stretch : List Float → ℕ → ℕ → List Float
stretch l start len = take len (drop start l)

unfoldable pub put_stretch : List Float → ℕ → ℕ → List Float → List Float
put_stretch l start len z = take start l ++ (z ++ drop len (drop start l))

-- the 36 numbers of the block whose first row is `start`
unfoldable pub block_in : List Float → ℕ → List Float
block_in l start = stretch l (36 * start) 36

unfoldable pub put_block : List Float → ℕ → List Float → List Float
put_block l start b = put_stretch l (36 * start) 36 b

-- ---- the factors

-- row i: where a run begins there, its block is made and kept
unfoldable pub block_turn : System → (ℕ → ℕ) → ℕ → List Float → Run (List Float) (ℕ × List Float)
block_turn s owner i l = check (begins owner i) (on (block_of s i (run_length owner i s.rows)) (λ b. going (put_block l i b)) (λ number. ended (number, l))) (going l)

unfoldable pub blocks_run : System → (ℕ → ℕ) → List Float → Run (List Float) (ℕ × List Float)
blocks_run s owner l = turns (block_turn s owner) l s.rows

-- the numbers of a block, or the refusal of one
abbrev pub filled_out : Result Unit Refusal → List Float → Run (List Float) ℕ
filled_out (Ok _) l = going l
filled_out (Err refusal) l = ended (number_of refusal)

abbrev pub blocked_out : Result Unit Refusal → List Float → Run (List Float) (ℕ × List Float)
blocked_out (Ok _) l = going l
blocked_out (Err refusal) l = ended (number_of refusal, l)

-- ---- the solves

-- row i: where a run begins there, its block is solved on its own stretch; not finite: 16
unfoldable pub solve_turn : (ℕ → List Float) → (ℕ → ℕ) → List Float → ℕ → List Float → Run (List Float) (List Float)
solve_turn block owner residual i y =
    let len = run_length owner i (length residual) in
    check (begins owner i) (on (block_solve_run (block i) (stretch residual i len) (stretch y i len)) (λ z. going (put_stretch y i len z)) (λ z. ended (put_stretch y i len z))) (going y)

unfoldable pub blocks_solve_run : (ℕ → List Float) → (ℕ → ℕ) → List Float → List Float → Run (List Float) (List Float)
blocks_solve_run block owner residual y = turns (solve_turn block owner residual) y (length residual)
