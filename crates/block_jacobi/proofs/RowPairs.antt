-- A turn of the loop over the runs, whose blocks are built, and the ways out of it. Assumes nothing.
use Prim.Native.Nat.{ℕ, ◌<◌, ◌≤◌}
use mathlib.Core.Path.{◌≡◌, refl}
use mathlib.Core.Bool.{true}
use mathlib.Core.List.{List}
use lib.Ieee.{Float}
use borrow.Author.Tests.{le-leb, lt-leb}
use Rattle.loops.specs.Run.{going, ended, check}
use Rattle.loops.proofs.Loop.{on_going, on_ended}
use Rattle.mass_operator.specs.System.{System}
use Rattle.block_factor.specs.Answers.{rows_run, no_numbers, block_of}
use Rattle.block_jacobi.specs.Runs.{begins, run_length}
use Rattle.block_jacobi.specs.Blocks.{put_block, block_turn, blocks_run}
use Rattle.block_jacobi.proofs.RunsOf.{Runs, Passes, runs_end, runs_stop}

-- ---- a turn of the loop over the runs
module _ (s : System) (owner : ℕ → ℕ) (start len : ℕ) (blocks : List Float) (first : begins owner start ≡ true) (e : len ≡ run_length owner start s.rows) where
  pub run_eleven : 6 < len → block_turn s owner start blocks ≡ ended (11, blocks)
  unfolding block_turn block_of check
  run_eleven h = rw (first, ← e, lt-leb len 6 h) (on_ended _ _ _ refl)

  pub run_out : {k : ℕ} → len ≤ 6 → rows_run s start len no_numbers ≡ ended k → block_turn s owner start blocks ≡ ended (k, blocks)
  unfolding block_turn block_of check
  run_out h q = rw (first, ← e, le-leb len 6 h) (on_ended _ _ _ q)

  pub run_on : {l m : List Float} → len ≤ 6 → rows_run s start len no_numbers ≡ going l → m ≡ put_block blocks start l → block_turn s owner start blocks ≡ going m
  unfolding block_turn block_of check
  run_on h q p = rw (first, ← e, le-leb len 6 h, p) (on_going _ _ _ q)

pub blocks_pass : (s : System) (owner : ℕ → ℕ) → Passes (block_turn s owner) owner
unfolding block_turn check
blocks_pass s owner = record { pass = λ i t h. rw h }

-- ---- the ways out of the loop over the runs
module _ (s : System) (owner : ℕ → ℕ) (l t : List Float) (start : ℕ) (h : Runs (block_turn s owner) owner l s.rows start t) where
  pub blocks_end : s.rows ≤ start → blocks_run s owner l ≡ going t
  unfolding blocks_run
  blocks_end g = runs_end h g

  pub blocks_stop : {k : ℕ} → start < s.rows → block_turn s owner start t ≡ ended (k, t) → blocks_run s owner l ≡ ended (k, t)
  unfolding blocks_run
  blocks_stop g e = runs_stop h g e
