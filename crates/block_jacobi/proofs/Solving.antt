-- A turn of the loop over the runs that solves: each block on its own stretch. Assumes nothing.
use Prim.Native.Nat.{ℕ, ◌+◌, ◌*◌, ◌-◌, ◌<◌, ◌≤◌}
use mathlib.Core.Path.{◌≡◌, sym, ◌∙◌}
use mathlib.Core.Bool.{true}
use mathlib.Core.List.{List, ◌++◌}
use native.Mathlib.Omega.{arith}
use lib.ListN.{length, take, drop, length-drop}
use lib.Seq.{length-take-le}
use lib.Ieee.{Float}
use Rattle.std.specs.Prelude.{Result, Ok, Err}
use Rattle.loops.specs.Run.{going, ended, check}
use Rattle.loops.proofs.Loop.{on_going, on_ended}
use Rattle.triangular.specs.Answers.{solve_out}
use Rattle.triangular.specs.declared.substitution.Overflow.{Overflow}
use Rattle.block_factor.specs.Solves.{block_solve_run}
use Rattle.block_jacobi.specs.Runs.{begins, run_length, RunsFit}
use Rattle.block_jacobi.specs.Blocks.{stretch, put_stretch, block_in, solve_turn, blocks_solve_run}
use Rattle.block_jacobi.proofs.RunsOf.{Runs, Passes, runs_stop, runs_end}

part : (a n : ℕ) → a + n - a ≡ n
part a n = omega arith

-- the stretches of a call are those from `start` to `start + len`, and its block the 36 numbers from `36 * start` on
module _ (blocks : List Float) (owner : ℕ → ℕ) (residual y z : List Float) (start len n : ℕ) (r : Result Unit Overflow)
    (first : begins owner start ≡ true) (e : len ≡ run_length owner start n) (en : n ≡ length residual)
    (called : block_solve_run (take (36 * start + 36 - 36 * start) (drop (36 * start) blocks)) (take (start + len - start) (drop start residual)) (take (start + len - start) (drop start y)) ≡ solve_out r z) where
  solved : block_solve_run (block_in blocks start) (stretch residual start len) (stretch y start len) ≡ solve_out r z
  unfolding block_in stretch
  solved = rw (part (36 * start) 36, part start len) at called

  pub solve_on : r ≡ Ok tt → solve_turn (block_in blocks) owner residual start y ≡ going (take start y ++ (z ++ drop (start + len - start) (drop start y)))
  unfolding solve_turn put_stretch check
  solve_on t = rw (first, ← en, ← e, part start len) (on_going _ _ _ {s = z} (solved ∙ rw t))

  pub solve_out_lem : {x : Overflow} → r ≡ Err x → solve_turn (block_in blocks) owner residual start y ≡ ended (take start y ++ (z ++ drop (start + len - start) (drop start y)))
  unfolding solve_turn put_stretch check
  solve_out_lem t = rw (first, ← en, ← e, part start len) (on_ended _ _ _ {a = z} (solved ∙ rw t))

pub solves_pass : (block : ℕ → List Float) (owner : ℕ → ℕ) (residual : List Float) → Passes (solve_turn block owner residual) owner
unfolding solve_turn check
solves_pass block owner residual = record { pass = λ i t h. rw h }

pub six_rows : (owner : ℕ → ℕ) (n start len : ℕ) → RunsFit owner n → start < n → begins owner start ≡ true → len ≡ run_length owner start n → len ≤ 6
six_rows owner n start len h l b e = rw e (h.six start l b)

-- a block is lent as many numbers of the residual as of the output: its rows
pub part_length : (y : List Float) (start len : ℕ) → start + len ≤ length y → length (take (start + len - start) (drop start y)) ≡ len
part_length y start len h = length-take-le (start + len - start) (drop start y) (rw (length-drop start y) (omega arith)) ∙ part start len

pub lent_six : (y : List Float) (start len : ℕ) → start + len ≤ length y → len ≤ 6 → length (take (start + len - start) (drop start y)) ≤ 6
lent_six y start len h k = rw (part_length y start len h) k

pub lent_alike : (x y : List Float) (start len : ℕ) → start + len ≤ length x → start + len ≤ length y → length (take (start + len - start) (drop start x)) ≡ length (take (start + len - start) (drop start y))
lent_alike x y start len h k = part_length x start len h ∙ sym (part_length y start len k)

-- ---- the ways out of the loop: its runs are those of the owners, as many as the residual has numbers
module _ (block : ℕ → List Float) (owner : ℕ → ℕ) (residual y t : List Float) (n start : ℕ) (en : n ≡ length residual) (h : Runs (solve_turn block owner residual) owner y n start t) where
  pub solves_stop : {z : List Float} → start < n → solve_turn block owner residual start t ≡ ended z → blocks_solve_run block owner residual y ≡ ended z
  unfolding blocks_solve_run
  solves_stop l e = rw (← en) (runs_stop h l e)

  pub solves_end : n ≤ start → blocks_solve_run block owner residual y ≡ going t
  unfolding blocks_solve_run
  solves_end l = rw (← en) (runs_end h l)
