-- What was built and applied in lent memory, told by the definitions alone: the factor judged, held and solved. Assumes nothing.
use Prim.Native.Nat.{ℕ, zero, suc, ◌*◌, ◌<◌, ◌≤◌}
use mathlib.Core.Path.{◌≡◌, refl, sym, ap, ◌∙◌}
use mathlib.Core.Bool.{Bool, true, false}
use mathlib.Core.List.{List}
use native.Mathlib.Omega.{arith}
use lib.ListN.{length}
use lib.Ieee.{Float}
use Rattle.std.specs.Prelude.{Result, Ok, Err}
use Rattle.loops.specs.Run.{Run, going, ended, on, next, turns, check}
use Rattle.loops.specs.Judge.{judged}
use Rattle.loops.specs.Tabulate.{tabulate}
use Rattle.loops.proofs.Loop.{on_going, on_ended}
use Rattle.mass_operator.specs.System.{System}
use Rattle.triangular.specs.Column.{Indexed}
use Rattle.pairs.specs.Pattern.{starts_in, columns_in}
use Rattle.loops.specs.Cleared.{zeros}
use Rattle.incomplete_cholesky.specs.Build.{cholesky_run, build_out}
use Rattle.block_factor.specs.Answers.{block_of}
use Rattle.block_factor.specs.Solves.{block_solve_run}
use Rattle.block_jacobi.specs.Runs.{owner_in, begins, run_length}
use Rattle.block_jacobi.specs.Blocks.{block_in, put_block, put_stretch, stretch, block_turn, blocks_run, blocked_out, solve_turn, blocks_solve_run}
use Rattle.refusals.specs.Number.{number_of}
use Rattle.refusals.specs.Told.{told}
use Rattle.refusals.specs.declared.Refusal.{Refusal}
use Rattle.block_jacobi.proofs.BlocksHeld.{kept_all, runs_fit}
use Rattle.triangular.specs.Triangular.{or_sixteen}
use Rattle.preconditioner.specs.Factor.{block_at, block_judged, factor_judged}
use Rattle.preconditioner.specs.Apply.{block_numbers, preconditioned, preconditioned_run}
use Rattle.preconditioner.specs.Room.{Memory, Roomy, pattern_room, order_room, values_room}
use Rattle.preconditioner.specs.Held.{factor_in, Ready, Holds, holds_diagonal, holds_factor, holds_blocks, FactorBuilt, built_diagonal, built_factor, built_blocks, prepared_out, factor_prepared, blocks_prepared, z_in}
use Rattle.preconditioner.specs.Shift.{shifted}
use Rattle.preconditioner.specs.declared.mode.Mode.{Mode}
use Rattle.preconditioner.specs.declared.mode.Mode.TheVariants as modes
use Rattle.preconditioner.specs.declared.apply.Preconditioner.{Preconditioner}
use Rattle.preconditioner.specs.declared.apply.Preconditioner.TheVariants as built

-- ---- the judgement of the blocks is that of the loop which keeps them
abbrev Kept : Type 0
Kept = Run (List Float) (ℕ × List Float)

abbrev verdict : Kept → Run Unit ℕ
verdict r = on r (λ _. going tt) (λ e. ended e.0)

module _ (s : System) (owner : ℕ → ℕ) (l : List Float) where
  by_block : (k : ℕ) (t : List Float) (r : Run (List Float) ℕ) → verdict (on {R = Kept} r (λ b. going (put_block t k b)) (λ n. ended (n, t))) ≡ next r (λ _. going tt)
  unfolding on
  by_block k t (going b) = refl
  by_block k t (ended n) = refl

  by_run : (k : ℕ) (t : List Float) (c : Bool) → verdict (check c (on {R = Kept} (block_of s k (run_length owner k s.rows)) (λ b. going (put_block t k b)) (λ n. ended (n, t))) (going t)) ≡ check c (next (block_of s k (run_length owner k s.rows)) (λ _. going tt)) (going tt)
  unfolding check on
  by_run k t true = by_block k t (block_of s k (run_length owner k s.rows))
  by_run k t false = refl

  by_turn : (k : ℕ) (r : Kept) (q : Run Unit ℕ) → verdict r ≡ q → verdict (on r (block_turn s owner k) ended) ≡ on q (λ _. block_judged s owner k) ended
  unfolding on block_turn block_judged block_at
  by_turn k (going t) q e = rw (← e) (by_run k t (begins owner k))
  by_turn k (ended a) q e = rw (← e)

  judged_to : (k : ℕ) → verdict (turns (block_turn s owner) l k) ≡ judged (block_judged s owner) k
  unfolding turns judged on
  judged_to zero = refl
  judged_to (suc k) = by_turn k (turns (block_turn s owner) l k) _ (judged_to k)

  pub blocks_judged : verdict (blocks_run s owner l) ≡ judged (block_judged s owner) s.rows
  unfolding blocks_run
  blocks_judged = judged_to s.rows

-- ---- what is built: judged as the definition says, and there where it is not refused
module _ (s : System) (owner : ℕ → ℕ) (before after : Memory) where
  factor_answered : (shift : Float) (a : Run ℕ ℕ) → cholesky_run s (shifted shift before.diagonal) ≡ build_out a (factor_in s.rows after) after.diagonal → next (cholesky_run s (shifted shift before.diagonal)) (λ _. going tt) ≡ prepared_out (factor_prepared a)
  factor_answered shift (going count) e = on_going _ _ _ e
  factor_answered shift (ended n) e = on_ended _ _ _ e

  blocks_answered : (a : Result Unit Refusal) → blocks_run s owner before.values ≡ blocked_out a after.values → judged (block_judged s owner) s.rows ≡ prepared_out (blocks_prepared (told a))
  blocks_answered (Ok _) e = sym (blocks_judged s owner before.values) ∙ on_going _ _ _ e
  blocks_answered (Err n) e = sym (blocks_judged s owner before.values) ∙ on_ended _ _ _ e

  pub built_answered : (mode : Mode) (r : Run Preconditioner ℕ) → FactorBuilt s owner before after mode r → factor_judged mode s owner before.diagonal ≡ prepared_out r
  unfolding factor_judged
  built_answered modes.Diagonal (going built.Diagonal) (built_diagonal e) = refl
  built_answered modes.Diagonal (going (built.IncompleteCholesky _)) none = elim none [ ]
  built_answered modes.Diagonal (going built.BlockJacobi) none = elim none [ ]
  built_answered modes.Diagonal (ended _) none = elim none [ ]
  built_answered (modes.IncompleteCholesky _) r (built_factor shift a h _) = factor_answered shift a h.answered
  built_answered modes.BlockJacobi r (built_blocks a e q) = blocks_answered a e

  module _ (p : Preconditioner) (joints : owner_in (tabulate owner s.rows) ≡ owner) where
    unlike : {R : Type 0} (n : ℕ) → ◌≡◌ {A = Run Preconditioner ℕ} (ended n) (going p) → R
    unlike n e = absurd (let z : ◌≡◌ {A = ℕ} 0 1 = cc in omega arith)

    factor_holds : (shift : Float) (a : Run ℕ ℕ) → factor_prepared a ≡ going p → cholesky_run s (shifted shift before.diagonal) ≡ build_out a (factor_in s.rows after) after.diagonal → Holds s owner before.diagonal after (modes.IncompleteCholesky shift) p
    factor_holds shift (going count) e h = let z : built.IncompleteCholesky count ≡ p = cc in rw (← z) (holds_factor shift count h)
    factor_holds shift (ended n) e h = unlike n e

    gathered : after ≡ record { diagonal = before.diagonal; pattern = tabulate owner s.rows; order = before.order; values = after.values } → owner_in after.pattern ≡ owner
    gathered q = ap (λ (m : Memory). owner_in m.pattern) q ∙ joints

    blocks_hold : (a : Result Unit Refusal) → blocks_prepared (told a) ≡ going p → blocks_run s owner before.values ≡ blocked_out a after.values → owner_in after.pattern ≡ owner → 36 * s.rows ≤ length before.values → Holds s owner before.diagonal after modes.BlockJacobi p
    unfolding block_at
    blocks_hold (Ok _) e h o room = let z : built.BlockJacobi ≡ p = cc in rw (← z) (holds_blocks o (kept_all s owner before.values room after.values h).blocks)
    blocks_hold (Err n) e h o room = unlike (number_of n) e

    block_room : Roomy modes.BlockJacobi s.rows before → 36 * s.rows ≤ length before.values
    unfolding values_room
    block_room r = omega (arith, r.values_long)

    pub built_holds : (mode : Mode) (r : Run Preconditioner ℕ) → r ≡ going p → Roomy mode s.rows before → FactorBuilt s owner before after mode r → Holds s owner before.diagonal after mode p
    built_holds modes.Diagonal r e room (built_diagonal q) = let z : built.Diagonal ≡ p = cc in rw (← z) (holds_diagonal (ap (λ (m : Memory). m.diagonal) q))
    built_holds (modes.IncompleteCholesky _) r e room (built_factor shift a h _) = factor_holds shift a e h.answered
    built_holds modes.BlockJacobi r e room (built_blocks a h q) = blocks_hold a e h (gathered q) (block_room room)

    -- ---- the solves may be called with it; lent memory keeps its lengths
    module _ (ed : length after.diagonal ≡ length before.diagonal) (ep : length after.pattern ≡ length before.pattern) (eo : length after.order ≡ length before.order) (ev : length after.values ≡ length before.values) where
      diagonal_ready : (mode : Mode) → Roomy mode s.rows before → p ≡ built.Diagonal → Ready p s.rows after
      diagonal_ready mode room e = record { long = ed ∙ room.diagonal_long; factor = λ count q. absurd (let z : ◌≡◌ {A = ℕ} 0 1 = cc in omega arith); blocks = λ q. absurd (let z : ◌≡◌ {A = ℕ} 0 1 = cc in omega arith) }

      factor_ready : (shift : Float) (a : Run ℕ ℕ) → factor_prepared a ≡ going p → Roomy (modes.IncompleteCholesky shift) s.rows before → ((count : ℕ) → a ≡ going count → Indexed (starts_in s.rows after.pattern) (columns_in s.rows after.pattern) after.order s.rows count) → Ready p s.rows after
      unfolding pattern_room order_room values_room
      factor_ready shift (going c) e room h = record {
        long = ed ∙ room.diagonal_long;
        factor = λ count q. record { indexed = let z : c ≡ count = cc in rw (← z) (h c refl); pattern_long = omega (arith, ep, ev, room.pattern_long, room.values_long); order_long = omega (arith, eo, ev, room.order_long, room.values_long) };
        blocks = λ q. absurd (let z : ◌≡◌ {A = ℕ} 0 1 = cc in omega arith);
      }
      factor_ready shift (ended n) e room h = unlike n e

      blocks_ready : (a : Result Unit Refusal) → blocks_prepared (told a) ≡ going p → Roomy modes.BlockJacobi s.rows before → blocks_run s owner before.values ≡ blocked_out a after.values → owner_in after.pattern ≡ owner → Ready p s.rows after
      unfolding pattern_room values_room
      blocks_ready (Ok _) e room h o = record {
        long = ed ∙ room.diagonal_long;
        factor = λ count q. absurd (let z : ◌≡◌ {A = ℕ} 0 1 = cc in omega arith);
        blocks = λ q. record { fits = rw o (runs_fit s owner before.values (block_room room) after.values h); pattern_long = ep ∙ room.pattern_long; values_long = ev ∙ room.values_long };
      }
      blocks_ready (Err n) e room h o = unlike (number_of n) e

      pub built_ready : (mode : Mode) (r : Run Preconditioner ℕ) → r ≡ going p → Roomy mode s.rows before → FactorBuilt s owner before after mode r → Ready p s.rows after
      built_ready modes.Diagonal r e room (built_diagonal q) = diagonal_ready modes.Diagonal room (let z : built.Diagonal ≡ p = cc in sym z)
      built_ready (modes.IncompleteCholesky _) r e room (built_factor shift a h _) = factor_ready shift a e room h.indexed
      built_ready modes.BlockJacobi r e room (built_blocks a h q) = blocks_ready a e room h (gathered q)

-- ---- the blocks' solves read a block only where a run begins
module _ (block block' : ℕ → List Float) (owner : ℕ → ℕ) (residual y : List Float) (agree : (i : ℕ) → i < length residual → begins owner i ≡ true → block i ≡ block' i) where
  same_block : (i len : ℕ) (t : List Float) → i < length residual → (c : Bool) → begins owner i ≡ c
      → check c (on {R = Run (List Float) (List Float)} (block_solve_run (block i) (stretch residual i len) (stretch t i len)) (λ z. going (put_stretch t i len z)) (λ z. ended (put_stretch t i len z))) (going t)
      ≡ check c (on (block_solve_run (block' i) (stretch residual i len) (stretch t i len)) (λ z. going (put_stretch t i len z)) (λ z. ended (put_stretch t i len z))) (going t)
  unfolding check
  same_block i len t h true e = rw (agree i h e)
  same_block i len t h false e = refl

  same_turn : (i : ℕ) (t : List Float) → i < length residual → solve_turn block owner residual i t ≡ solve_turn block' owner residual i t
  unfolding solve_turn
  same_turn i t h = same_block i (run_length owner i (length residual)) t h (begins owner i) refl

  same_next : (k : ℕ) → k < length residual → (r : Run (List Float) (List Float)) → on r (solve_turn block owner residual k) ended ≡ on r (solve_turn block' owner residual k) ended
  unfolding on
  same_next k h (going t) = same_turn k t h
  same_next k h (ended a) = refl

  same_turns : (k : ℕ) → k ≤ length residual → turns (solve_turn block owner residual) y k ≡ turns (solve_turn block' owner residual) y k
  unfolding turns
  same_turns zero h = refl
  same_turns (suc k) h = ap (λ (r : Run (List Float) (List Float)). on r (solve_turn block owner residual k) ended) (same_turns k (omega arith)) ∙ same_next k (omega arith) (turns (solve_turn block' owner residual) y k)

  pub same_solves : blocks_solve_run block owner residual y ≡ blocks_solve_run block' owner residual y
  unfolding blocks_solve_run
  same_solves = same_turns (length residual) (omega arith)

-- ---- z by what the memory holds is the definition's
module _ (s : System) (owner : ℕ → ℕ) (diagonal : List Float) (m : Memory) (residual : List Float) (long : length residual ≡ s.rows) where
  pub holds_same : (mode : Mode) (p : Preconditioner) → Holds s owner diagonal m mode p → z_in p s.rows m residual ≡ preconditioned mode s owner diagonal residual
  unfolding preconditioned preconditioned_run
  holds_same modes.Diagonal p (holds_diagonal e) = on_going _ _ _ refl ∙ rw e
  holds_same (modes.IncompleteCholesky _) p (holds_factor shift count h) = sym (on_going _ _ _ h)
  holds_same modes.BlockJacobi p (holds_blocks o h) =
      ap (λ (f : ℕ → ℕ). or_sixteen (blocks_solve_run (block_in m.values) f residual (zeros (length residual)))) o
      ∙ sym (ap or_sixteen (same_solves (λ i. block_numbers (block_at s owner i)) (block_in m.values) owner residual (zeros (length residual)) (λ i l b. on_going _ _ _ (h i (rw (← long) l) b))))
