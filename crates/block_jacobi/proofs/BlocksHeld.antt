-- What the lent memory holds where no block was refused: every block, and runs of at most six rows. Assumes nothing.
use Prim.Native.Nat.{ℕ, suc, ◌+◌, ◌*◌, ◌<◌, ◌≤◌}
use mathlib.Core.Path.{◌≡◌, refl, sym, ap, ◌∙◌}
use mathlib.Core.Bool.{Bool, true, false}
use mathlib.Core.List.{List, ◌++◌}
use mathlib.Core.Logic.{◌⊎◌, inl, inr}
use native.Mathlib.Nat.{eq-or-lt_of_le}
use native.Mathlib.Omega.{arith}
use lib.Dec.{leb}
use lib.ListN.{length, take, drop, set, length-append, length-drop, length-set, take-append-drop}
use lib.Seq.{length-take-le, take_at, drop_at, take-append-le, drop-append-le}
use lib.Ieee.{Float}
use borrow.Author.Tests.{leb-true}
use Rattle.loops.specs.Run.{Run, going, ended, on, check}
use Rattle.mass_operator.specs.System.{System}
use Rattle.block_factor.specs.Answers.{cell_run, block_column_turn, block_row_turn, rows_run, no_numbers, block_of}
use Rattle.block_jacobi.specs.Runs.{begins, run_length, RunsFit}
use Rattle.block_jacobi.specs.Blocks.{stretch, put_stretch, block_in, put_block, block_turn, blocks_run}
use Rattle.loops.proofs.Turned.{unlike, turned}

-- ---- a stretch of a list, after another was written
module _ (l z : List Float) (a n : ℕ) where
  pub put_here : a ≤ length l → length z ≡ n → stretch (put_stretch l a n z) a n ≡ z
  unfolding stretch put_stretch
  put_here h e = ap (take n) (drop_at (take a l) (z ++ drop n (drop a l)) a (length-take-le a l h)) ∙ take_at z (drop n (drop a l)) n e

  front : (r : List Float) (b m : ℕ) → a ≤ length l → b + m ≤ a → take m (drop b (take a l ++ r)) ≡ take m (drop b (take a l))
  front r b m h k = ap (take m) (drop-append-le b (take a l) r (rw (length-take-le a l h) (omega arith)))
      ∙ take-append-le m (drop b (take a l)) r (rw (length-drop b (take a l), length-take-le a l h) (omega arith))

  pub put_before : (b m : ℕ) → a ≤ length l → b + m ≤ a → stretch (put_stretch l a n z) b m ≡ stretch l b m
  unfolding stretch put_stretch
  put_before b m h k = front (z ++ drop n (drop a l)) b m h k ∙ sym (ap (λ (x : List Float). take m (drop b x)) (sym (take-append-drop a l)) ∙ front (drop a l) b m h k)

  pub put_length : a + n ≤ length l → length z ≡ n → length (put_stretch l a n z) ≡ length l
  unfolding put_stretch
  put_length h e = rw (length-append (take a l) (z ++ drop n (drop a l)), length-append z (drop n (drop a l)), length-take-le a l (omega arith), e, length-drop n (drop a l), length-drop a l) (omega arith)

-- ---- a block has 36 numbers, and its run at most six rows
column_long : (s : System) (start row column : ℕ) (t u : List Float) → block_column_turn s start row column t ≡ going u → length u ≡ length t
unfolding block_column_turn on
column_long s start row column t u e = by (cell_run s start row column t) e
  where
    by : (r : Run Float ℕ) → on r (λ x. going (set t (row * 6 + column) x)) ended ≡ going u → length u ≡ length t
    by (going x) q = let z : set t (row * 6 + column) x ≡ u = cc in rw (← z) (length-set t (row * 6 + column) x)
    by (ended k) q = unlike k u q

row_long : (s : System) (start row : ℕ) (t u : List Float) → block_row_turn s start row t ≡ going u → length u ≡ length t
unfolding block_row_turn
row_long s start row t u e = turned (block_column_turn s start row) t (row + 1) (λ _ v. length v ≡ length t) refl (λ i v w _ h q. column_long s start row i v w q ∙ h) (row + 1) (omega arith) u e

pub rows_long : (s : System) (start len : ℕ) (u : List Float) → rows_run s start len no_numbers ≡ going u → length u ≡ 36
unfolding rows_run
rows_long s start len u e = turned (block_row_turn s start) no_numbers len (λ _ v. length v ≡ 36) refl (λ i v w _ h q. row_long s start i v w q ∙ h) len (omega arith) u e

module _ (s : System) (start len : ℕ) (b : List Float) (made : block_of s start len ≡ going b) where
  by_test : (t : Bool) → leb len 6 ≡ t → check t (rows_run s start len no_numbers) (ended 11) ≡ going b → (len ≤ 6) × (length b ≡ 36)
  unfolding check
  by_test true e q = (leb-true len 6 e, rows_long s start len b q)
  by_test false e q = unlike 11 b q

  both : (len ≤ 6) × (length b ≡ 36)
  unfolding block_of
  both = by_test (leb len 6) refl made

  pub block_few : len ≤ 6
  block_few = both.0

  pub block_long : length b ≡ 36
  block_long = both.1

-- ---- the loop over the runs
module _ (s : System) (owner : ℕ → ℕ) (l : List Float) (room : 36 * s.rows ≤ length l) where
  -- before row k every block is kept
  pub record KeptTo (k : ℕ) (t : List Float) : Type 0 where
    pub long : length t ≡ length l
    pub blocks : (i : ℕ) → i < k → begins owner i ≡ true → block_of s i (run_length owner i s.rows) ≡ going (block_in t i)

  kept_none : KeptTo 0 l
  kept_none = record { long = refl; blocks = λ i h. absurd (omega arith) }

  module _ (k : ℕ) (t : List Float) (lt : k < s.rows) (h : KeptTo k t) where
    -- row k begins no run
    pass : begins owner k ≡ false → KeptTo (suc k) t
    pass e = record { long = h.long; blocks = λ i g q. earlier i (eq-or-lt_of_le (below i g)) q }
      where
        below : (i : ℕ) → i < suc k → i ≤ k
        below i g = omega arith

        earlier : (i : ℕ) → (i ≡ k) ⊎ (i < k) → begins owner i ≡ true → block_of s i (run_length owner i s.rows) ≡ going (block_in t i)
        earlier i (inl z) q = absurd (let w : true ≡ false = sym q ∙ ap (begins owner) z ∙ e in let v : ◌≡◌ {A = ℕ} 0 1 = cc in omega arith)
        earlier i (inr g) q = h.blocks i g q

    -- row k begins a run, whose block is b
    module _ (b : List Float) (made : block_of s k (run_length owner k s.rows) ≡ going b) where
      here : block_in (put_block t k b) k ≡ b
      unfolding block_in put_block
      here = put_here t b (36 * k) 36 (omega (arith, h.long)) (block_long s k (run_length owner k s.rows) b made)

      before : (i : ℕ) → i < k → block_in (put_block t k b) i ≡ block_in t i
      unfolding block_in put_block
      before i g = put_before t b (36 * k) 36 (36 * i) 36 (omega (arith, h.long)) (omega arith)

      keep : KeptTo (suc k) (put_block t k b)
      unfolding put_block
      keep = record { long = put_length t b (36 * k) 36 (omega (arith, h.long)) (block_long s k (run_length owner k s.rows) b made) ∙ h.long; blocks = λ i g q. each i (eq-or-lt_of_le (below i g)) q }
        where
          below : (i : ℕ) → i < suc k → i ≤ k
          below i g = omega arith

          each : (i : ℕ) → (i ≡ k) ⊎ (i < k) → begins owner i ≡ true → block_of s i (run_length owner i s.rows) ≡ going (block_in (put_block t k b) i)
          each i (inl z) q = rw z (made ∙ ap going (sym here))
          each i (inr g) q = h.blocks i g q ∙ ap going (sym (before i g))

    by_block : (r : Run (List Float) ℕ) → block_of s k (run_length owner k s.rows) ≡ r → (u : List Float) → on {R = Run (List Float) (ℕ × List Float)} r (λ b. going (put_block t k b)) (λ n. ended (n, t)) ≡ going u → KeptTo (suc k) u
    unfolding on
    by_block (going b) e u q = let z : put_block t k b ≡ u = cc in rw (← z) (keep b e)
    by_block (ended n) e u q = unlike (n, t) u q

    by_run : (c : Bool) → begins owner k ≡ c → (u : List Float) → check c (on {R = Run (List Float) (ℕ × List Float)} (block_of s k (run_length owner k s.rows)) (λ b. going (put_block t k b)) (λ n. ended (n, t))) (going t) ≡ going u → KeptTo (suc k) u
    unfolding check
    by_run true e u q = by_block (block_of s k (run_length owner k s.rows)) refl u q
    by_run false e u q = let z : t ≡ u = cc in rw (← z) (pass e)

  pub kept_all : (u : List Float) → blocks_run s owner l ≡ going u → KeptTo s.rows u
  unfolding blocks_run block_turn
  kept_all u e = turned (block_turn s owner) l s.rows KeptTo kept_none (λ i t v lt h q. by_run i t lt h (begins owner i) refl v q) s.rows (omega arith) u e

  pub runs_fit : (u : List Float) → blocks_run s owner l ≡ going u → RunsFit owner s.rows
  runs_fit u e = record { six = λ i g q. block_few s i (run_length owner i s.rows) (block_in u i) ((kept_all u e).blocks i g q) }
