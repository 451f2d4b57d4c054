-- The ways through the solves on the stretch of one block. Assumes nothing.
use Prim.Native.Nat.{ℕ, ◌+◌, ◌*◌, ◌-◌, ◌≤◌}
use mathlib.Core.Path.{◌≡◌, refl, sym, ap, ◌∙◌}
use mathlib.Core.List.{List, ◌++◌, append-nil}
use native.Mathlib.Omega.{arith}
use lib.ListN.{get_or, set, length, take, drop, drop_of_length-le}
use lib.Seq.{take_all, length-take-le}
use lib.Ieee.{Float, nan, binary64, sub, mul, div}
use Rattle.std.specs.Prelude.{Result, Ok, Err}
use Rattle.loops.specs.Run.{Run, going, ended}
use Rattle.sparse.specs.Count.{count}
use Rattle.triangular.specs.Answers.{solve_out}
use Rattle.triangular.specs.declared.substitution.Overflow.{Overflow}
use Rattle.block_factor.specs.Solves.{block_forward_less, block_forward_turn, block_backward_less, block_backward_of, block_backward_turn, block_backward_run, block_solve_run}

pub forward_less : (l y : List Float) (row k : ℕ) (v : Float) → sub binary64 v (mul binary64 (get_or l (row * 6 + k) nan) (get_or y k nan)) ≡ block_forward_less l y row k v
unfolding block_forward_less
forward_less l y row k v = refl

pub forward_turn_lem : (l residual y : List Float) (row : ℕ) (v : Float) → v ≡ count (block_forward_less l y row) (get_or residual row nan) row
    → set y row (div binary64 v (get_or l (row * 6 + row) nan)) ≡ block_forward_turn l residual row y
unfolding block_forward_turn
forward_turn_lem l residual y row v e = rw e

pub backward_less : (l y : List Float) (row k : ℕ) (v : Float) → sub binary64 v (mul binary64 (get_or l ((row + 1 + k) * 6 + row) nan) (get_or y (row + 1 + k) nan)) ≡ block_backward_less l y row k v
unfolding block_backward_less
backward_less l y row k v = refl

-- a turn of `backward`
module _ (l y y' : List Float) (len m t : ℕ) (r : Result Unit Overflow) (called : block_backward_of l m (len - 1 - t) y ≡ solve_out r y') (e : m ≡ len) where
  pub backs_on : r ≡ Ok tt → block_backward_turn l len t y ≡ going y'
  unfolding block_backward_turn
  backs_on told = rw (← e) (rw (← e) at called ∙ rw told)

  pub backs_out : {e : Overflow} → r ≡ Err e → block_backward_turn l len t y ≡ ended y'
  unfolding block_backward_turn
  backs_out told = rw (← e) (rw (← e) at called ∙ rw told)

-- `solve_rows`: y₁ is what the forward solve made of y
pub block_solved : (l residual y y₁ : List Float) {o : Run (List Float) (List Float)} → y₁ ≡ count (block_forward_turn l residual) y (length residual) → block_backward_run l (length y₁) y₁ ≡ o → length y₁ ≡ length y → length residual ≡ length y → block_solve_run l residual y ≡ o
unfolding block_solve_run
block_solved l residual y y₁ e h k m = let em : length y₁ ≡ length residual = k ∙ sym m in rw (← e, ← em) h

-- ---- `solve_block`: stretches of n numbers are lent as their first n
pub first_long : (y : List Float) (n : ℕ) → length y ≡ n → length (take n y) ≡ n
first_long y n e = length-take-le n y (omega arith)

pub first_like : (x y : List Float) (n : ℕ) → length x ≡ length y → length y ≡ n → length (take n x) ≡ n
first_like x y n h e = first_long x n (h ∙ e)

pub first_few : (y : List Float) (n : ℕ) → length y ≡ n → length y ≤ 6 → length (take n y) ≤ 6
first_few y n e h = rw (first_long y n e) (omega arith)

pub first_alike : (x y : List Float) (n : ℕ) → length x ≡ length y → length y ≡ n → length (take n x) ≡ length (take n y)
first_alike x y n h e = first_like x y n h e ∙ sym (first_long y n e)

pub rows_solved : (l residual y z : List Float) (n : ℕ) (r : Result Unit Overflow) → length y ≡ n → length residual ≡ length y → block_solve_run l (take n residual) (take n y) ≡ solve_out r z → block_solve_run l residual y ≡ solve_out r (z ++ drop n y)
rows_solved l residual y z n r e h called = rw (take_all n residual (omega arith), take_all n y (omega arith)) at called ∙ ap (solve_out r) (sym (rw (drop_of_length-le y {i = n} (omega arith)) (append-nil z)))
