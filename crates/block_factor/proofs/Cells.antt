-- The ways through the functions that make a block's factor. Assumes nothing.
use Prim.Native.Nat.{ℕ, ◌+◌, ◌*◌, ◌<◌, ◌≤◌}
use mathlib.Core.Path.{◌≡◌, refl, ap, ◌∙◌}
use mathlib.Core.Bool.{Bool, true, false, not}
use mathlib.Core.List.{List}
use native.Mathlib.Numerals.{add-one}
use native.Mathlib.Omega.{arith}
use lib.ListN.{get_or, set, length}
use lib.Ieee.{Float, nan, binary64, sub, mul}
use Rattle.loops.specs.Run.{Run, going, ended}
use Rattle.loops.proofs.Loop.{check_pass, check_fail, on_going, on_ended}
use Rattle.kapitsa_joint.specs.declared.row.RowJacobian.{RowJacobian}
use Rattle.compact_table.specs.Compact.{compact_of}
use Rattle.mass_operator.specs.System.{System}
use Rattle.compact_table.specs.Compact.{Linked}
use Rattle.sparse.specs.Count.{count}
use Rattle.block_factor.specs.Blocks.{block_value, one_pair, block_less, less_of, cell_of}
use Rattle.block_factor.specs.Answers.{cell_run, block_column_turn}
use Rattle.refusals.specs.Number.{number_of}
use Rattle.refusals.specs.Told.{told}
use Rattle.refusals.specs.declared.Refusal.{Refusal}
use Rattle.std.specs.Prelude.{Result, Ok, Err}

-- ---- a counted loop that nothing refuses
pub record Counts {S : Type 0} (f : ℕ → S → S) (s : S) (n i : ℕ) (t : S) : Type 0 where
  pub within : i ≤ n
  pub led : t ≡ count f s i

module _ {S : Type 0} {f : ℕ → S → S} {s : S} {n : ℕ} where
  pub counts_none : Counts f s n 0 s
  unfolding count
  counts_none = record { within = omega arith; led = refl }

  pub counts_more : {i : ℕ} {t u : S} → Counts f s n i t → i < n → u ≡ f i t → Counts f s n (i + 1) u
  unfolding count
  counts_more {i} h l e = record { within = omega arith; led = rw add-one (e ∙ ap (f i) h.led) }

  pub counts_end : {i : ℕ} {t : S} → Counts f s n i t → n ≤ i → t ≡ count f s n
  counts_end {i} {t} h l = let e : i ≡ n = omega arith in rw e at h.led

pub less_turn_lem : (l : List Float) (row column k : ℕ) (v : Float) → sub binary64 v (mul binary64 (get_or l (row * 6 + k) nan) (get_or l (column * 6 + k) nan)) ≡ block_less l row column k v
unfolding block_less
less_turn_lem l row column k v = refl

-- ---- `cell_at`
module _ (s : System) (start row column : ℕ) (l : List Float) (p q : RowJacobian) (t : Bool) (ep : p ≡ s.jacobian (start + row)) (eq : q ≡ s.jacobian (start + column)) (et : t ≡ one_pair p q) where
  pub at_eleven : not t ≡ true → cell_run s start row column l ≡ ended 11
  unfolding cell_run
  at_eleven h = rw (← ep, ← eq) (check_fail _ _ _ et h refl)

  pub at_cell : (u v : Float) {o : Run Float ℕ} → not t ≡ false → u ≡ block_value s.mass p q → v ≡ less_of l row column u → cell_of l row column v ≡ o → cell_run s start row column l ≡ o
  unfolding cell_run
  at_cell u v h eu ev e = rw (← ep, ← eq, ← eu, ← ev) (check_pass _ _ _ et h e)

-- ---- a turn of `factor_row`
module _ (s : System) (start row column : ℕ) (l : List Float) (r : Result Float Refusal) (called : cell_run s start row column l ≡ told r) where
  pub column_on : (x : Float) → r ≡ Ok x → block_column_turn s start row column l ≡ going (set l (row * 6 + column) x)
  unfolding block_column_turn
  column_on x t = on_going _ _ _ (called ∙ rw t)

  pub column_out_lem : (k : Refusal) → r ≡ Err k → block_column_turn s start row column l ≡ ended (number_of k)
  unfolding block_column_turn
  column_out_lem k t = on_ended _ _ _ (called ∙ rw t)

-- the masses of a row's bodies are there
module _ (jacobians : List Float) (links : List ℕ) (masses : List Float) (rows bodies i : ℕ) (p : RowJacobian) (e : p ≡ compact_of jacobians links i)
    (h : Linked links rows bodies) (l : 10 * bodies ≤ length masses) (li : i < rows) where
  pub mass_a : 10 * p.body_a + 10 ≤ length masses
  unfolding compact_of
  mass_a = let b = h.a i li in rw e (omega arith)

  pub mass_b : 10 * p.body_b + 10 ≤ length masses
  unfolding compact_of
  mass_b = let b = h.b i li in rw e (omega arith)
