-- The ways through the functions that go by the mode. Assumes nothing.
use Prim.Native.Nat.{ℕ, zero, suc, ◌+◌, ◌*◌, ◌<◌, ◌≤◌}
use mathlib.Core.Path.{◌≡◌, refl, sym, ap, ◌∙◌, fun_ext}
use mathlib.Core.List.{List}
use native.Mathlib.Decide.{dec_lt}
use native.Mathlib.Omega.{arith}
use lib.ListN.{length, get_or, get_or-eq_default}
use Rattle.std.specs.Prelude.{Result, Ok, Err}
use Rattle.loops.specs.Tabulate.{tabulate}
use Rattle.loops.proofs.Tabulate.{get_d_tabulate, length_tabulate}
use lib.Ieee.{Float}
use Rattle.mass_operator.specs.System.{System, compact_system}
use Rattle.pairs.specs.Pairs.{pattern_of, pair_count, pair_room}
use Rattle.pairs.specs.Pattern.{starts_in, columns_in}
use Rattle.incomplete_cholesky.specs.Build.{FactorHeld, FactorPast}
use Rattle.loops.specs.Run.{Run, going}
use Rattle.refusals.specs.declared.Refusal.{Refusal}
use Rattle.refusals.specs.Told.{told}
use Rattle.block_jacobi.specs.Runs.{owner_in}
use Rattle.block_jacobi.specs.Blocks.{blocks_run, blocked_out}
use Rattle.preconditioner.specs.Mode.{mode_of}
use Rattle.preconditioner.specs.Room.{Memory, Roomy, pattern_room, order_room, values_room}
use Rattle.preconditioner.specs.Held.{FactorBuilt, built_diagonal, built_factor, built_blocks, factor_prepared, blocks_prepared, joints_in}
use Rattle.preconditioner.specs.Shift.{shifted}
use Rattle.preconditioner.specs.declared.mode.Mode.{Mode}
use Rattle.preconditioner.specs.declared.mode.Mode.TheVariants as modes
use Rattle.preconditioner.specs.declared.apply.Preconditioner.{Preconditioner}
use Rattle.preconditioner.specs.declared.apply.Preconditioner.TheVariants as built

-- ---- `mode_of`
pub mode_zero : (word : ℕ) (shift : Float) → word ≡ 0 → modes.Diagonal ≡ mode_of word shift
unfolding mode_of
mode_zero word shift e = rw e

pub mode_one : (word : ℕ) (shift : Float) → word ≡ 1 → modes.IncompleteCholesky shift ≡ mode_of word shift
unfolding mode_of
mode_one word shift e = rw e

pub mode_more : (word : ℕ) (shift : Float) → (word ≡ 0 → ⊥) → (word ≡ 1 → ⊥) → modes.BlockJacobi ≡ mode_of word shift
unfolding mode_of
mode_more zero shift h g = absurd (h refl)
mode_more (suc zero) shift h g = absurd (g refl)
mode_more (suc (suc n)) shift h g = refl

-- ---- what the mode's own answer is prepared as
pub factor_done : (a : Result ℕ Refusal) (count : ℕ) → a ≡ Ok count → going (built.IncompleteCholesky count) ≡ factor_prepared (told a)
factor_done a count e = rw e

pub factor_refused : (a : Result ℕ Refusal) (x : Refusal) (r : Result Preconditioner Refusal) → a ≡ Err x → r ≡ Err x → told r ≡ factor_prepared (told a)
factor_refused a x r e f = rw (e, f)

pub blocks_done : (a : Result Unit Refusal) {x : Unit} → a ≡ Ok x → going built.BlockJacobi ≡ blocks_prepared (told a)
blocks_done a e = rw e

pub blocks_refused : (a : Result Unit Refusal) (x : Refusal) (r : Result Preconditioner Refusal) → a ≡ Err x → r ≡ Err x → told r ≡ blocks_prepared (told a)
blocks_refused a x r e f = rw (e, f)

-- ---- `pattern_room`, `order_room`, `values_room`
module _ (mode : Mode) (n : ℕ) where
  pub diagonal_rooms : mode ≡ modes.Diagonal → (0 ≡ pattern_room mode n) × (0 ≡ order_room mode n) × (0 ≡ values_room mode n)
  unfolding pattern_room order_room values_room
  diagonal_rooms e = rw e (refl, refl, refl)

  pub factor_rooms : {shift : Float} → mode ≡ modes.IncompleteCholesky shift → (n + 1 + pair_room n ≡ pattern_room mode n) × (n + 2 * pair_room n ≡ order_room mode n) × (pair_room n ≡ values_room mode n)
  unfolding pattern_room order_room values_room
  factor_rooms e = rw e (refl, refl, refl)

  pub block_rooms : mode ≡ modes.BlockJacobi → (n ≡ pattern_room mode n) × (0 ≡ order_room mode n) × (36 * n ≡ values_room mode n)
  unfolding pattern_room order_room values_room
  block_rooms e = rw e (refl, refl, refl)

-- the lengths do not depend on the shift
pub rooms_shift : (word : ℕ) (a b : Float) (n : ℕ) → (pattern_room (mode_of word a) n ≡ pattern_room (mode_of word b) n) × (order_room (mode_of word a) n ≡ order_room (mode_of word b) n) × (values_room (mode_of word a) n ≡ values_room (mode_of word b) n)
unfolding mode_of pattern_room order_room values_room
rooms_shift zero a b n = (refl, refl, refl)
rooms_shift (suc zero) a b n = (refl, refl, refl)
rooms_shift (suc (suc word)) a b n = (refl, refl, refl)

-- ---- what a mode's build is lent
module _ (mode : Mode) (n : ℕ) (m : Memory) (room : Roomy mode n m) where
  pub factor_lent : {shift : Float} → mode ≡ modes.IncompleteCholesky shift → (length m.diagonal ≡ n) × (length m.pattern ≡ n + 1 + pair_room n) × (length m.order ≡ n + 2 * pair_room n) × (length m.values ≡ pair_room n)
  factor_lent e = let r = factor_rooms mode n e in (room.diagonal_long, room.pattern_long ∙ sym r.0, room.order_long ∙ sym r.1, room.values_long ∙ sym r.2)

  pub blocks_lent : mode ≡ modes.BlockJacobi → (length m.pattern ≡ n) × (length m.values ≡ 36 * n)
  blocks_lent e = let r = block_rooms mode n e in (room.pattern_long ∙ sym r.0, room.values_long ∙ sym r.2)

-- ---- `build_preconditioner`
module _ (s : System) (owner : ℕ → ℕ) (mode : Mode) (before : Memory) where
  pub mode_diagonal : mode ≡ modes.Diagonal → FactorBuilt s owner before before mode (going built.Diagonal)
  mode_diagonal e = rw e (built_diagonal refl)

  pub mode_factor : (after : Memory) (a : Run ℕ ℕ) (r : Run Preconditioner ℕ) (shift : Float) {diagonal : List Float} → mode ≡ modes.IncompleteCholesky shift → diagonal ≡ shifted shift before.diagonal
      → FactorHeld s diagonal a (starts_in s.rows after.pattern) (columns_in s.rows after.pattern) before.order after.order before.values after.values after.diagonal
      → FactorPast s.rows (pair_count (pattern_of s) s.rows) before.pattern after.pattern before.order after.order before.values after.values → r ≡ factor_prepared a → FactorBuilt s owner before after mode r
  mode_factor after a r shift e d h f t = rw (e, t) (built_factor shift a (rw (← d) h) f)

-- the joints of the rows are gathered, and the blocks built of as many rows as there are joints
pub joints_are : (words : List ℕ) (n : ℕ) → length words ≡ 8 * n → owner_in (tabulate (joints_in words) n) ≡ joints_in words
joints_are words n ew = fun_ext (λ i. at i (dec_lt i n))
  where
    beyond : (l : List ℕ) (k : ℕ) → length l ≤ k → get_or l k 0 ≡ 0
    beyond l k h = get_or-eq_default l 0 {n = k} h

    at : (i : ℕ) → Dec (i < n) → get_or (tabulate (joints_in words) n) i 0 ≡ joints_in words i
    at i (yes h) = get_d_tabulate (joints_in words) n i 0 h
    at i (no h) = beyond (tabulate (joints_in words) n) i (rw (length_tabulate (joints_in words) n) (omega arith)) ∙ sym (beyond words (8 * i + 6) (omega arith))

-- k joints are gathered, and the blocks are built of as many rows
pub mode_blocks : (words : List ℕ) (bodies : ℕ) (jacobians : List Float) (links : List ℕ) (masses : List Float) (k n m : ℕ) (mode : Mode) (before : Memory) (joints : List ℕ) (values : List Float) (a : Result Unit Refusal) (r : Run Preconditioner ℕ) → length words ≡ 8 * n → k ≡ n → m ≡ n
    → joints ≡ tabulate (joints_in words) k → mode ≡ modes.BlockJacobi → blocks_run (compact_system m bodies jacobians links masses) (owner_in joints) before.values ≡ blocked_out a values → r ≡ blocks_prepared (told a)
    → FactorBuilt (compact_system n bodies jacobians links masses) (joints_in words) before record { diagonal = before.diagonal; pattern = joints; order = before.order; values = values } mode r
mode_blocks words bodies jacobians links masses k n m mode before joints values a r ew ek em ej e h t =
    let listed : joints ≡ tabulate (joints_in words) n = ej ∙ ap (tabulate (joints_in words)) ek in
    let owner : owner_in joints ≡ joints_in words = ap owner_in listed ∙ joints_are words n ew in
    let made : blocks_run (compact_system n bodies jacobians links masses) (joints_in words) before.values ≡ blocked_out a values =
    ap (λ (f : ℕ → ℕ). blocks_run (compact_system n bodies jacobians links masses) f before.values) (sym owner) ∙ ap (λ (i : ℕ). blocks_run (compact_system i bodies jacobians links masses) (owner_in joints) before.values) (sym em) ∙ h in
    rw (e, t) (built_blocks a made (ap (λ (l : List ℕ). the (record { diagonal = before.diagonal; pattern = l; order = before.order; values = values })) listed))
  where
    the : Memory → Memory
    the m = m
