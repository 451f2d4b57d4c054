-- The compact table is that of the table, beyond its rows too: there every list has its default. Assumes nothing.
use Prim.Native.Nat.{ℕ, ◌+◌, ◌*◌, ◌<◌, ◌≤◌}
use mathlib.Core.Path.{◌≡◌, sym, ap, ◌∙◌, fun_ext}
use mathlib.Core.Bool.{true}
use mathlib.Core.List.{List, ◌∷◌}
use native.Mathlib.Decide.{dec_lt}
use native.Mathlib.Omega.{arith}
use lib.Dec.{eqb}
use lib.ListN.{get_or, length, get_or-eq_default}
use lib.Ieee.{Float, nan}
use Rattle.loops.specs.Run.{going}
use Rattle.loops.specs.Judge.{judged, AllPass}
use Rattle.loops.proofs.Judge.{judge_going}
use Rattle.loops.proofs.Same.{judged_each}
use Rattle.kapitsa_math.specs.Lent.{vec_of, spread_of}
use Rattle.kapitsa_math.specs.declared.vector.Vec3.{Vec3}
use Rattle.kapitsa_joint.specs.Row.{row_of, words_of, jacobian_of}
use Rattle.kapitsa_joint.specs.Mass.{mass_of}
use Rattle.kapitsa_joint.specs.Table.{Table, table_of}
use Rattle.kapitsa_joint.specs.declared.row.RowJacobian.{RowJacobian}
use Rattle.joint_refusals.specs.Refusals.{is_valid_of}
use Rattle.joint_refusals.proofs.Valid.{Bodies, valid_bodies}
use Rattle.compact_table.specs.Compact.{compact_of, Gathered, Linked}
use Rattle.mass_operator.specs.System.{System, system_of, compact_system}
use Rattle.position.specs.Problem.{Problem}
use Rattle.position.specs.Prepare.{row_judged, valid_test, diagonal_tests}

-- ---- beyond a list's end
beyond : {X : Type 0} (l : List X) (k : ℕ) (d : X) → length l ≤ k → get_or l k d ≡ d
beyond l k d h = get_or-eq_default l d {n = k} h

abbrev no_vector : Vec3
no_vector = record { x = nan; y = nan; z = nan }

no_vec : (l : List Float) (k : ℕ) → length l ≤ k → vec_of l k ≡ no_vector
unfolding vec_of
no_vec l k h = rw (beyond l k nan h, beyond l (k + 1) nan (omega arith), beyond l (k + 2) nan (omega arith))

no_spread : (l : List Float) (k : ℕ) → length l ≤ k → spread_of l k ≡ no_vector
unfolding spread_of
no_spread l k h = rw (beyond l k nan h, beyond l (k + 2) nan (omega arith), beyond l (k + 4) nan (omega arith))

module _ (numbers : List Float) (words : List ℕ) (n : ℕ) (en : length numbers ≡ 27 * n) (ew : length words ≡ 8 * n) where
  abbrev no_row : RowJacobian
  no_row = record { linear_a = no_vector; angular_a = no_vector; linear_b = no_vector; angular_b = no_vector; body_a = 0; body_b = 0 }

  row_beyond : (i : ℕ) → n ≤ i → jacobian_of (row_of numbers words i) ≡ no_row
  unfolding jacobian_of row_of words_of
  row_beyond i h = rw (no_vec numbers (27 * i) (omega arith), no_vec numbers (27 * i + 3) (omega arith), no_vec numbers (27 * i + 9) (omega arith), no_vec numbers (27 * i + 12) (omega arith), beyond words (8 * i + 2) 0 (omega arith), beyond words (8 * i + 3) 0 (omega arith))

  compact_beyond : (jacobians : List Float) (links : List ℕ) → length jacobians ≡ 12 * n → length links ≡ 2 * n → (i : ℕ) → n ≤ i → compact_of jacobians links i ≡ no_row
  unfolding compact_of
  compact_beyond jacobians links ej el i h = rw (no_spread jacobians (12 * i) (omega arith), no_spread jacobians (12 * i + 1) (omega arith), no_spread jacobians (12 * i + 6) (omega arith), no_spread jacobians (12 * i + 7) (omega arith), beyond links (2 * i) 0 (omega arith), beyond links (2 * i + 1) 0 (omega arith))

  rows_same : (jacobians₀ jacobians : List Float) (links₀ links : List ℕ) → length jacobians ≡ 12 * n → length links ≡ 2 * n → Gathered (λ i. jacobian_of (row_of numbers words i)) n jacobians₀ links₀ jacobians links
      → compact_of jacobians links ≡ (λ i. jacobian_of (row_of numbers words i))
  rows_same jacobians₀ jacobians links₀ links ej el g = fun_ext (λ i. at i (dec_lt i n))
    where
      at : (i : ℕ) → Dec (i < n) → compact_of jacobians links i ≡ jacobian_of (row_of numbers words i)
      at i (yes h) = g.at i h
      at i (no h) = compact_beyond jacobians links ej el i (omega arith) ∙ sym (row_beyond i (omega arith))

  pub system_same : (bodies : ℕ) (masses : List Float) (jacobians₀ jacobians : List Float) (links₀ links : List ℕ) → length jacobians ≡ 12 * n → length links ≡ 2 * n
      → Gathered (λ i. jacobian_of (row_of numbers words i)) n jacobians₀ links₀ jacobians links → compact_system n bodies jacobians links masses ≡ system_of (table_of n bodies numbers words masses)
  system_same bodies masses jacobians₀ jacobians links₀ links ej el g =
      ap (λ (j : ℕ → RowJacobian). the (record { rows = n; bodies = bodies; jacobian = j; mass = mass_of masses })) (rows_same jacobians₀ jacobians links₀ links ej el g)
    where
      the : System → System
      the s = s

-- ---- refusal 7 has passed: the bodies are below the count
module _ (p : Problem) (passed : judged (row_judged p) p.table.rows ≡ going tt) where
  abbrev t : Table
  t = p.table

  valid : (i : ℕ) → i < t.rows → is_valid_of t.bodies (t.row i) ≡ true
  unfolding row_judged AllPass
  valid i h = ((judge_going (valid_test p i ∷ diagonal_tests p i)).0 (judged_each (row_judged p) t.rows passed i h)).0

  linked : (i : ℕ) → i < t.rows → Bodies t.bodies (t.row i).words
  linked i h = valid_bodies t.bodies (t.row i) (valid i h)

  -- the compact table's rows are those of the table
  pub table_linked : (jacobians : List Float) (links : List ℕ) (masses : List Float) → compact_system t.rows t.bodies jacobians links masses ≡ system_of t → Linked links t.rows t.bodies
  unfolding compact_of jacobian_of
  table_linked jacobians links masses e = record {
    a = λ i h. rw (ap (λ (s : System). (s.jacobian i).body_a) e) (linked i h).a;
    b = λ i h. rw (ap (λ (s : System). (s.jacobian i).body_b) e) (linked i h).b;
    apart = λ i h. ap (λ (s : System). eqb (s.jacobian i).body_a (s.jacobian i).body_b) e ∙ (linked i h).apart;
  }
