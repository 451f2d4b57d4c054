-- A closing check whose bodies stand under new numbers: the same value, radius, reach and exact gap of each row, so the same refusal, verdict and measured gap. Assumes nothing.
use Prim.Native.Nat.{ℕ, zero, suc, ◌<◌, ◌≤◌}
use mathlib.Core.Path.{◌≡◌, refl, ap}
use mathlib.Core.Bool.{Bool}
use native.Mathlib.Omega.{arith}
use lib.IntN.{ℤ, nat_abs, ◌+ℤ◌}
use lib.Ieee.{Float}
use Rattle.loops.proofs.Every.{every_same}
use Rattle.binary64.specs.Order.{absolute}
use Rattle.kapitsa_joint.specs.Row.{jacobian_of}
use Rattle.kapitsa_joint.proofs.Largest.{maxima_same}
use Rattle.mass_operator.specs.System.{System, system_of}
use Rattle.check_range.specs.Closing.{Closing}
use Rattle.check_range.specs.Range.{jacobian_in_range, mass_in_range, row_in_range, table_in_range}
use Rattle.check_measure.specs.Verdict.{size_of_row, sizes_of, value_of, size_of, radius, reach, closes, largest_reaches}
use Rattle.check_measure.specs.Gap.{add_row_z, impulse_z, row_value_z, value_z, scaled, gap}
use Rattle.check_answer.specs.Answer.{verdict_of, check_of}
use Rattle.renumbered.specs.Renumber.{Renumbering, InRange, bodies_by, renumbered_row, renumber}
use Rattle.renumbered.proofs.Permuted.{every_old}
use Rattle.renumbered.proofs.Operator.{renumbered_jacobian, renumbered_system, Inside, inside_table, mass_back, same_a, same_b, value_same}
use Rattle.renumbered.proofs.Tables.{fours, sixes, sevens}

-- the sizes of bodies in range are in range
inside_sizes : (s : System) → Inside s → Inside (sizes_of s)
unfolding size_of_row
inside_sizes s w = record { a_below = w.a_below; b_below = w.b_below }

-- ---- the operator without rounding
module _ (p q : ℕ → ℕ) (s : System) (r : Renumbering s.bodies p q) (w : Inside s) where
  exact_impulse : (x : ℕ → Float) (b n : ℕ) → b < s.bodies → n ≤ s.rows → impulse_z (renumbered_system p q s).jacobian x (p b) n ≡ impulse_z s.jacobian x b n
  unfolding impulse_z add_row_z renumbered_jacobian
  exact_impulse x b zero k l = refl
  exact_impulse x b (suc n) k l = rw (exact_impulse x b n k (omega arith), same_a p q s r w n b (omega arith) k, same_b p q s r w n b (omega arith) k)

  exact_value : (x : ℕ → Float) (i : ℕ) → i < s.rows → value_z (renumbered_system p q s) x i ≡ value_z s x i
  unfolding value_z row_value_z renumbered_jacobian
  exact_value x i k =
      rw (mass_back p q s r w (s.jacobian i).body_a (w.a_below i k), mass_back p q s r w (s.jacobian i).body_b (w.b_below i k), exact_impulse x (s.jacobian i).body_a s.rows (w.a_below i k) (omega arith), exact_impulse x (s.jacobian i).body_b s.rows (w.b_below i k) (omega arith))

-- what a check is given, with its bodies under new numbers
abbrev pub renumbered_closing : (ℕ → ℕ) → (ℕ → ℕ) → Closing → Closing
renumbered_closing p q c = record { table = renumber p q c.table; error = c.error; listed = c.listed; tolerance = c.tolerance; rule = c.rule; tolerance_tests = c.tolerance_tests; lent = c.lent; placed = c.placed }

module _ (p q : ℕ → ℕ) (c : Closing) (r : Renumbering c.table.bodies p q) (inside : InRange c.table) where
  inner : Inside (system_of c.table)
  inner = inside_table c.table inside

  eighteens : table_in_range (renumber p q c.table) c.error c.listed ≡ table_in_range c.table c.error c.listed
  unfolding table_in_range row_in_range jacobian_in_range jacobian_of renumbered_row
  eighteens = rw (every_old c.table.bodies p q r (λ b. mass_in_range (c.table.mass b)))

  -- ---- row by row
  module _ (i : ℕ) (h : i < c.table.rows) where
    value_of_same : value_of (renumbered_closing p q c) i ≡ value_of c i
    unfolding value_of jacobian_of renumbered_row bodies_by renumbered_jacobian
    value_of_same = value_same p q (system_of c.table) r inner c.listed i h

    size_of_same : size_of (renumbered_closing p q c) i ≡ size_of c i
    unfolding size_of size_of_row jacobian_of renumbered_row bodies_by renumbered_jacobian
    size_of_same = value_same p q (sizes_of (system_of c.table)) r (inside_sizes (system_of c.table) inner) (λ k. absolute (c.listed k)) i h

    pub radius_same : radius (renumbered_closing p q c) i ≡ radius c i
    unfolding radius
    radius_same = rw size_of_same

    pub reach_same : reach (renumbered_closing p q c) i ≡ reach c i
    unfolding reach
    reach_same = rw (value_of_same, size_of_same)

    -- "A row's exact gap"
    exact_same : value_z (system_of (renumber p q c.table)) c.listed i ≡ value_z (system_of c.table) c.listed i
    unfolding jacobian_of renumbered_row bodies_by renumbered_jacobian
    exact_same = exact_value p q (system_of c.table) r inner c.listed i h

    pub gap_same : gap (renumbered_closing p q c) i ≡ gap c i
    unfolding gap
    gap_same = ap (λ (v : ℤ). nat_abs (scaled (c.error i) +ℤ v)) exact_same

  closes_same : closes (renumbered_closing p q c) ≡ closes c
  unfolding closes
  closes_same = every_same _ _ c.table.rows (λ i h. rw (reach_same i h))

  largest_same : largest_reaches (renumbered_closing p q c) ≡ largest_reaches c
  unfolding largest_reaches renumbered_row bodies_by
  largest_same = maxima_same _ _ _ _ c.table.rows (λ i h. refl) reach_same

  pub check_same : (fits : Bool) → check_of fits (renumbered_closing p q c) ≡ check_of fits c
  unfolding check_of verdict_of
  check_same fits = rw (fours p q c.table, sixes p q c.table r, sevens p q c.table r inside, eighteens, closes_same, largest_same)
