-- A solve whose bodies stand under new numbers: each of its parts is the same, but for the impulses and centres delivered, which stand under the new numbers. Assumes nothing.
use Prim.Native.Nat.{ℕ, zero, suc, ◌*◌, ◌<◌, ◌≤◌}
use mathlib.Core.Path.{◌≡◌, refl, ap}
use mathlib.Core.Bool.{Bool, true, false, not}
use mathlib.Core.List.{List}
use native.Mathlib.Omega.{arith}
use lib.ListN.{length}
use lib.Ieee.{Float}
use Rattle.loops.specs.Judge.{test}
use Rattle.loops.specs.Run.{going, next, on, check}
use Rattle.loops.proofs.Same.{judged_same}
use Rattle.kapitsa_math.specs.Vector.{is_finite_of}
use Rattle.kapitsa_joint.specs.Row.{jacobian_of}
use Rattle.kapitsa_joint.specs.Centre.{Centres, flat_centres}
use Rattle.joint_refusals.specs.Refusals.{centres_finite}
use Rattle.mass_operator.specs.System.{system_of}
use Rattle.mass_operator.specs.Flat.{coefficients, impulses_of, product_of}
use Rattle.mass_operator.specs.Applied.{all_finite_of}
use Rattle.mass_operator.proofs.Flat.{flat_length}
use Rattle.preconditioner.specs.Apply.{preconditioned}
use Rattle.preconditioner.specs.declared.mode.Mode.{Mode}
use Rattle.recurrence.specs.Step.{Iterate, advance_of}
use Rattle.position.specs.Centres.{moved_at, moved_by}
use Rattle.position.specs.Problem.{Problem}
use Rattle.position.specs.Prepare.{row_judged, valid_judged, diagonals_judged, rows_judged, diagonals}
use Rattle.steps.specs.Alike.{Alike, delivering}
use Rattle.steps.specs.Solve.{solve}
use Rattle.steps.proofs.Alike.{solve_alike}
use Rattle.solve_method.specs.Method.{owner_of, opening_of, factor_here, begin_of, first_of, gains_of, maxima_in, impulse_by, finish_of, method_of}
use Rattle.renumbered.specs.Renumber.{Renumbering, InRange, bodies_by, renumbered_row, renumber, renumbered_centres}
use Rattle.renumbered.specs.Moved.{moved_impulses, moved}
use Rattle.renumbered.proofs.Permuted.{every_permuted}
use Rattle.renumbered.proofs.Along.{finite_along, impulses_along, zeros_along, centres_along}
use Rattle.renumbered.proofs.Operator.{renumbered_jacobian, Inside, inside_table, impulse_moved, product_same}
use Rattle.renumbered.proofs.Factors.{factor_same, z_same}
use Rattle.renumbered.proofs.Tables.{fours, sixes, valid_same, diagonal_same, diagonals_same, residuals_same}

-- what a solve is given, with its bodies under new numbers
abbrev pub renumbered_problem : (ℕ → ℕ) → (ℕ → ℕ) → Problem → Problem
renumbered_problem p q s = record {
  table = renumber p q s.table;
  tolerance = s.tolerance;
  rule = s.rule;
  start = s.start;
  accumulated = s.accumulated;
  options = s.options;
  tolerance_tests = s.tolerance_tests;
  opens = s.opens;
  placed = s.placed;
  lent = s.lent;
  valid_first = s.valid_first;
  factor_first = s.factor_first;
  centres = renumbered_centres q s.centres;
}

-- three tests, then a delivery
tested : {F : Type 0} (f : F → F) (a b c : Bool) (d : F)
    → next (test a 17) (λ _. next (test b 17) (λ _. next (test c 17) (λ _. going (f d)))) ≡ next (next (test a 17) (λ _. next (test b 17) (λ _. next (test c 17) (λ _. going d)))) (λ x. going (f x))
unfolding test check on
tested f true true true d = refl
tested f true true false d = refl
tested f true false c d = refl
tested f false b c d = refl

-- the centres of a problem are those of bodies of its table, or none
module _ (p q : ℕ → ℕ) (s : Problem) (r : Renumbering s.table.bodies p q) (inside : InRange s.table) (few : s.centres.bodies ≤ s.table.bodies) (placed : Renumbering s.centres.bodies p q) where
  opening_same : (fits : Bool) (limit : ℕ) → opening_of fits (renumbered_problem p q s) limit ≡ opening_of fits s limit
  unfolding opening_of
  opening_same fits limit = rw (fours p q s.table, sixes p q s.table r)

  -- ---- 7 to 9
  row_judged_same : (i : ℕ) → i < s.table.rows → row_judged (renumbered_problem p q s) i ≡ row_judged s i
  unfolding row_judged
  row_judged_same i h = rw (valid_same p q s.table r inside i h, diagonal_same p q s.table r inside i h)

  valid_judged_same : valid_judged (renumbered_problem p q s) ≡ valid_judged s
  unfolding valid_judged
  valid_judged_same = judged_same _ _ s.table.rows (λ i h. rw (valid_same p q s.table r inside i h))

  diagonals_judged_same : diagonals_judged (renumbered_problem p q s) ≡ diagonals_judged s
  unfolding diagonals_judged
  diagonals_judged_same = judged_same _ _ s.table.rows (λ i h. rw (diagonal_same p q s.table r inside i h))

  rows_judged_same : rows_judged (renumbered_problem p q s) ≡ rows_judged s
  unfolding rows_judged
  rows_judged_same = rw (valid_judged_same, diagonals_judged_same, judged_same (row_judged (renumbered_problem p q s)) (row_judged s) s.table.rows row_judged_same)

  -- ---- the factor, z, and the steps
  inner : Inside (system_of s.table)
  inner = inside_table s.table inside

  factor_here_same : (here : Bool) (mode : Mode) → factor_here here mode (system_of (renumber p q s.table)) (owner_of (renumber p q s.table)) (diagonals (renumber p q s.table)) ≡ factor_here here mode (system_of s.table) (owner_of s.table) (diagonals s.table)
  unfolding factor_here jacobian_of renumbered_row bodies_by renumbered_jacobian
  factor_here_same here mode = rw (diagonals_same p q s.table r inside, factor_same p q (system_of s.table) r inner (owner_of s.table) mode (diagonals s.table))

  z_moved : (mode : Mode) (residual : List Float) → preconditioned mode (system_of (renumber p q s.table)) (owner_of (renumber p q s.table)) (diagonals (renumber p q s.table)) residual ≡ preconditioned mode (system_of s.table) (owner_of s.table) (diagonals s.table) residual
  unfolding jacobian_of renumbered_row bodies_by renumbered_jacobian
  z_moved mode residual = rw (diagonals_same p q s.table r inside) (z_same p q (system_of s.table) r inner (owner_of s.table) mode (diagonals s.table) residual)

  product_moved : (x : ℕ → Float) → product_of (system_of (renumber p q s.table)) x ≡ product_of (system_of s.table) x
  unfolding jacobian_of renumbered_row bodies_by renumbered_jacobian
  product_moved x = product_same p q (system_of s.table) r inner x

  begin_same : (mode : Mode) → begin_of (renumbered_problem p q s) mode ≡ begin_of s mode
  unfolding begin_of
  begin_same mode = rw (rows_judged_same, factor_here_same s.factor_first mode, residuals_same p q s.table r inside s.start)

  -- ---- what is delivered
  module _ (v : Iterate) where
    impulse_by_lem : (b : ℕ) → b < s.table.bodies → impulse_by (renumber p q s.table) v (p b) ≡ impulse_by s.table v b
    unfolding jacobian_of renumbered_row bodies_by renumbered_jacobian
    impulse_by_lem b h = impulse_moved p q (system_of s.table) r inner (coefficients v.solution) b s.table.rows h (omega arith)

    abbrev impulses : List Float
    impulses = impulses_of (system_of s.table).jacobian (coefficients v.solution) s.table.rows s.table.bodies

    impulses_moved : impulses_of (system_of (renumber p q s.table)).jacobian (coefficients v.solution) s.table.rows s.table.bodies ≡ moved_impulses q impulses
    unfolding impulses_of
    impulses_moved = impulses_along s.table.bodies p q r (impulse_by s.table v) (impulse_by (renumber p q s.table) v) impulse_by_lem

    impulses_long : length impulses ≡ 6 * s.table.bodies
    unfolding impulses_of
    impulses_long = flat_length _ s.table.bodies

    abbrev old : Centres
    old = moved_by s.table.mass (impulse_by s.table v) s.centres

    abbrev new : Centres
    new = moved_by (renumber p q s.table).mass (impulse_by (renumber p q s.table) v) (renumbered_centres q s.centres)

    centre_moved : (b : ℕ) → b < s.centres.bodies → new.at (p b) ≡ old.at b
    unfolding moved_at
    centre_moved b h = rw (impulse_by_lem b (omega (arith, few)), ap s.table.mass (r.back b (omega (arith, few))), ap s.centres.at (placed.back b h))

    centres_finite_lem : centres_finite new ≡ centres_finite old
    unfolding centres_finite
    centres_finite_lem = every_permuted s.centres.bodies p q placed _ _ (λ b h. ap is_finite_of (centre_moved b h))

    maxima_same : maxima_in (renumber p q s.table) v ≡ maxima_in s.table v
    unfolding maxima_in renumbered_row bodies_by
    maxima_same = refl

    finish_moved : (k : ℕ) → finish_of (renumber p q s.table) s.accumulated (renumbered_centres q s.centres) k v ≡ next (finish_of s.table s.accumulated s.centres k v) (λ d. going (moved q d))
    unfolding finish_of moved on
    finish_moved zero = rw (maxima_same, ← zeros_along s.table.bodies p q r, ← centres_along p q s.centres (renumbered_centres q s.centres) placed refl (λ b h. ap s.centres.at (placed.back b h)))
    finish_moved (suc k) =
        let gains = gains_of s.accumulated s.table.rows v.solution in
        rw (impulses_moved, maxima_same, finite_along s.table.bodies p q r impulses impulses_long, centres_finite_lem, centres_along p q old new placed refl centre_moved)
        (tested (moved q) (all_finite_of impulses) (all_finite_of gains) (centres_finite old) (record { accumulated = gains; impulses = impulses; centres = flat_centres old; maxima = maxima_in s.table v }))

  alike : (fits : Bool) (mode : Mode) → Alike (method_of fits s mode) (method_of fits (renumbered_problem p q s) mode) (λ v. Unit) (moved q)
  unfolding first_of advance_of
  alike fits mode = record {
    begun = λ v e. tt;
    kept = λ v u c l e. tt;
    first = λ v l. rw (factor_here_same (not s.factor_first) mode, z_moved mode v.residual);
    advance = λ v c l. rw (product_moved (coefficients c.direction));
    meets = λ v l. refl;
    renew = λ v c l. rw (z_moved mode v.residual);
    finish = λ k v l. finish_moved v k;
  }

  pub solve_moved : (fits : Bool) (mode : Mode) (limit : ℕ) → solve (method_of fits (renumbered_problem p q s) mode) limit ≡ delivering (moved q) (solve (method_of fits s mode) limit)
  solve_moved fits mode limit =
      solve_alike (method_of fits s mode) (method_of fits (renumbered_problem p q s) mode) (λ v. Unit) (moved q) limit (opening_same fits limit) (begin_same mode) (λ v e. alike fits mode)
