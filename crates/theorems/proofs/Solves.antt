-- Problems that agree below their counts have the same answer. Assumes nothing.
use Prim.Native.Nat.{ℕ, zero, suc, ◌<◌}
use mathlib.Core.Path.{◌≡◌, refl, sym, ap, ◌∙◌}
use mathlib.Core.Bool.{Bool, true, false, not}
use mathlib.Core.List.{List, [], ◌∷◌}
use native.Mathlib.Omega.{arith}
use lib.ListN.{length}
use lib.Ieee.{Float, binary64, add}
use Rattle.loops.specs.Judge.{judge, judged}
use Rattle.loops.specs.Run.{Run, check, going, next, on}
use Rattle.loops.specs.Tabulate.{tabulate}
use Rattle.loops.proofs.Every.{every_same}
use Rattle.loops.proofs.Inverse.{going_inj, next_going}
use Rattle.loops.proofs.Judge.{test_going}
use Rattle.loops.proofs.Same.{judge_first, judged_each, judged_same, next_same}
use Rattle.loops.proofs.Tabulate.{length_tabulate, tabulate_same}
use Rattle.kapitsa_joint.specs.Row.{jacobian_of}
use Rattle.kapitsa_joint.specs.Mass.{diagonal_of}
use Rattle.kapitsa_joint.specs.declared.mass.SolverMass.{SolverMass}
use Rattle.kapitsa_joint.specs.declared.row.RowJacobian.{RowJacobian}
use Rattle.kapitsa_joint.specs.declared.row.ConstraintRow.{ConstraintRow}
use Rattle.joint_refusals.specs.Refusals.{is_valid_of}
use Rattle.mass_operator.specs.System.{system_of}
use Rattle.mass_operator.specs.Flat.{coefficients}
use Rattle.mass_operator.proofs.Same.{impulse_same}
use Rattle.preconditioner.specs.Apply.{preconditioned}
use Rattle.preconditioner.specs.declared.mode.Mode.{Mode}
use Rattle.recurrence.specs.Step.{Iterate, advance_of}
use Rattle.position.specs.Centres.{moved_by}
use Rattle.position.specs.Problem.{Problem}
use Rattle.position.specs.Prepare.{row_diagonal, diagonal_tests, row_judged, valid_judged, diagonals_judged, rows_judged, prepared_diagonal, prepared_residual, diagonals, residuals}
use Rattle.kapitsa_joint.proofs.Largest.{maxima_same}
use Rattle.position.specs.Residual.{meets_of, maxima_of}
use Rattle.steps.specs.Alike.{Alike}
use Rattle.steps.specs.Solve.{solve}
use Rattle.steps.proofs.Alike.{solve_same}
use Rattle.solve_method.specs.Method.{owner_of, passes5, opening_of, factor_here, begin_of, first_of, gains_of, maxima_in, impulse_by, finish_of, method_of}
use Rattle.solve_method.proofs.Alike.{advance_long}
use Rattle.theorems.specs.Below.{CentresAlike, ProblemsAgree}
use Rattle.theorems.proofs.Tables.{BodiesBelow, table_with, fours, sixes, systems_agree, valid_below, valid_same}
use Rattle.theorems.proofs.Centres.{finite_same, flat_same, moved_alike}
use Rattle.theorems.proofs.Systems.{SystemsAgree, product_same, impulses_same, factor_same, preconditioned_same}

-- of tests that all pass, the first does
judge_head : (k : ℕ) (b : Bool) (l : List (ℕ × Bool)) → judge ((k, b) ∷ l) ≡ going tt → b ≡ true
unfolding judge
judge_head k b l h = let (_, e, _) = (next_going _ _ tt).0 h in (test_going b k).0 e

module _ (p : Problem) where
  valid_judged_lem : valid_judged p ≡ going tt → (i : ℕ) → i < p.table.rows → BodiesBelow p.table i
  unfolding valid_judged
  valid_judged_lem h i k = valid_below p.table.bodies (p.table.row i) (judge_head 7 _ [] (judged_each _ p.table.rows h i k))

  by_rows : judged (row_judged p) p.table.rows ≡ going tt → (i : ℕ) → i < p.table.rows → BodiesBelow p.table i
  unfolding row_judged
  by_rows h i k = valid_below p.table.bodies (p.table.row i) (judge_head 7 _ (diagonal_tests p i) (judged_each (row_judged p) p.table.rows h i k))

  judged_below : rows_judged p ≡ going tt → (i : ℕ) → i < p.table.rows → BodiesBelow p.table i
  unfolding rows_judged check
  judged_below h = go p.valid_first h
    where
      go : (b : Bool) → check b (next (valid_judged p) (λ _. diagonals_judged p)) (judged (row_judged p) p.table.rows) ≡ going tt → (i : ℕ) → i < p.table.rows → BodiesBelow p.table i
      go true e = let (_, q, _) = (next_going (valid_judged p) _ tt).0 e in valid_judged_lem q
      go false e = by_rows e

-- a row's diagonal by what is read of the row
abbrev jacobian_diagonal : (ℕ → SolverMass) → RowJacobian → Float
jacobian_diagonal mass j = add binary64 (diagonal_of (mass j.body_a) j.linear_a j.angular_a) (diagonal_of (mass j.body_b) j.linear_b j.angular_b)

diagonal_read : (mass : ℕ → SolverMass) (r : ConstraintRow) → row_diagonal mass r ≡ jacobian_diagonal mass (jacobian_of r)
unfolding row_diagonal jacobian_of
diagonal_read mass r = refl

-- p with all that a row or a body has from q; the counts and the kind are p's
abbrev with : Problem → Problem → Problem
with p q = record {
  table = table_with p.table q.table;
  tolerance = q.tolerance;
  rule = q.rule;
  start = q.start;
  accumulated = q.accumulated;
  options = p.options;
  tolerance_tests = p.tolerance_tests;
  opens = q.opens;
  placed = p.placed;
  lent = p.lent;
  valid_first = p.valid_first;
  factor_first = p.factor_first;
  centres = record { bodies = p.centres.bodies; at = q.centres.at };
}

module _ (mode : Mode) (p q : Problem) (w : ProblemsAgree mode p q) where
  -- ---- 4 to 6
  fives : (limit : ℕ) → passes5 p.table.rows q.opens limit ≡ passes5 p.table.rows p.opens limit
  unfolding passes5
  fives limit = rw (every_same q.opens p.opens p.table.rows w.opens)

  opening_same : (fits : Bool) (limit : ℕ) → opening_of fits (with p q) limit ≡ opening_of fits p limit
  unfolding opening_of
  opening_same fits limit = rw (fours p.table q.table w.table, fives limit, sixes p.table q.table w.table)

  -- ---- 7 to 9
  diagonal_same : (i : ℕ) → i < p.table.rows → BodiesBelow p.table i → row_diagonal q.table.mass (q.table.row i) ≡ row_diagonal p.table.mass (p.table.row i)
  unfolding jacobian_of
  diagonal_same i h (a, b) =
      diagonal_read q.table.mass (q.table.row i) ∙ ap (jacobian_diagonal q.table.mass) (w.table.row i h).jacobian
      ∙ rw (w.table.mass (p.table.row i).words.body_a a, w.table.mass (p.table.row i).words.body_b b) (sym (diagonal_read p.table.mass (p.table.row i)))

  tests_same : (i : ℕ) → i < p.table.rows → BodiesBelow p.table i → diagonal_tests (with p q) i ≡ diagonal_tests p i
  tests_same i h b = rw (diagonal_same i h b, w.start i h, w.tolerance i h)

  row_judged_same : (i : ℕ) → i < p.table.rows → row_judged (with p q) i ≡ row_judged p i
  unfolding row_judged
  row_judged_same i h =
      rw (valid_same p.table q.table w.table i h)
      (judge_first 7 (is_valid_of p.table.bodies (p.table.row i)) (diagonal_tests (with p q) i) (diagonal_tests p i) (λ v. tests_same i h (valid_below p.table.bodies (p.table.row i) v)))

  valid_judged_same : valid_judged (with p q) ≡ valid_judged p
  unfolding valid_judged
  valid_judged_same = judged_same _ _ p.table.rows (λ i h. rw (valid_same p.table q.table w.table i h))

  diagonals_judged_same : valid_judged p ≡ going tt → diagonals_judged (with p q) ≡ diagonals_judged p
  unfolding diagonals_judged
  diagonals_judged_same e = judged_same _ _ p.table.rows (λ i h. ap judge (tests_same i h (valid_judged_lem p e i h)))

  rows_judged_same : rows_judged (with p q) ≡ rows_judged p
  unfolding rows_judged
  rows_judged_same =
      rw (valid_judged_same, next_same (valid_judged p) (λ _. diagonals_judged (with p q)) (λ _. diagonals_judged p) (λ _ e. diagonals_judged_same e), judged_same (row_judged (with p q)) (row_judged p) p.table.rows row_judged_same)

  -- ---- what is delivered, and when a residual meets
  gains_same : (x : List Float) → gains_of q.accumulated p.table.rows x ≡ gains_of p.accumulated p.table.rows x
  unfolding gains_of
  gains_same x = tabulate_same _ _ p.table.rows (λ i h. rw (w.accumulated i h))

  kept_same : tabulate q.accumulated p.table.rows ≡ tabulate p.accumulated p.table.rows
  kept_same = tabulate_same _ _ p.table.rows w.accumulated

  maxima_in_same : (v : Iterate) → maxima_in (with p q).table v ≡ maxima_in p.table v
  unfolding maxima_in maxima_of
  maxima_in_same v = maxima_same _ _ _ _ p.table.rows (λ i h. rw (w.table.row i h).dimension) (λ i h. refl)

  meets_same : (residual : List Float) → meets_of q.tolerance residual p.table.rows ≡ meets_of p.tolerance residual p.table.rows
  unfolding meets_of
  meets_same residual = every_same _ _ p.table.rows (λ i h. rw (w.tolerance i h))

  -- ---- step 0 and the parts after it, where every row has passed
  module _ (passed : rows_judged p ≡ going tt) where
    diagonals_same : diagonals (with p q).table ≡ diagonals p.table
    unfolding diagonals prepared_diagonal
    diagonals_same = tabulate_same _ _ p.table.rows (λ i h. rw (diagonal_same i h (judged_below p passed i h)))

    residuals_same : residuals (with p q).table q.start ≡ residuals p.table p.start
    unfolding residuals prepared_residual
    residuals_same = tabulate_same _ _ p.table.rows (λ i h. rw (diagonal_same i h (judged_below p passed i h), w.start i h))

    agree : SystemsAgree (system_of p.table) (λ i. jacobian_of (q.table.row i)) q.table.mass
    agree = systems_agree p.table q.table w.table (judged_below p passed)

    factor_here_same : (here : Bool) → factor_here here mode (system_of (with p q).table) (owner_of (with p q).table) (diagonals (with p q).table) ≡ factor_here here mode (system_of p.table) (owner_of p.table) (diagonals p.table)
    unfolding factor_here
    factor_here_same here = rw (diagonals_same, factor_same (system_of p.table) (λ i. jacobian_of (q.table.row i)) q.table.mass agree (owner_of p.table) (owner_of (with p q).table) mode w.owner (diagonals p.table))

    z_same : (residual : List Float) → length residual ≡ p.table.rows → preconditioned mode (system_of (with p q).table) (owner_of (with p q).table) (diagonals p.table) residual ≡ preconditioned mode (system_of p.table) (owner_of p.table) (diagonals p.table) residual
    z_same residual l = preconditioned_same (system_of p.table) (λ i. jacobian_of (q.table.row i)) q.table.mass agree (owner_of p.table) (owner_of (with p q).table) mode w.owner (diagonals p.table) residual l

  begin_same : begin_of (with p q) mode ≡ begin_of p mode
  unfolding begin_of
  begin_same = rw rows_judged_same (next_same (rows_judged p) _ _ (λ _ e. rw (factor_here_same e p.factor_first, residuals_same e)))

  begun : (v : Iterate) → begin_of p mode ≡ going v → (rows_judged p ≡ going tt) × (length v.residual ≡ p.table.rows)
  unfolding begin_of residuals
  begun v e =
      let (_, a, b) = (next_going (rows_judged p) _ v).0 e in
      let (_, _, d) = (next_going (factor_here p.factor_first mode (system_of p.table) (owner_of p.table) (diagonals p.table)) _ v).0 b in
      (a, ap (λ (x : Iterate). length x.residual) (sym (going_inj d)) ∙ length_tabulate _ p.table.rows)

  centres_same : CentresAlike p.centres (with p q).centres
  centres_same = record { bodies = refl; at = w.centres.at }

  moved_same : (v : Iterate) → CentresAlike (moved_by p.table.mass (impulse_by p.table v) p.centres) (moved_by q.table.mass (impulse_by (with p q).table v) (with p q).centres)
  moved_same v =
      moved_alike p.centres (with p q).centres centres_same p.table.mass q.table.mass (impulse_by p.table v) (impulse_by (with p q).table v) (λ b h. w.table.mass b (omega (arith, w.within)))
      (λ b h. impulse_same (λ i. jacobian_of (q.table.row i)) (λ i. jacobian_of (p.table.row i)) (coefficients v.solution) (coefficients v.solution) b p.table.rows (λ i k. (w.table.row i k).jacobian) (λ i k. refl))

  finish_same : rows_judged p ≡ going tt → (k : ℕ) (v : Iterate) → finish_of (with p q).table q.accumulated (with p q).centres k v ≡ finish_of p.table p.accumulated p.centres k v
  unfolding finish_of
  finish_same passed zero v = rw (kept_same, flat_same p.centres (with p q).centres centres_same, maxima_in_same v)
  finish_same passed (suc k) v =
      let moved = moved_by p.table.mass (impulse_by p.table v) p.centres in
      let other = moved_by q.table.mass (impulse_by (with p q).table v) (with p q).centres in
      rw (impulses_same (system_of p.table) (λ i. jacobian_of (q.table.row i)) q.table.mass (agree passed) (coefficients v.solution), gains_same v.solution, finite_same moved other (moved_same v), flat_same moved other (moved_same v), maxima_in_same v)

  alike : (fits : Bool) → rows_judged p ≡ going tt → Alike (method_of fits p mode) (method_of fits (with p q) mode) (λ v. length v.residual ≡ p.table.rows) (λ d. d)
  unfolding first_of advance_of on
  alike fits passed =
      let s = system_of p.table in
      record {
        begun = λ v e. (begun v e).1;
        kept = λ v u c l e. advance_long s v u c e ∙ l;
        first = λ v l. rw (factor_here_same passed (not p.factor_first), diagonals_same passed, z_same passed v.residual l);
        advance = λ v c l. rw (product_same s (λ i. jacobian_of (q.table.row i)) q.table.mass (agree passed) (coefficients c.direction));
        meets = λ v l. meets_same v.residual;
        renew = λ v c l. rw (diagonals_same passed, z_same passed v.residual l);
        finish = λ k v l. finish_same passed k v ∙ sym (delivered (finish_of p.table p.accumulated p.centres k v));
      }
    where
      delivered : {F : Type 0} (r : Run F ℕ) → next r (λ d. going d) ≡ r
      delivered (Run.going d) = refl
      delivered (Run.ended k) = refl

  with_same : (fits : Bool) (limit : ℕ) → solve (method_of fits (with p q) mode) limit ≡ solve (method_of fits p mode) limit
  with_same fits limit =
      solve_same (method_of fits p mode) (method_of fits (with p q) mode) (λ v. length v.residual ≡ p.table.rows) limit (opening_same fits limit) begin_same
      (λ v e. alike fits (begun v e).0)

  counts_same : q ≡ with p q
  counts_same = λ i. record {
    table = record { rows = w.table.rows i; bodies = w.table.bodies i; row = q.table.row; mass = q.table.mass };
    tolerance = q.tolerance;
    rule = q.rule;
    start = q.start;
    accumulated = q.accumulated;
    options = w.options i;
    tolerance_tests = w.tolerance_tests i;
    opens = q.opens;
    placed = w.placed i;
    lent = w.lent i;
    valid_first = w.valid_first i;
    factor_first = w.factor_first i;
    centres = record { bodies = w.centres.bodies i; at = q.centres.at };
  }

  -- of every kind of problem
  pub solve_below : (fits : Bool) (limit : ℕ) → solve (method_of fits q mode) limit ≡ solve (method_of fits p mode) limit
  solve_below fits limit = ap (λ (r : Problem). solve (method_of fits r mode) limit) counts_same ∙ with_same fits limit
