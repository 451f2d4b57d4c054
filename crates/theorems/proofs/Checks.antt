-- Checks whose tables and lists agree below the counts have the same answer. Assumes nothing.
use Prim.Native.Nat.{ℕ, ◌<◌}
use mathlib.Core.Path.{◌≡◌, refl, ap, ◌∙◌}
use mathlib.Core.Bool.{Bool, true}
use Rattle.loops.specs.Judge.{judge, AllPass}
use Rattle.loops.specs.Run.{Run, going, ended, on}
use Rattle.loops.proofs.Every.{every_iff, every_same}
use Rattle.loops.proofs.Judge.{judge_going}
use Rattle.binary64.specs.Order.{absolute}
use Rattle.kapitsa_joint.specs.Row.{jacobian_of}
use Rattle.kapitsa_joint.proofs.Largest.{maxima_same}
use Rattle.kapitsa_joint.specs.declared.mass.SolverMass.{SolverMass}
use Rattle.kapitsa_joint.specs.declared.row.RowJacobian.{RowJacobian}
use Rattle.joint_refusals.specs.Refusals.{is_valid_of, passes7}
use Rattle.mass_operator.specs.System.{System, system_of}
use Rattle.check_range.specs.Closing.{Closing}
use Rattle.check_range.specs.Range.{mass_in_range, row_in_range, table_in_range}
use Rattle.check_measure.specs.Verdict.{size_of_row, size_of_mass, sizes_of, value_of, size_of, reach, closes, largest_reaches}
use Rattle.check_refusals.specs.Judged.{table_tests, judgements}
use Rattle.check_refusals.proofs.Judgement.{passed_7}
use Rattle.check_answer.specs.Answer.{verdict_of, check_of, CheckAnswer}
use Rattle.theorems.specs.Below.{ClosingsAgree}
use Rattle.theorems.proofs.Tables.{BodiesBelow, table_with, fours, sixes, sevens, systems_agree, valid_below}
use Rattle.theorems.proofs.Systems.{SystemsAgree, value_same}

-- the systems of sizes agree too
sizes_agree : (s : System) (jacobian : ℕ → RowJacobian) (mass : ℕ → SolverMass) → SystemsAgree s jacobian mass → SystemsAgree (sizes_of s) (λ i. size_of_row (jacobian i)) (λ b. size_of_mass (mass b))
unfolding size_of_row
sizes_agree s jacobian mass w = record {
  jacobians = λ i k. ap size_of_row (w.jacobians i k);
  masses = λ b k. ap size_of_mass (w.masses b k);
  a_below = w.a_below;
  b_below = w.b_below;
}

-- an answer that is given only where nothing is refused
on_same : (r : Run Unit ℕ) (x y : CheckAnswer) → (r ≡ going tt → x ≡ y) → on r (λ _. x) ended ≡ on r (λ _. y) ended
unfolding on
on_same (going tt) x y e = e refl
on_same (ended k) x y e = refl

-- c with all that a row or a body has from d; the counts are c's
abbrev with : Closing → Closing → Closing
with c d = record { table = table_with c.table d.table; error = d.error; listed = d.listed; tolerance = d.tolerance; rule = d.rule; tolerance_tests = c.tolerance_tests; lent = c.lent; placed = c.placed }

module _ (c d : Closing) (w : ClosingsAgree c d) where
  eighteens : table_in_range (with c d).table d.error d.listed ≡ table_in_range c.table c.error c.listed
  unfolding table_in_range
  eighteens =
      rw (every_same (λ i. row_in_range (jacobian_of (d.table.row i)) (d.error i) (d.listed i)) (λ i. row_in_range (jacobian_of (c.table.row i)) (c.error i) (c.listed i)) c.table.rows (λ i h. rw ((w.table.row i h).jacobian, w.error i h, w.listed i h)), every_same (λ b. mass_in_range (d.table.mass b)) (λ b. mass_in_range (c.table.mass b)) c.table.bodies (λ b h. ap mass_in_range (w.table.mass b h)))

  seven_below : passes7 c.table ≡ true → (i : ℕ) → i < c.table.rows → BodiesBelow c.table i
  unfolding passes7
  seven_below seven i h = valid_below c.table.bodies (c.table.row i) ((every_iff (λ i. is_valid_of c.table.bodies (c.table.row i)) c.table.rows).0 seven i h)

  -- where every row has passed 7
  module _ (inside : (i : ℕ) → i < c.table.rows → BodiesBelow c.table i) where
    agree : SystemsAgree (system_of c.table) (λ i. jacobian_of (d.table.row i)) d.table.mass
    agree = systems_agree c.table d.table w.table inside

    value_of_same : (i : ℕ) → i < c.table.rows → value_of (with c d) i ≡ value_of c i
    unfolding value_of
    value_of_same = value_same (system_of c.table) (λ i. jacobian_of (d.table.row i)) d.table.mass agree c.listed d.listed w.listed

    size_of_same : (i : ℕ) → i < c.table.rows → size_of (with c d) i ≡ size_of c i
    unfolding size_of
    size_of_same =
        value_same (sizes_of (system_of c.table)) (λ i. size_of_row (jacobian_of (d.table.row i))) (λ b. size_of_mass (d.table.mass b)) (sizes_agree (system_of c.table) (λ i. jacobian_of (d.table.row i)) d.table.mass agree)
        (λ k. absolute (c.listed k)) (λ k. absolute (d.listed k)) (λ k h. ap absolute (w.listed k h))

    reach_same : (i : ℕ) → i < c.table.rows → reach (with c d) i ≡ reach c i
    unfolding reach
    reach_same i h = rw (value_of_same i h, size_of_same i h, w.error i h)

    closes_same : closes (with c d) ≡ closes c
    unfolding closes
    closes_same = every_same _ _ c.table.rows (λ i h. rw (reach_same i h, w.tolerance i h))

    largest_same : largest_reaches (with c d) ≡ largest_reaches c
    unfolding largest_reaches
    largest_same = maxima_same _ _ _ _ c.table.rows (λ i h. rw (w.table.row i h).dimension) reach_same

  all_pass : {fits : Bool} → judge (judgements fits c) ≡ going tt → (fits ≡ true) × AllPass (table_tests c)
  unfolding AllPass
  all_pass {fits} e = (judge_going (judgements fits c)).0 e

  with_same : (fits : Bool) → check_of fits (with c d) ≡ check_of fits c
  unfolding check_of verdict_of
  with_same fits =
      rw (fours c.table d.table w.table, sixes c.table d.table w.table, sevens c.table d.table w.table, eighteens)
      (on_same (judge (judgements fits c)) _ _ (λ e. let inside = seven_below (passed_7 c (all_pass e).1) in rw (closes_same inside, largest_same inside)))

  counts_same : d ≡ with c d
  counts_same = λ i. record {
    table = record { rows = w.table.rows i; bodies = w.table.bodies i; row = d.table.row; mass = d.table.mass };
    error = d.error;
    listed = d.listed;
    tolerance = d.tolerance;
    rule = d.rule;
    tolerance_tests = w.tolerance_tests i;
    lent = w.lent i;
    placed = w.placed i;
  }

  -- where the rows' bodies are below the body count, a row's rounded |r| + E is the same, whatever is judged
  pub reach_below : ((i : ℕ) → i < c.table.rows → BodiesBelow c.table i) → (i : ℕ) → i < c.table.rows → reach d i ≡ reach c i
  reach_below inside i h = ap (λ (e : Closing). reach e i) counts_same ∙ reach_same inside i h

  pub check_below : (fits : Bool) → check_of fits d ≡ check_of fits c
  check_below fits = ap (check_of fits) counts_same ∙ with_same fits
