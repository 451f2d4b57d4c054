-- What is delivered of what is counted, refusal 3 before it, and what the answer then means: for every solve that has the parts of Method. Assumes nothing.
use Prim.Native.Nat.{ℕ}
use mathlib.Core.Path.{◌≡◌, refl, sym, ap, ◌∙◌}
use mathlib.Core.Bool.{Bool, true, false, not}
use mathlib.Core.List.{List}
use borrow.Author.Tests.{not-false}
use Rattle.loops.specs.Run.{Run, going, ended, next, on}
use Rattle.loops.specs.Judge.{judge}
use Rattle.loops.proofs.Loop.{on_ended}
use Rattle.kapitsa_joint.specs.Centre.{Centres}
use Rattle.joint_refusals.specs.Tolerances.{Tolerances}
use Rattle.preconditioner.specs.declared.mode.Mode.{Mode}
use Rattle.recurrence.specs.Step.{Iterate, Carried}
use Rattle.loops.proofs.Judge.{test_fail}
use Rattle.steps.specs.Method.{Method}
use Rattle.steps.specs.Solve.{counting, deliver, solve}
use Rattle.steps.proofs.Answer.{means}
use Rattle.position.specs.Problem.{Problem, with_tests}
use Rattle.position.specs.Prepare.{row_judged, valid_judged, diagonals_judged, rows_judged}
use Rattle.solve_method.specs.Method.{opening_of, begin_of, method_of, Delivered}
use Rattle.position_delivery.specs.Delivery.{finished_of}
use Rattle.position_delivery.specs.Outcome.{Lent, Outcome, Answer, proposal_of, committed_of, outcome_at, MeaningAt}
use Rattle.position_delivery.specs.declared.answer.PositionPcgResult.{PositionPcgResult}
use Rattle.solve_method.specs.Counting.{counted_of}

abbrev outcome : Run PositionPcgResult ℕ → Lent → Outcome
outcome r l = record { answer = r; lent = l }

-- ---- up to the step counted the centres themselves are not looked at, only whether they are finite
pub counted_centres : (options : List (ℕ × Bool)) (limits : Tolerances) (placed : Bool) (c d : Centres) (p : Problem) (mode : Mode) (limit : ℕ) → counted_of mode (with_tests options limits placed c p) limit ≡ counted_of mode (with_tests options limits placed d p) limit
unfolding counted_of counting opening_of begin_of rows_judged valid_judged diagonals_judged row_judged
counted_centres options limits placed c d p mode limit = refl

-- ---- what is delivered of what is counted
pub delivered_of : (p : Problem) (mode : Mode) (place n limit : ℕ) (before : Lent) (x : Run (Bool × ℕ × Iterate) ℕ) (o : Outcome) → counted_of mode p limit ≡ x → outcome_at place n before (next x (finished_of p.table p.accumulated p.centres)) ≡ o → outcome_at place n before (solve (method_of true p mode) limit) ≡ o
unfolding solve finished_of counted_of on
delivered_of p mode place n limit before x o e h = ap (outcome_at place n before) (joined (opening_of true p limit) ∙ ap (λ (y : Run (Bool × ℕ × Iterate) ℕ). next y (deliver (method_of true p mode))) e) ∙ h
  where
    joined : (r : Run Unit ℕ) → next r (λ _. next (counting (method_of true p mode) limit) (deliver (method_of true p mode))) ≡ next (next r (λ _. counting (method_of true p mode) limit)) (deliver (method_of true p mode))
    joined (going _) = refl
    joined (ended k) = refl

-- ---- refusal 3
module _ (p : Problem) (mode : Mode) (place n limit : ℕ) (before : Lent) (b fits : Bool) (e : b ≡ fits) where
  pub entry_refused : not b ≡ true → outcome_at place n before (solve (method_of fits p mode) limit) ≡ outcome (ended 3) before
  unfolding solve proposal_of committed_of opening_of judge
  entry_refused h = ap (outcome_at place n before) (on_ended _ _ _ {a = 3} (test_fail fits 3 _ e h))

  pub entry_on : (o : Outcome) → not b ≡ false → outcome_at place n before (solve (method_of true p mode) limit) ≡ o → outcome_at place n before (solve (method_of fits p mode) limit) ≡ o
  entry_on o h q = let z : true ≡ fits = sym (not-false b h) ∙ e in ap (λ (x : Bool). outcome_at place n before (solve (method_of x p mode) limit)) (sym z) ∙ q

-- whatever the answer, it means what it says
module _ (m : Method Iterate Carried Delivered) (limit place n : ℕ) (before after : Lent) (r : Run PositionPcgResult ℕ) where
  said : (a : Answer) → solve m limit ≡ a → MeaningAt m limit place n before (outcome_at place n before a).answer (outcome_at place n before a).lent
  unfolding proposal_of committed_of
  said (going ((flag, count, v), f)) e = let w = means m limit (going ((flag, count, v), f)) e in record { step = v; delivered = f; accepted = w.0; result_is = refl; lent_is = refl; none_turns_back = w.1 }
  said (ended k) e = record { turned = means m limit (ended k) e; kept = refl }

  pub entry_means : outcome_at place n before (solve m limit) ≡ outcome r after → MeaningAt m limit place n before r after
  entry_means e = told (outcome r after) e
    where
      told : (o : Outcome) → outcome_at place n before (solve m limit) ≡ o → MeaningAt m limit place n before o.answer o.lent
      told o q = rw (← q) (said (solve m limit) refl)
