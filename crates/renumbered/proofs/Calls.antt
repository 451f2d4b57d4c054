-- Two calls, one of a job and one of the job with its bodies under new numbers, tell the same by their contracts. Assumes nothing.
use Prim.Native.Nat.{ℕ, ◌<◌}
use mathlib.Core.Path.{◌≡◌, refl, sym, ap, ◌∙◌}
use mathlib.Core.Bool.{Bool, true, false}
use mathlib.Core.List.{List, []}
use native.Mathlib.Omega.{arith}
use lib.Ieee.{Float}
use Rattle.loops.specs.Run.{going, ended, on, Run}
use Rattle.loops.proofs.Tabulate.{tabulate_same}
use Rattle.preconditioner.specs.declared.mode.Mode.{Mode}
use Rattle.steps.specs.Alike.{delivering}
use Rattle.steps.specs.Solve.{solve}
use Rattle.solve_method.specs.Method.{method_of}
use Rattle.position_delivery.specs.Outcome.{Lent, Outcome, Answer, proposal_of, committed_of, outcome_at}
use Rattle.position_delivery.specs.declared.answer.PositionPcgResult.{PositionPcgResult}
use Rattle.solve_by_rules.specs.Ruled.{named_by, SolveRuled}
use Rattle.own_memory.specs.Job.{JobSolved}
use Rattle.work_memory.specs.Work.{WorkMemory}
use Rattle.renumbered.specs.Renumber.{Renumbering, InRange}
use Rattle.renumbered.specs.Moved.{moved}
use Rattle.renumbered.specs.Lists.{LentJob, table_in, solve_in, Long, renumbered_job}
use Rattle.renumbered.specs.Calls.{LentAlike, SolvedAlike}
use Rattle.renumbered.proofs.Lists.{solve_three, renumbers_job}

-- ---- one answer, and the answer with its delivery moved
module _ (q : ℕ → ℕ) (place n : ℕ) (before before' : Lent) where
  pub record OutcomesAlike (answer answer' : Run PositionPcgResult ℕ) (after after' : Lent) : Type 0 where
    pub answered : answer' ≡ answer
    pub accepted : (r : PositionPcgResult) → answer ≡ going r → before'.numbers ≡ before.numbers → LentAlike q after after'
    pub refused : (k : ℕ) → answer ≡ ended k → (after ≡ before) × (after' ≡ before')

  delivered_alike : (a : Answer) → let o = outcome_at place n before a in let o' = outcome_at place n before' (delivering (moved q) a) in OutcomesAlike o.answer o'.answer o.lent o'.lent
  unfolding proposal_of committed_of moved on
  delivered_alike (going ((flag, count, v), f)) = record {
    answered = refl;
    accepted = λ r e h. record { numbers = rw h; solution = refl; impulses = refl; centres = refl };
    refused = λ k e. absurd (let z : ◌≡◌ {A = ℕ} 0 1 = cc in omega arith);
  }
  delivered_alike (ended k) = record {
    answered = refl;
    accepted = λ r e h. absurd (let z : ◌≡◌ {A = ℕ} 0 1 = cc in omega arith);
    refused = λ m e. (refl, refl);
  }

  -- by the equations of two contracts
  pub outcomes_alike : (a b : Answer) {answer answer' : Run PositionPcgResult ℕ} {after after' : Lent} → b ≡ delivering (moved q) a → outcome_at place n before a ≡ record { answer = answer; lent = after } → outcome_at place n before' b ≡ record { answer = answer'; lent = after' } → OutcomesAlike answer answer' after after'
  outcomes_alike a b {answer} {answer'} {after} {after'} e x y =
      go (outcome_at place n before a) (outcome_at place n before' (delivering (moved q) a)) x (sym (ap (outcome_at place n before') e) ∙ y) (delivered_alike a)
    where
      go : (o o' : Outcome) → o ≡ record { answer = answer; lent = after } → o' ≡ record { answer = answer'; lent = after' } → OutcomesAlike o.answer o'.answer o.lent o'.lent → OutcomesAlike answer answer' after after'
      go o o' u v d = rw (u, v) at d

-- ---- the rule of each row, where there is an answer
named_alike : (rule rule' : ℕ → ℕ) (n : ℕ) (named named' : List ℕ) (answer : Run PositionPcgResult ℕ) (r : PositionPcgResult) → answer ≡ going r → ((i : ℕ) → i < n → rule' i ≡ rule i) → named_by answer rule' n named' ≡ named_by answer rule n named
named_alike rule rule' n named named' (going x) r e h = tabulate_same rule' rule n h
named_alike rule rule' n named named' (ended k) r e h = absurd (let z : ◌≡◌ {A = ℕ} 0 1 = cc in omega arith)

named_kept : (rule : ℕ → ℕ) (n : ℕ) (named : List ℕ) (answer : Run PositionPcgResult ℕ) (k : ℕ) → answer ≡ ended k → named_by answer rule n named ≡ named
named_kept rule n named (going x) k e = absurd (let z : ◌≡◌ {A = ℕ} 0 1 = cc in omega arith)
named_kept rule n named (ended m) k e = refl

module _ (p q : ℕ → ℕ) (j : LentJob) (r : Renumbering j.bodies p q) (inside : InRange (table_in j)) where
  -- an answer is given only where 3 passes
  fitted : (fits : Bool) (shift : Float) (mode : Mode) (limit place n : ℕ) (before : Lent) (answer : Run PositionPcgResult ℕ) (after : Lent) (x : PositionPcgResult) → outcome_at place n before (solve (method_of fits (solve_in j shift) mode) limit) ≡ record { answer = answer; lent = after } → answer ≡ going x → fits ≡ true
  unfolding proposal_of
  fitted true shift mode limit place n before answer after x e f = refl
  fitted false shift mode limit place n before answer after x e f =
      let g : (outcome_at place n before (ended 3)).answer ≡ going x = ap (λ (a : Answer). (outcome_at place n before a).answer) (sym (solve_three (solve_in j shift) mode limit)) ∙ ap (λ (o : Outcome). o.answer) e ∙ f in
      absurd (let z : ◌≡◌ {A = ℕ} 0 1 = cc in omega arith)

  module _ (fits : Bool) (long : Long fits j) (shift : Float) (mode : Mode) (limit place : ℕ) (before after before' after' : Lent) (named namedAfter named' namedAfter' : List ℕ) (answer answer' : Run PositionPcgResult ℕ) where
    solved_alike : outcome_at place j.rows before (solve (method_of fits (solve_in j shift) mode) limit) ≡ record { answer = answer; lent = after } → outcome_at place j.rows before' (solve (method_of fits (solve_in (renumbered_job p q j) shift) mode) limit) ≡ record { answer = answer'; lent = after' }
        → namedAfter ≡ named_by answer (solve_in j shift).rule j.rows named → namedAfter' ≡ named_by answer' (solve_in (renumbered_job p q j) shift).rule j.rows named' → SolvedAlike q before after before' after' named namedAfter named' namedAfter' answer answer'
    solved_alike x y m m' =
        let job = renumbers_job p q j r inside fits long in
        let d = outcomes_alike q place j.rows before before' (solve (method_of fits (solve_in j shift) mode) limit) (solve (method_of fits (solve_in (renumbered_job p q j) shift) mode) limit) (job.solves shift mode limit) x y in
        record {
          answered = d.answered;
          accepted = λ a e h. (d.accepted a e h, m' ∙ named_alike (solve_in j shift).rule (solve_in (renumbered_job p q j) shift).rule j.rows named named' answer' a (d.answered ∙ e) (job.measures (fitted fits shift mode limit place j.rows before answer after a x e) []).rules ∙ ap (λ (z : Run PositionPcgResult ℕ). named_by z (solve_in j shift).rule j.rows named) d.answered ∙ sym m);
          refused = λ k e. let (u, v) = d.refused k e in (u, v, m ∙ named_kept _ j.rows named answer k e, m' ∙ named_kept _ j.rows named' answer' k (d.answered ∙ e));
        }

    -- by the contract of a solve with memory of its own, of either kind
    pub jobs_alike : JobSolved fits j.rules (solve_in j shift) mode limit place j.rows before after named namedAfter answer → JobSolved fits j.rules (solve_in (renumbered_job p q j) shift) mode limit place j.rows before' after' named' namedAfter' answer'
        → SolvedAlike q before after before' after' named namedAfter named' namedAfter' answer answer'
    jobs_alike x y = solved_alike x.answered y.answered x.named y.named

    -- and by that of a solve whose work memory is lent
    pub solves_alike : (work workAfter work' workAfter' : WorkMemory) → SolveRuled fits j.rules (solve_in j shift) mode limit place j.rows before after named namedAfter answer work workAfter
        → SolveRuled fits j.rules (solve_in (renumbered_job p q j) shift) mode limit place j.rows before' after' named' namedAfter' answer' work' workAfter' → SolvedAlike q before after before' after' named namedAfter named' namedAfter' answer answer'
    solves_alike work workAfter work' workAfter' x y = solved_alike x.held.answered y.held.answered x.named y.named
