-- What a proposal tells C, from the promise of its entry. Assumes nothing.
use Prim.Native.Nat.{ℕ, ◌<◌}
use mathlib.Core.Path.{◌≡◌, refl, sym, ap, subst, ◌∙◌}
use mathlib.Core.Bool.{Bool, true, not, ◌&&◌}
use mathlib.Core.List.{List}
use mathlib.Core.Logic.{◌↔◌}
use native.Mathlib.Omega.{arith}
use lib.ListN.{length, set}
use lib.Ieee.{Float}
use borrow.Author.Tests.{eq-eqb, ne_eqb}
use Rattle.loops.specs.Run.{Goes, going, ended, Run}
use Rattle.loops.proofs.Inverse.{apart as apart-runs}
use Rattle.rules.specs.Rules.{Rules}
use Rattle.preconditioner.specs.declared.mode.Mode.{Mode}
use Rattle.position.specs.Problem.{Problem}
use Rattle.steps.specs.Solve.{solve}
use Rattle.solve_method.specs.Method.{method_of}
use Rattle.solve_method.specs.Places.{Apart}
use Rattle.solve_method.proofs.InPlace.{problem_not_zero}
use Rattle.position_delivery.specs.Outcome.{Answer, proposal_of}
use Rattle.position_delivery.specs.declared.answer.PositionPcgResult.{PositionPcgResult}
use Rattle.work_memory.specs.Work.{WorkMemory}
use Rattle.proposals.specs.Proposal.{ProposalMemory, Proposing, proposing}
use Rattle.position_proposal.specs.Proposed.{Proposed}
use Rattle.kapitsa_proposal_c.specs.Proposing.{MaximaTold, maxima_told, maxima_fit, ProposalTold}
use Rattle.kapitsa_c.proofs.Telling.{both_set}

-- 0 is told exactly where the proposal is accepted: no refusal has that number
told_zero : (fits : Bool) (p : Problem) (mode : Mode) (limit n : ℕ) (numbers : List Float) (before : ProposalMemory) (maxima : List Float) → Apart p → ((maxima_told (proposing n numbers before (solve (method_of fits p mode) limit)).answer maxima).number ≡ 0) ↔ Goes (solve (method_of fits p mode) limit)
unfolding maxima_told proposal_of
told_zero fits p mode limit n numbers before maxima apart = go (solve (method_of fits p mode) limit) (problem_not_zero p mode fits limit apart)
  where
    go : (r : Answer) → ((k : ℕ) → r ≡ ended k → 0 < k) → ((maxima_told (proposing n numbers before r).answer maxima).number ≡ 0) ↔ Goes r
    go (going a) h = (λ _. (a, refl), λ _. refl)
    go (ended k) h = (λ e. let z = h k refl in absurd (omega arith), λ g. absurd (apart-runs _ g.1 refl))

pub proposal_told : {fits : Bool} {s : Rules} {p : Problem} {mode : Mode} {limit n : ℕ} {numbers : List Float} {before after : ProposalMemory} {rules rulesAfter : List ℕ} {maxima : List Float} {a : Run PositionPcgResult ℕ} {work workAfter : WorkMemory} {told : MaximaTold} → Apart p
    → Proposed fits s p mode limit n numbers before after rules rulesAfter a work workAfter → told ≡ maxima_told a maxima → ProposalTold fits s p mode limit n numbers before after rules rulesAfter maxima told work workAfter
proposal_told {fits} {s} {p} {mode} {limit} {n} {numbers} {before} {after} {rules} {rulesAfter} {maxima} {a} {work} {workAfter} {told} apart h w =
    let e : a ≡ (proposing n numbers before (solve (method_of fits p mode) limit)).answer = sym (ap (λ (x : Proposing). x.answer) h.answered) in
    let answered = w ∙ ap (λ (x : Run PositionPcgResult ℕ). maxima_told x maxima) e in
    record {
      answered = answered;
      proposed = subst (λ (x : Run PositionPcgResult ℕ). Proposed fits s p mode limit n numbers before after rules rulesAfter x work workAfter) e h;
      zero = subst (λ (x : ℕ). (x ≡ 0) ↔ Goes (solve (method_of fits p mode) limit)) (sym (ap (λ (x : MaximaTold). x.number) answered)) (told_zero fits p mode limit n numbers before maxima apart);
    }

-- ---- the slice that takes the maxima
module _ (maxima : List Float) where
  pub maxima_unfit : (length maxima ≡ 2 → ⊥) → not (maxima_fit maxima) ≡ true
  unfolding maxima_fit
  maxima_unfit h = rw (ne_eqb (length maxima) 2 h)

  pub maxima_fit_lem : (rest : Bool) → length maxima ≡ 2 → rest ≡ (maxima_fit maxima && rest)
  unfolding maxima_fit
  maxima_fit_lem rest h = rw (eq-eqb (length maxima) 2 h)

  pub told_three : record { number = 3; maxima = maxima } ≡ maxima_told (ended 3) maxima
  unfolding maxima_told
  told_three = refl

-- a proposal of a job whose slices fit
pub proposal_on : {rest fits : Bool} {s : Rules} {p : Problem} {mode : Mode} {limit n : ℕ} {numbers : List Float} {before after : ProposalMemory} {rules rulesAfter : List ℕ} {maxima : List Float} {a : Run PositionPcgResult ℕ} {work workAfter : WorkMemory} {told : MaximaTold} → Apart p → rest ≡ fits
    → Proposed rest s p mode limit n numbers before after rules rulesAfter a work workAfter → told ≡ maxima_told a maxima → ProposalTold fits s p mode limit n numbers before after rules rulesAfter maxima told work workAfter
proposal_on apart e h w = rw (← e) (proposal_told apart h w)

-- ---- `tell_maxima`
module _ (a : Run PositionPcgResult ℕ) (maxima : List Float) where
  pub maxima_accepted : (r : PositionPcgResult) → a ≡ going r → length maxima ≡ 2 → record { number = 0; maxima = set (set maxima 0 r.linear_residual_m) 1 r.angular_residual_rad } ≡ maxima_told a maxima
  unfolding maxima_told
  maxima_accepted r e h = rw (e, both_set maxima r.linear_residual_m r.angular_residual_rad h)

  pub maxima_refused : (number : ℕ) → a ≡ ended number → record { number = number; maxima = maxima } ≡ maxima_told a maxima
  unfolding maxima_told
  maxima_refused number e = rw e
