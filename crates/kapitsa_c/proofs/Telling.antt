-- What a solve tells C, from the promise of the entry, of either kind. Assumes nothing.
use Prim.Native.Nat.{ℕ, ◌<◌}
use mathlib.Core.Path.{◌≡◌, refl, sym, ap, subst, ◌∙◌}
use mathlib.Core.Bool.{Bool, true, false, not, ◌&&◌, cond}
use mathlib.Core.List.{List, [], ◌∷◌}
use mathlib.Core.Logic.{◌↔◌}
use native.Mathlib.Omega.{arith}
use mir.Val.{bool_byte}
use lib.Dec.{eqb}
use lib.ListN.{length, set}
use lib.Ieee.{Float}
use borrow.Author.Tests.{not-true, not-false, eqb-true}
use Rattle.preconditioner.specs.declared.mode.Mode.{Mode}
use Rattle.steps.specs.Solve.{solve}
use Rattle.position.specs.Problem.{Problem}
use Rattle.solve_method.specs.Method.{method_of}
use Rattle.solve_method.specs.Places.{Apart}
use Rattle.solve_method.proofs.InPlace.{problem_in_place, problem_not_zero}
use Rattle.position_delivery.specs.Outcome.{Answer, Lent, Outcome, result_of, proposal_of, outcome_at, MeaningAt}
use Rattle.position_delivery.specs.declared.answer.PositionPcgResult.{PositionPcgResult}
use Rattle.work_memory.specs.Work.{WorkMemory, After}
use Rattle.rules.specs.Rules.{Rules, Ruled}
use Rattle.solve_by_rules.specs.Ruled.{named_by, SolveRuled}
use Rattle.position_delivery.proofs.Answered.{entry_means, entry_refused}
use Rattle.loops.specs.Run.{Goes, going, ended, Run}
use Rattle.loops.proofs.Inverse.{apart as apart-runs}
use Rattle.loops.proofs.Both.{both}
use Rattle.kapitsa_c.specs.Solving.{Told, told_of, told_fits, SolveTold}

abbrev outcome : Run PositionPcgResult ℕ → Lent → Outcome
outcome r l = record { answer = r; lent = l }

module _ (s : Rules) (p : Problem) (mode : Mode) (limit place n : ℕ) (before : Lent) (named : List ℕ) (counts : List ℕ) (maxima : List Float) (work : WorkMemory) (apart : Apart p) where
  -- 0 is told exactly where the solve is accepted: no refusal has that number
  told_zero : (fits : Bool) → ((told_of (outcome_at place n before (solve (method_of fits p mode) limit)).answer counts maxima).number ≡ 0) ↔ Goes (solve (method_of fits p mode) limit)
  unfolding told_of proposal_of
  told_zero fits = go (solve (method_of fits p mode) limit) (problem_not_zero p mode fits limit apart)
    where
      go : (r : Answer) → ((k : ℕ) → r ≡ ended k → 0 < k) → ((told_of (outcome_at place n before r).answer counts maxima).number ≡ 0) ↔ Goes r
      go (going a) h = (λ _. (a, refl), λ _. refl)
      go (ended k) h = (λ e. let z = h k refl in absurd (omega arith), λ g. absurd (apart-runs _ g.1 refl))

  -- an accepted answer is told of a solve that goes through
  goes_accepted : (fits : Bool) (after : Lent) (a : Run PositionPcgResult ℕ) → outcome_at place n before (solve (method_of fits p mode) limit) ≡ outcome a after → Goes (solve (method_of fits p mode) limit) → (r : PositionPcgResult) × (a ≡ going r)
  unfolding proposal_of
  goes_accepted fits after a e (((flag, count, v), f), g) = let told = ap (λ (o : Outcome). o.answer) e in (result_of flag count f, sym (rw g at told))

  told_so : (fits : Bool) (after : Lent) (after-named : List ℕ) (told : Told) (a : Run PositionPcgResult ℕ) (workAfter : WorkMemory) → outcome_at place n before (solve (method_of fits p mode) limit) ≡ outcome a after → told ≡ told_of a counts maxima → After fits work workAfter
      → after-named ≡ named_by a p.rule n named → ((r : PositionPcgResult) → a ≡ going r → Ruled s p.table) → SolveTold fits s p mode limit place n before after named after-named counts maxima told work workAfter
  told_so fits after after-named told a workAfter e h w l ruled =
      record {
        answered = h ∙ ap (λ (o : Outcome). told_of o.answer counts maxima) (sym e);
        delivered = sym (ap (λ (o : Outcome). o.lent) e);
        means = subst (λ (o : Outcome). MeaningAt (method_of fits p mode) limit place n before o.answer after) (sym e) (entry_means (method_of fits p mode) limit place n before after a e);
        in_place = problem_in_place p mode fits limit apart;
        zero = subst (λ (x : ℕ). (x ≡ 0) ↔ Goes (solve (method_of fits p mode) limit)) (sym (ap (λ (x : Told). x.number) (h ∙ ap (λ (o : Outcome). told_of o.answer counts maxima) (sym e)))) (told_zero fits);
        named = l ∙ ap (λ (o : Outcome). named_by o.answer p.rule n named) (sym e);
        ruled = λ g. let (r, c) = goes_accepted fits after a e g in ruled r c;
        memory = w;
      }

  -- ---- the slices that take the answer
  module _ (b told rest : Bool) (e : b ≡ told) where
    unfit : not b ≡ true → (told && rest) ≡ false
    unfit h = ap (λ (x : Bool). x && rest) (sym e ∙ not-true b h)

    fit : not b ≡ false → rest ≡ (told && rest)
    fit h = sym (ap (λ (x : Bool). x && rest) (sym e ∙ not-false b h))

    untouched : not b ≡ true → After (told && rest) work work
    untouched h = record { emptied = λ q. absurd (let z : true ≡ false = sym q ∙ unfit h in let y : ◌≡◌ {A = ℕ} 0 1 = cc in omega arith); untouched = λ _. refl }

    pub untold : not b ≡ true → SolveTold (told && rest) s p mode limit place n before before named named counts maxima (record { number = 3; counts = counts; maxima = maxima }) work work
    unfolding told_of
    untold h = told_so (told && rest) before named (record { number = 3; counts = counts; maxima = maxima }) (ended 3) work (entry_refused p mode place n limit before false (told && rest) (sym (unfit h)) refl) refl (untouched h) refl (λ r a. absurd (let z : ◌≡◌ {A = ℕ} 0 1 = cc in omega arith))

    pub told_on : (after : Lent) (after-named : List ℕ) (r : Told) (a : Run PositionPcgResult ℕ) (workAfter : WorkMemory) → not b ≡ false → SolveRuled rest s p mode limit place n before after named after-named a work workAfter → r ≡ told_of a counts maxima
        → SolveTold (told && rest) s p mode limit place n before after named after-named counts maxima r work workAfter
    told_on after after-named r a workAfter h q w = rw (← fit h) (told_so rest after after-named r a workAfter q.held.answered w q.held.memory q.named q.ruled)

-- where the two slices fit, each has two places
pub told_lengths : (counts : List ℕ) (maxima : List Float) (b : Bool) → b ≡ told_fits counts maxima → not b ≡ false → (length counts ≡ 2) × (length maxima ≡ 2)
unfolding told_fits
told_lengths counts maxima b e h =
    let (c, m) = both (eqb (length counts) 2) (eqb (length maxima) 2) (sym e ∙ not-false b h) in
    (eqb-true (length counts) 2 c, eqb-true (length maxima) 2 m)

-- ---- `tell`
pub both_set : {X : Type 0} (xs : List X) (a b : X) → length xs ≡ 2 → set (set xs 0 a) 1 b ≡ a ∷ b ∷ []
both_set [] a b e = absurd (omega arith)
both_set (x ∷ []) a b e = absurd (omega arith)
both_set (x ∷ y ∷ []) a b e = refl
both_set (x ∷ y ∷ z ∷ zs) a b e = absurd (omega arith)

flag_byte : (b : Bool) → bool_byte b ≡ cond b 1 0
flag_byte true = refl
flag_byte false = refl

module _ (a : Run PositionPcgResult ℕ) (counts : List ℕ) (maxima : List Float) where
  pub told_accepted : (r : PositionPcgResult) → a ≡ going r → (length counts ≡ 2) × (length maxima ≡ 2)
      → record { number = 0; counts = set (set counts 0 r.iterations) 1 (bool_byte r.converged); maxima = set (set maxima 0 r.linear_residual_m) 1 r.angular_residual_rad } ≡ told_of a counts maxima
  unfolding told_of
  told_accepted r e (hc, hm) = rw (e, flag_byte r.converged, both_set counts r.iterations (cond r.converged 1 0) hc, both_set maxima r.linear_residual_m r.angular_residual_rad hm)

  pub told_refused : (number : ℕ) → a ≡ ended number → record { number = number; counts = counts; maxima = maxima } ≡ told_of a counts maxima
  unfolding told_of
  told_refused number e = rw e
