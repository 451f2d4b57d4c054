-- The step counted, or the refusal that the count met: what is proposed of it, committed, and delivered. Assumes nothing.
use Prim.Native.Nat.{ℕ, zero, suc}
use mathlib.Core.Path.{◌≡◌, refl, ap, ◌∙◌}
use mathlib.Core.Bool.{Bool, true, false}
use mathlib.Core.List.{List}
use lib.ListN.{length}
use lib.Ieee.{Float}
use Rattle.loops.specs.Run.{going, on, next, Run, ended}
use Rattle.loops.proofs.Loop.{on_going, on_ended}
use Rattle.kapitsa_joint.specs.Table.{Table, table_of}
use Rattle.kapitsa_joint.specs.Centre.{Centres}
use Rattle.recurrence.specs.Step.{Iterate}
use Rattle.position.specs.Multipliers.{accumulated_in, gained}
use Rattle.position_iteration.specs.Standing.{iterated_out}
use Rattle.position_iteration.specs.Stands.{StandsAfter, Stands}
use Rattle.std.specs.Prelude.{Option, Some, None, is_some, unwrap_or, Result, Ok, Err, IsErrAnd}
use Rattle.refusals.specs.Number.{number_of}
use Rattle.refusals.specs.Told.{told}
use Rattle.refusals.specs.declared.Refusal.{Refusal}
use Rattle.refusals.proofs.Again.{told_again}
use Rattle.position_delivery.specs.Delivery.{gained_after, committed_by, finished_of}
use Rattle.position_delivery.specs.Outcome.{Answer, Proposal, proposal_of, committed_of, outcome_at}
use Rattle.position_delivery.specs.declared.answer.PositionPcgResult.{PositionPcgResult}
use Rattle.position_delivery.proofs.Deliveries.{commits}

abbrev step : List Float → List Float → Iterate
step x r = record { solution = x; residual = r }

-- ---- `propose`: flag and count by the step that met, or the limit
module _ (limit : ℕ) (pending residual : List Float) (a : Result (Option ℕ) Refusal) where
  by_step : (o : Option ℕ) → a ≡ Ok o → iterated_out a limit pending residual ≡ going (is_some o, unwrap_or o limit, step pending residual)
  by_step (Some k) e = rw e
  by_step None e = rw e

  pub counted_step : (t : Table) (accumulated : ℕ → Float) (c : Centres) (solution impulses new : List Float) (r : Proposal) (o : Option ℕ) {flag : Bool} {count : ℕ} → a ≡ Ok o → flag ≡ is_some o → count ≡ unwrap_or o limit
      → proposal_of solution impulses new (finished_of t accumulated c (flag, count, step pending residual)) ≡ r
      → proposal_of solution impulses new (next (iterated_out a limit pending residual) (finished_of t accumulated c)) ≡ r
  counted_step t accumulated c solution impulses new r o e f k h =
      ap (proposal_of solution impulses new) (on_going _ _ _ {s = (is_some o, unwrap_or o limit, step pending residual)} (by_step o e)) ∙ rw (f, k) at h

  -- a refusal that `?` passes on
  pub counted_refused : (t : Table) (accumulated : ℕ → Float) (c : Centres) (solution impulses new : List Float) (e : Refusal) (b : Result PositionPcgResult Refusal) → a ≡ Err e → IsErrAnd b (λ y. y ≡ e)
      → proposal_of solution impulses new (next (iterated_out a limit pending residual) (finished_of t accumulated c)) ≡ record { answer = told b; solution = solution; impulses = impulses; centres = new }
  unfolding proposal_of
  counted_refused t accumulated c solution impulses new e b q h = ap (proposal_of solution impulses new) (on_ended _ _ _ {a = number_of e} (rw q)) ∙ rw (told_again b e h)

-- the system stands at the step
pub counted_stands : {t : Table} {masses jacobians : List Float} {links : List ℕ} (a : Result (Option ℕ) Refusal) (o : Option ℕ) → StandsAfter t masses a jacobians links → a ≡ Ok o → Stands t masses jacobians links
counted_stands a (Some k) h e = h.met k e
counted_stands a None h e = h.spent e

-- ---- `gain_after`
module _ (place count : ℕ) (numbers solution : List Float) where
  pub gains_none : count ≡ 0 → numbers ≡ gained_after place count numbers solution
  unfolding gained_after
  gains_none z = rw z

  pub gains_some : (after : List Float) → (count ≡ 0 → ⊥) → after ≡ gained place numbers solution (length solution) → after ≡ gained_after place count numbers solution
  gains_some after z g = g ∙ by count z
    where
      by : (k : ℕ) → (k ≡ 0 → ⊥) → gained place numbers solution (length solution) ≡ gained_after place k numbers solution
      by zero z = absurd (z refl)
      by (suc k) z = unfold gained_after in refl

-- ---- `commit`
module _ (place : ℕ) (answer : Run PositionPcgResult ℕ) (numbers solution : List Float) where
  pub commit_gains : (r : PositionPcgResult) (after : List Float) → answer ≡ going r → after ≡ gained_after place r.iterations numbers solution → after ≡ committed_by place answer numbers solution
  unfolding committed_by
  commit_gains r after e g = g ∙ rw e

  pub commit_refused : (k : ℕ) → answer ≡ ended k → numbers ≡ committed_by place answer numbers solution
  unfolding committed_by
  commit_refused k e = rw e

-- ---- both halves: what is proposed, and what its commit leaves
module _ (place : ℕ) (numbers masses : List Float) (words : List ℕ) (rows bodies : ℕ) (c : Centres) (limit : ℕ) (pending residual : List Float) (long : length pending ≡ rows) (solution impulses new : List Float) where
  abbrev table : Table
  table = table_of rows bodies numbers words masses

  abbrev answered : Result (Option ℕ) Refusal → Answer
  answered a = next (iterated_out a limit pending residual) (finished_of table (accumulated_in place numbers) c)

  commits_counted : (a : Result (Option ℕ) Refusal) → committed_of place rows numbers (answered a) ≡ committed_by place (proposal_of solution impulses new (answered a)).answer numbers (proposal_of solution impulses new (answered a)).solution
  unfolding on proposal_of committed_of committed_by
  commits_counted (Ok (Some k)) = commits place numbers masses words rows bodies true pending residual c k solution impulses new long
  commits_counted (Ok None) = commits place numbers masses words rows bodies false pending residual c limit solution impulses new long
  commits_counted (Err e) = refl

  pub delivered_both : (a : Result (Option ℕ) Refusal) (r : Run PositionPcgResult ℕ) (numbers₁ solution₁ impulses₁ new₁ : List Float) → proposal_of solution impulses new (answered a) ≡ record { answer = r; solution = solution₁; impulses = impulses₁; centres = new₁ } → numbers₁ ≡ committed_by place r numbers solution₁
      → outcome_at place rows record { numbers = numbers; solution = solution; impulses = impulses; centres = new } (answered a) ≡ record { answer = r; lent = record { numbers = numbers₁; solution = solution₁; impulses = impulses₁; centres = new₁ } }
  delivered_both a r numbers₁ solution₁ impulses₁ new₁ p e = rw (commits_counted a, p, e)
