-- An accepted solve leaves six doubles a body of impulses, and three of a centre where there are centres. Assumes nothing.
use Prim.Native.Nat.{ℕ, zero, suc, ◌*◌}
use mathlib.Core.Path.{◌≡◌, sym, ap, subst, ◌∙◌}
use mathlib.Core.Bool.{Bool}
use lib.ListN.{length, length-replicate}
use lib.Ieee.{Float}
use Rattle.loops.specs.Cleared.{plus_zero}
use Rattle.loops.specs.Run.{going, Run}
use Rattle.loops.proofs.Inverse.{going_inj, next_going}
use Rattle.kapitsa_joint.specs.Table.{Table}
use Rattle.kapitsa_joint.specs.Centre.{Centres}
use Rattle.kapitsa_joint.proofs.Centres.{flat_centres_long}
use Rattle.mass_operator.specs.Flat.{impulses_of}
use Rattle.mass_operator.proofs.Flat.{flat_length}
use Rattle.preconditioner.specs.declared.mode.Mode.{Mode}
use Rattle.recurrence.specs.Step.{Iterate}
use Rattle.position.specs.Problem.{Problem}
use Rattle.solve_method.specs.Method.{Delivered, finish_of, method_of}
use Rattle.position_delivery.specs.Outcome.{Lent, MeaningAt}
use Rattle.position_delivery.specs.declared.answer.PositionPcgResult.{PositionPcgResult}

-- what is delivered of any step
finish_long : (t : Table) (accumulated : ℕ → Float) (c : Centres) (k : ℕ) (v : Iterate) (f : Delivered) → finish_of t accumulated c k v ≡ going f → (length f.impulses ≡ 6 * t.bodies) × (length f.centres ≡ 3 * c.bodies)
unfolding finish_of impulses_of
finish_long t accumulated c zero v f e =
    let d = sym (going_inj e) in
    (ap (λ (x : Delivered). length x.impulses) d ∙ length-replicate (6 * t.bodies) plus_zero, ap (λ (x : Delivered). length x.centres) d ∙ flat_centres_long c)
finish_long t accumulated c (suc k) v f e =
    let (_, _, x) = (next_going _ _ f).0 e in
    let (_, _, y) = (next_going _ _ f).0 x in
    let (_, _, z) = (next_going _ _ f).0 y in
    let d = sym (going_inj z) in
    (ap (λ (x : Delivered). length x.impulses) d ∙ flat_length _ t.bodies, ap (λ (x : Delivered). length x.centres) d ∙ flat_centres_long _)

-- by what an accepted answer means
pub accepted_long : (fits : Bool) (s : Problem) (mode : Mode) (limit place n : ℕ) (before after : Lent) (answer : Run PositionPcgResult ℕ) (r : PositionPcgResult) → MeaningAt (method_of fits s mode) limit place n before answer after → answer ≡ going r
    → (length after.impulses ≡ 6 * s.table.bodies) × (length after.centres ≡ 3 * s.centres.bodies)
accepted_long fits s mode limit place n before after answer r m e =
    let a = subst (λ (x : Run PositionPcgResult ℕ). MeaningAt (method_of fits s mode) limit place n before x after) e m in
    let (i, c) = finish_long s.table s.accumulated s.centres r.iterations a.step a.delivered a.accepted.finished in
    (ap (λ (l : Lent). length l.impulses) a.lent_is ∙ i, ap (λ (l : Lent). length l.centres) a.lent_is ∙ c)
