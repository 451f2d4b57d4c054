-- What the code computes (`solve`) and what the papers say (the steps, and what turns a job back) are the same: accepted so exactly where the steps have it so, refused with n exactly where n turns the job back. Assumes nothing.
use Prim.Native.Nat.{ℕ}
use mathlib.Core.Bool.{Bool}
use mathlib.Core.Logic.{◌↔◌, ⊎_elim}
use mathlib.Core.Path.{◌∙◌, ◌≡◌, refl, subst}
use Rattle.loops.proofs.Inverse.{apart, going_inj, next_ended, next_going, saw}
use Rattle.loops.proofs.Loop.{on_ended, on_going}
use Rattle.loops.specs.Run.{Goes, Run, ended, going, next}
use Rattle.steps.proofs.Count.{Counts, Stopped, counted_counting, counts, stopped_counting}
use Rattle.steps.specs.Meaning.{Accepted, Meaning, TurnsBack}
use Rattle.steps.specs.Meaning.TurnsBack.{in_advancing, in_beginning, in_finishing, in_opening, in_renewing}
use Rattle.steps.specs.Method.{Method}
use Rattle.steps.specs.Solve.{counting, deliver, solve}
use Rattle.steps.proofs.Count.Stopped.{at_begin, at_renewal, at_step}

module _ {S C F : Type 0} (m : Method S C F) (limit : ℕ) where
  turned : (n : ℕ) → Stopped m limit n → m.opening limit ≡ going tt → TurnsBack m limit n
  turned n (at_begin h) o = in_beginning o h
  turned n (at_renewal h) o = in_renewing o h
  turned n (at_step h) o = in_advancing o h

  -- the answer is accepted with this flag, count, step and delivery exactly where document 01 has it so
  pub accepted_iff : (flag : Bool) (count : ℕ) (v : S) (f : F) → (solve m limit ≡ going ((flag, count, v), f)) ↔ Accepted m limit flag count v f
  unfolding solve
  accepted_iff flag count v f = (there, back)
    where
      there : solve m limit ≡ going ((flag, count, v), f) → Accepted m limit flag count v f
      there h =
          let (o, p, q) = (next_going (m.opening limit) _ _).0 h in
          let (a, r, s) = (next_going (counting m limit) _ _).0 q in
          let (g, t, e) = (next_going (m.finish a.1 a.2) _ _).0 s in
          subst (λ x. Accepted m limit x.0.0 x.0.1 x.0.2 x.1) (going_inj e)
          (record { opened = p; counted = subst (Counts m limit) r (counts m limit); finished = t })

      back : Accepted m limit flag count v f → solve m limit ≡ going ((flag, count, v), f)
      back h = on_going _ _ _ h.opened ∙ (on_going _ _ _ (counted_counting m limit flag count v h.counted) ∙ on_going _ _ _ h.finished)

  -- it is refused with n exactly where n turns the job back
  pub refused_iff : (n : ℕ) → (solve m limit ≡ ended n) ↔ TurnsBack m limit n
  unfolding solve
  refused_iff n = (there, back)
    where
      finishing : m.opening limit ≡ going tt → (a : Bool × ℕ × S) → counting m limit ≡ going a → deliver m a ≡ ended n → TurnsBack m limit n
      finishing o a r h =
          ⊎_elim (λ t. in_finishing o (record { flag = a.0; count = a.1; step = a.2; counted = subst (Counts m limit) r (counts m limit); refused = t }))
          (λ t. absurd (apart _ refl t.2)) ((next_ended (m.finish a.1 a.2) _ n).0 h)

      counted_or : m.opening limit ≡ going tt → next (counting m limit) (deliver m) ≡ ended n → TurnsBack m limit n
      counted_or o h =
          ⊎_elim (λ r. turned n (subst (Counts m limit) r (counts m limit)) o) (λ r. finishing o r.0 r.1 r.2) ((next_ended (counting m limit) _ n).0 h)

      there : solve m limit ≡ ended n → TurnsBack m limit n
      there h = ⊎_elim in_opening (λ o. counted_or o.1 o.2) ((next_ended (m.opening limit) _ n).0 h)

      from : m.opening limit ≡ going tt → Stopped m limit n → solve m limit ≡ ended n
      from o h = on_going _ _ _ o ∙ on_ended _ _ _ (stopped_counting m limit n h)

      back : TurnsBack m limit n → solve m limit ≡ ended n
      back (in_opening h) = on_ended _ _ _ h
      back (in_beginning o h) = from o (at_begin h)
      back (in_renewing o h) = from o (at_renewal h)
      back (in_advancing o h) = from o (at_step h)
      back (in_finishing o h) =
          on_going _ _ _ o ∙ (on_going _ _ _ (counted_counting m limit h.flag h.count h.step h.counted) ∙ on_ended _ _ _ h.refused)

  -- it is accepted exactly when nothing turns it back
  pub accepts_iff : Goes (solve m limit) ↔ ((n : ℕ) → ¬ TurnsBack m limit n)
  accepts_iff = (λ g n t. apart _ g.1 ((refused_iff n).1 t), λ none. ⊎_elim (λ g. g) (λ r. absurd (none r.0 ((refused_iff r.0).0 r.1))) (saw (solve m limit)))

  -- whatever the answer, it means what it says
  pub means : (r : Run ((Bool × ℕ × S) × F) ℕ) → solve m limit ≡ r → Meaning m limit r
  means (going ((flag, count, v), f)) h = ((accepted_iff flag count v f).0 h, accepts_iff.0 (_, h))
  means (ended n) h = (refused_iff n).0 h
