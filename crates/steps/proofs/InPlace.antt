-- Each refusal turns a job back exactly in its place, no other number is given, and a solve is accepted exactly where none does. Assumes nothing.
use Prim.Native.Nat.{◌+◌, ◌<◌, suc, zero, ℕ}
use mathlib.Core.Bool.{false, true, true≢false}
use mathlib.Core.List.{◌++◌}
use mathlib.Core.Logic.{◌↔◌, ◌⊎◌, inl, inr, ⊎_elim}
use mathlib.Core.Path.{◌∙◌, ◌≡◌, refl, subst, sym}
use native.Mathlib.Omega.{arith}
use borrow.Author.Count.{below_more, below_none}
use Rattle.loops.proofs.Inverse.{apart, next_ended, next_going, saw}
use Rattle.loops.proofs.Loop.{on_ended, on_going}
use Rattle.loops.proofs.Numbers.{in_left, in_right, in_split, in_two, once_right, one_place}
use Rattle.loops.specs.Numbers.{In, once, stands}
use Rattle.loops.specs.Run.{Goes, ended, on}
use Rattle.steps.proofs.Answer.{refused_iff}
use Rattle.steps.proofs.Steps.{miss, missed, ready_first, step_after}
use Rattle.steps.specs.InPlace.{InPlace, NoneTurnsBack}
use Rattle.steps.specs.Meaning.{Advancing, Finishing, Renewing, TurnsBack}
use Rattle.steps.specs.Meaning.TurnsBack.{in_advancing, in_beginning, in_finishing, in_opening, in_renewing}
use Rattle.steps.specs.Method.{Method}
use Rattle.steps.specs.Numbers.{Factoring, InBegin, InFactor, InOpening, Numbers, Passed, Places, TurnsBack14, TurnsBack15, TurnsBack16, TurnsBack17, advancing, late, order_of, renewing}
use Rattle.steps.specs.Solve.{solve}
use Rattle.steps.specs.Steps.{AllMiss, ready, step_at}

-- ---- 14 to 17
in14 : In 14 late
unfolding stands
in14 = refl

in15 : In 15 late
unfolding stands
in15 = refl

in16 : In 16 late
unfolding stands
in16 = refl

in17 : In 17 late
unfolding stands
in17 = refl

same_late : (n k : ℕ) → n ≡ k → In k late → In n late
same_late n k e h = subst (λ i. In i late) (sym e) h

renewed_late : (n : ℕ) → In n renewing → In n late
renewed_late n h = ⊎_elim (λ e. same_late n 14 e in14) (λ e. same_late n 16 e in16) (in_two n 14 16 h)

advanced_late : (n : ℕ) → In n advancing → In n late
advanced_late n h = ⊎_elim (λ e. same_late n 15 e in15) (λ e. same_late n 16 e in16) (in_two n 15 16 h)

finished_late : (n : ℕ) → n ≡ 17 → In n late
finished_late n e = same_late n 17 e in17

module _ {S C F : Type 0} (m : Method S C F) (p : Places) (numbers : Numbers m p) (limit : ℕ) where
  -- ---- the numbers of each place

  -- where a renewal is refused, it is step 0's or a later one's
  renewal : (n : ℕ) → Renewing m limit n → Factoring m n ⊎ In n renewing
  unfolding ready step_at
  renewal n h = go h.step h.missed h.refused
    where
      go : (k : ℕ) → AllMiss m (k + 1) → ready m k ≡ ended n → Factoring m n ⊎ In n renewing
      go zero all r =
          let (v, s, f) = missed m 0 (all 0 (omega arith)) in
          let d : m.first v ≡ ended n = ⊎_elim (λ d. d) (λ d. absurd (apart _ refl d.2)) ((next_ended (m.first v) _ n).0 (sym (on_going _ _ _ s) ∙ r)) in
          inl (record { step = v; made = s; misses = f; refused = d })
      go (suc k) all r =
          let (v, s, f) = missed m (suc k) (all (suc k) (omega arith)) in
          let (u, e, a) = (next_going (ready m k) _ v).0 s in
          let q = sym (on_going _ _ _ a) ∙ (sym (on_going _ _ _ e) ∙ r) in
          let (w, c, b, g) = ready_first m k u e in
          inr (numbers.renew w v u.1 n b (c, g) (⊎_elim (λ d. d) (λ d. absurd (apart _ refl d.2)) ((next_ended (m.steps.renew v u.1) _ n).0 q)))

  opening_number : (n : ℕ) → m.opening limit ≡ ended n → In n p.opening
  opening_number n h = numbers.opening limit n h

  begin_number : (n : ℕ) → step_at m 0 ≡ ended n → In n p.begin
  unfolding step_at
  begin_number n h = numbers.begin n h

  factoring_number : (n : ℕ) → Factoring m n → In n (p.factor ++ renewing)
  unfolding step_at
  factoring_number n h = numbers.first h.step n h.made h.refused

  advance_number : (n : ℕ) → Advancing m limit n → In n advancing
  advance_number n h = let (u, r) = h.renewed in numbers.advance u.0 u.1 n (sym (step_after m h.step u r) ∙ h.refused)

  finish_number : (n : ℕ) → Finishing m limit n → n ≡ 17
  finish_number n h = numbers.finish h.count h.step n h.refused

  -- the factor's, or 14 or 16
  renewal_number : (n : ℕ) → Renewing m limit n → (In n p.factor × Factoring m n) ⊎ In n renewing
  renewal_number n h = ⊎_elim (λ f. ⊎_elim (λ q. inl (q, f)) inr (in_split n p.factor renewing (factoring_number n f))) inr (renewal n h)

  -- ---- each number has one place

  after_begin : once (p.begin ++ (p.factor ++ late)) ≡ true
  after_begin = once_right p.opening _ numbers.apart

  not_before : (n : ℕ) → In n p.opening → In n (p.begin ++ (p.factor ++ late)) → ⊥
  not_before n = one_place n p.opening _ numbers.apart

  not_begun : (n : ℕ) → In n p.begin → In n (p.factor ++ late) → ⊥
  not_begun n = one_place n p.begin _ after_begin

  not_factored : (n : ℕ) → In n p.factor → In n late → ⊥
  not_factored n = one_place n p.factor _ (once_right p.begin _ after_begin)

  of_late : (n : ℕ) → In n late → In n (p.factor ++ late)
  of_late n = in_right n p.factor late

  of_factor : (n : ℕ) → In n p.factor → In n (p.factor ++ late)
  of_factor n = in_left n p.factor late

  of_after : (n : ℕ) → In n (p.factor ++ late) → In n (p.begin ++ (p.factor ++ late))
  of_after n = in_right n p.begin _

  of_renewal : (n : ℕ) → Renewing m limit n → In n (p.factor ++ late)
  of_renewal n h = ⊎_elim (λ q. of_factor n q.0) (λ q. of_late n (renewed_late n q)) (renewal_number n h)

  of_advance : (n : ℕ) → Advancing m limit n → In n (p.factor ++ late)
  of_advance n h = of_late n (advanced_late n (advance_number n h))

  of_finish : (n : ℕ) → Finishing m limit n → In n (p.factor ++ late)
  of_finish n h = of_late n (finished_late n (finish_number n h))

  -- ---- each number exactly in its place

  by_place : {n : ℕ} {P : Type 0} → (TurnsBack m limit n → P) → (P → TurnsBack m limit n) → (solve m limit ≡ ended n) ↔ P
  by_place {n} there back = (λ h. there ((refused_iff m limit n).0 h), λ q. (refused_iff m limit n).1 (back q))

  at_opening : (n : ℕ) → In n p.opening → (solve m limit ≡ ended n) ↔ InOpening m limit n
  at_opening n i = by_place there in_opening
    where
      there : TurnsBack m limit n → InOpening m limit n
      there (in_opening h) = h
      there (in_beginning o h) = absurd (not_before n i (in_left n p.begin _ (begin_number n h)))
      there (in_renewing o h) = absurd (not_before n i (of_after n (of_renewal n h)))
      there (in_advancing o h) = absurd (not_before n i (of_after n (of_advance n h)))
      there (in_finishing o h) = absurd (not_before n i (of_after n (of_finish n h)))

  at_begin : (n : ℕ) → In n p.begin → (solve m limit ≡ ended n) ↔ InBegin m limit n
  at_begin n i = by_place there (λ h. in_beginning h.opened h.then)
    where
      there : TurnsBack m limit n → InBegin m limit n
      there (in_opening h) = absurd (not_before n (opening_number n h) (in_left n p.begin _ i))
      there (in_beginning o h) = record { opened = o; then = h }
      there (in_renewing o h) = absurd (not_begun n i (of_renewal n h))
      there (in_advancing o h) = absurd (not_begun n i (of_advance n h))
      there (in_finishing o h) = absurd (not_begun n i (of_finish n h))

  -- step 0 is renewed like any other step that misses
  factoring_renews : (n : ℕ) → Factoring m n → Renewing m limit n
  unfolding ready on step_at
  factoring_renews n h =
      record {
        step = 0;
        within = omega arith;
        missed = below_more _ 0 (below_none _) (miss m 0 h.step h.made h.misses);
        refused = on_going _ _ _ h.made ∙ on_ended _ _ _ h.refused;
      }

  at_factor : (n : ℕ) → In n p.factor → (solve m limit ≡ ended n) ↔ InFactor m limit n
  at_factor n i = by_place there (λ h. in_renewing h.opened (factoring_renews n h.then))
    where
      there : TurnsBack m limit n → InFactor m limit n
      there (in_opening h) = absurd (not_before n (opening_number n h) (of_after n (of_factor n i)))
      there (in_beginning o h) = absurd (not_begun n (begin_number n h) (of_factor n i))
      there (in_renewing o h) = record { opened = o; then = ⊎_elim (λ q. q.1) (λ q. absurd (not_factored n i (renewed_late n q))) (renewal_number n h) }
      there (in_advancing o h) = absurd (not_factored n i (advanced_late n (advance_number n h)))
      there (in_finishing o h) = absurd (not_factored n i (finished_late n (finish_number n h)))

  -- 14 to 17 come from the steps or from the end
  from_late : (n : ℕ) {P : Type 0} → In n late → (Renewing m limit n ⊎ (Advancing m limit n ⊎ Finishing m limit n) → P) → TurnsBack m limit n → Passed m limit P
  from_late n l f (in_opening h) = absurd (not_before n (opening_number n h) (of_after n (of_late n l)))
  from_late n l f (in_beginning o h) = absurd (not_begun n (begin_number n h) (of_late n l))
  from_late n l f (in_renewing o h) = record { opened = o; then = f (inl h) }
  from_late n l f (in_advancing o h) = record { opened = o; then = f (inr (inl h)) }
  from_late n l f (in_finishing o h) = record { opened = o; then = f (inr (inr h)) }

  not_advanced : (n : ℕ) → ¬ (n ≡ 15) → ¬ (n ≡ 16) → Advancing m limit n → ⊥
  not_advanced n a b h = ⊎_elim a b (in_two n 15 16 (advance_number n h))

  not_renewed : (n : ℕ) → In n late → ¬ (n ≡ 14) → ¬ (n ≡ 16) → Renewing m limit n → ⊥
  not_renewed n l a b h = ⊎_elim (λ q. not_factored n q.0 l) (λ q. ⊎_elim a b (in_two n 14 16 q)) (renewal_number n h)

  at14 : (solve m limit ≡ ended 14) ↔ TurnsBack14 m limit
  at14 = by_place (from_late 14 in14 there) (λ h. in_renewing h.opened h.then)
    where
      there : Renewing m limit 14 ⊎ (Advancing m limit 14 ⊎ Finishing m limit 14) → Renewing m limit 14
      there (inl h) = h
      there (inr (inl h)) = absurd (not_advanced 14 (λ e. omega arith) (λ e. omega arith) h)
      there (inr (inr h)) = let q = finish_number 14 h in absurd (omega arith)

  at15 : (solve m limit ≡ ended 15) ↔ TurnsBack15 m limit
  at15 = by_place (from_late 15 in15 there) (λ h. in_advancing h.opened h.then)
    where
      there : Renewing m limit 15 ⊎ (Advancing m limit 15 ⊎ Finishing m limit 15) → Advancing m limit 15
      there (inl h) = absurd (not_renewed 15 in15 (λ e. omega arith) (λ e. omega arith) h)
      there (inr (inl h)) = h
      there (inr (inr h)) = let q = finish_number 15 h in absurd (omega arith)

  at16 : (solve m limit ≡ ended 16) ↔ TurnsBack16 m limit
  at16 = by_place (from_late 16 in16 there) (λ h. ⊎_elim (in_renewing h.opened) (in_advancing h.opened) h.then)
    where
      there : Renewing m limit 16 ⊎ (Advancing m limit 16 ⊎ Finishing m limit 16) → Renewing m limit 16 ⊎ Advancing m limit 16
      there (inl h) = inl h
      there (inr (inl h)) = inr h
      there (inr (inr h)) = let q = finish_number 16 h in absurd (omega arith)

  at17 : (solve m limit ≡ ended 17) ↔ TurnsBack17 m limit
  at17 = by_place (from_late 17 in17 there) (λ h. in_finishing h.opened h.then)
    where
      there : Renewing m limit 17 ⊎ (Advancing m limit 17 ⊎ Finishing m limit 17) → Finishing m limit 17
      there (inl h) = absurd (not_renewed 17 in17 (λ e. omega arith) (λ e. omega arith) h)
      there (inr (inl h)) = absurd (not_advanced 17 (λ e. omega arith) (λ e. omega arith) h)
      there (inr (inr h)) = h

  -- no other number is given
  only : (n : ℕ) → solve m limit ≡ ended n → In n (order_of p)
  only n h = go ((refused_iff m limit n).0 h)
    where
      after : In n (p.factor ++ late) → In n (order_of p)
      after q = in_right n p.opening _ (of_after n q)

      go : TurnsBack m limit n → In n (order_of p)
      go (in_opening h) = in_left n p.opening _ (opening_number n h)
      go (in_beginning o h) = in_right n p.opening _ (in_left n p.begin _ (begin_number n h))
      go (in_renewing o h) = after (of_renewal n h)
      go (in_advancing o h) = after (of_advance n h)
      go (in_finishing o h) = after (of_finish n h)

  -- Demand 3: a solve "is accepted exactly when none of these papers' refusals, each judged in its place, turns it back".
  accepted_exactly : Goes (solve m limit) ↔ NoneTurnsBack m p limit
  accepted_exactly = (there, back)
    where
      there : Goes (solve m limit) → NoneTurnsBack m p limit
      there g = record {
        not_opening = λ n i t. apart _ g.1 ((at_opening n i).1 t);
        not_begin = λ n i t. apart _ g.1 ((at_begin n i).1 t);
        not_factor = λ n i t. apart _ g.1 ((at_factor n i).1 t);
        not14 = λ t. apart _ g.1 (at14.1 t);
        not15 = λ t. apart _ g.1 (at15.1 t);
        not16 = λ t. apart _ g.1 (at16.1 t);
        not17 = λ t. apart _ g.1 (at17.1 t);
      }

      turned : NoneTurnsBack m p limit → (n : ℕ) → TurnsBack m limit n → ⊥
      turned none n (in_opening h) = none.not_opening n (opening_number n h) h
      turned none n (in_beginning o h) = none.not_begin n (begin_number n h) (record { opened = o; then = h })
      turned none n (in_renewing o h) =
          ⊎_elim (λ q. none.not_factor n q.0 (record { opened = o; then = q.1 }))
          (λ q. ⊎_elim (λ e. none.not14 (record { opened = o; then = subst (λ k. Renewing m limit k) e h })) (λ e. none.not16 (record { opened = o; then = inl (subst (λ k. Renewing m limit k) e h) })) (in_two n 14 16 q))
          (renewal_number n h)
      turned none n (in_advancing o h) =
          ⊎_elim (λ e. none.not15 (record { opened = o; then = subst (λ k. Advancing m limit k) e h })) (λ e. none.not16 (record { opened = o; then = inr (subst (λ k. Advancing m limit k) e h) }))
          (in_two n 15 16 (advance_number n h))
      turned none n (in_finishing o h) = none.not17 (record { opened = o; then = subst (λ k. Finishing m limit k) (finish_number n h) h })

      back : NoneTurnsBack m p limit → Goes (solve m limit)
      back none = ⊎_elim (λ g. g) (λ r. absurd (turned none r.0 ((refused_iff m limit r.0).0 r.1))) (saw (solve m limit))

  pub in_place : InPlace m p limit
  in_place = record {
    at_opening = at_opening;
    at_begin = at_begin;
    at_factor = at_factor;
    at14 = at14;
    at15 = at15;
    at16 = at16;
    at17 = at17;
    only = only;
    accepted = accepted_exactly;
  }

-- 0 is no refusal where it has no place
pub refusal_not_zero : {S C F : Type 0} (m : Method S C F) (p : Places) (limit : ℕ) → InPlace m p limit → stands 0 (order_of p) ≡ false → (n : ℕ) → solve m limit ≡ ended n → 0 < n
refusal_not_zero m p limit h none zero e = absurd (true≢false (sym (h.only 0 e) ∙ none))
refusal_not_zero m p limit h none (suc n) e = omega arith
