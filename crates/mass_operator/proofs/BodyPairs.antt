-- The two bodies of the rows at hand are held apart from the slice; with what is held put back, the slice has the impulses of all rows so far. Assumes nothing.
use Prim.Native.Nat.{ℕ, ◌+◌, ◌*◌, ◌<◌, ◌≤◌}
use mathlib.Core.Path.{◌≡◌, refl, sym, ap, ◌∙◌, subst}
use mathlib.Core.Bool.{Bool, true, false, cond, not}
use mathlib.Core.List.{List}
use native.Mathlib.Numerals.{add-one}
use native.Mathlib.Omega.{arith}
use lib.Dec.{eqb}
use lib.ListN.{length, get_or}
use lib.Ieee.{Float}
use borrow.Author.Tests.{eqb-true, eqb-false, eq-eqb, ne_eqb, not-false}
use Rattle.loops.proofs.Both.{both}
use Rattle.kapitsa_joint.specs.Impulse.{paired_of, put_paired_of}
use Rattle.kapitsa_joint.specs.declared.row.RowJacobian.{RowJacobian}
use Rattle.kapitsa_joint.specs.declared.impulse.GeneralizedImpulse.{GeneralizedImpulse}
use Rattle.kapitsa_joint.proofs.Stored.{put_paired_length}
use Rattle.compact_table.specs.Compact.{compact_of, Linked}
use Rattle.mass_operator.specs.Operator.{add_impulse_of, add_row_of, impulse_at, row_value_of}
use Rattle.mass_operator.specs.Lent.{Summing, value_in}
use Rattle.mass_operator.specs.BodyPair.{body_pair_of, put_body_pair_of, on_bodies, added_row, Holding, RunAdded}
use Rattle.mass_operator.specs.declared.body_pair.BodyPair.{BodyPair}
use Rattle.mass_operator.proofs.Sums.{put_at}

-- ---- the test of a row's bodies
on_true : (links : List ℕ) (i : ℕ) (p : BodyPair) → on_bodies links i p ≡ true → (get_or links (2 * i) 0 ≡ p.body_a) × (get_or links (2 * i + 1) 0 ≡ p.body_b)
unfolding on_bodies
on_true links i p h =
    let (s, t) = both (eqb (get_or links (2 * i) 0) p.body_a) (eqb (get_or links (2 * i + 1) 0) p.body_b) h in
    (eqb-true _ _ s, eqb-true _ _ t)

-- ---- what a slice has for two bodies
module _ (links : List ℕ) (i : ℕ) (p : BodyPair) (l : List Float) where
  pub held_is : {r : Bool} → p.of_a ≡ paired_of l p.body_a → p.of_b ≡ paired_of l p.body_b → r ≡ on_bodies links i p → r ≡ true → p ≡ body_pair_of links i l
  unfolding body_pair_of
  held_is a b e h = let (ea, eb) = on_true links i p (sym e ∙ h) in rw (ea, eb, ← a, ← b)

  pub pair_holds : p ≡ body_pair_of links i l → (p.of_a ≡ paired_of l p.body_a) × (p.of_b ≡ paired_of l p.body_b)
  unfolding body_pair_of
  pair_holds e = rw e (refl, refl)

-- ---- putting back
module _ (l : List Float) (p : BodyPair) where
  pub put_pair_length : length (put_body_pair_of l p) ≡ length l
  unfolding put_body_pair_of
  put_pair_length = put_paired_length (put_paired_of l p.body_a p.of_a) p.body_b p.of_b ∙ put_paired_length l p.body_a p.of_a

  put_pair_at : (c : ℕ) → 6 * p.body_a + 6 ≤ length l → 6 * p.body_b + 6 ≤ length l
      → paired_of (put_body_pair_of l p) c ≡ cond (eqb p.body_b c) p.of_b (cond (eqb p.body_a c) p.of_a (paired_of l c))
  unfolding put_body_pair_of
  put_pair_at c s t =
      let e = put_paired_length l p.body_a p.of_a in
      put_at (put_paired_of l p.body_a p.of_a) p.body_b p.of_b c (omega arith) ∙ ap (λ (g : GeneralizedImpulse). cond (eqb p.body_b c) p.of_b g) (put_at l p.body_a p.of_a c s)

-- ---- what is held and the slice
module _ {j : ℕ → RowJacobian} {x : ℕ → Float} {bodies : ℕ} where
  pub put_back : {i : ℕ} {l l' : List Float} {p : BodyPair} → Holding j x bodies i l p → l' ≡ put_body_pair_of l p → Summing j x bodies i l'
  put_back {i} {l} {p = p} h e = rw e (record {
    long = put_pair_length l p ∙ h.long;
    at = λ c t. put_pair_at l p c (omega (arith, h.long, h.below_a)) (omega (arith, h.long, h.below_b)) ∙ by c t (eqb p.body_a c) (eqb-true _ _) (eqb-false _ _) (eqb p.body_b c) (eqb-true _ _) (eqb-false _ _);
  })
    where
      by : (c : ℕ) → c < bodies → (s : Bool) → (s ≡ true → p.body_a ≡ c) → (s ≡ false → p.body_a ≡ c → ⊥) → (t : Bool) → (t ≡ true → p.body_b ≡ c) → (t ≡ false → p.body_b ≡ c → ⊥)
          → cond t p.of_b (cond s p.of_a (paired_of l c)) ≡ impulse_at j x c i
      by c k s a a' true b b' = h.of_b ∙ ap (λ (d : ℕ). impulse_at j x d i) (b refl)
      by c k true a a' false b b' = h.of_a ∙ ap (λ (d : ℕ). impulse_at j x d i) (a refl)
      by c k false a a' false b b' = h.others c k (a' refl) (b' refl)

  pub take_up : {i k rows : ℕ} {l : List Float} {links : List ℕ} {p : BodyPair} → Summing j x bodies i l → Linked links rows bodies → k < rows → p ≡ body_pair_of links k l → Holding j x bodies i l p
  unfolding body_pair_of
  take_up {k = k} h t s e = rw e (record {
    long = h.long;
    below_a = t.a k s;
    below_b = t.b k s;
    apart = eqb-false _ _ (t.apart k s);
    of_a = h.at _ (t.a k s);
    of_b = h.at _ (t.b k s);
    others = λ c q _ _. h.at c q;
  })

-- ---- one more row
row_at : (j : RowJacobian) (c : Float) (b : ℕ) (g : GeneralizedImpulse) {s t : Bool} → eqb j.body_a b ≡ s → eqb j.body_b b ≡ t
    → add_row_of j c b g ≡ cond t (add_impulse_of (cond s (add_impulse_of g j.linear_a j.angular_a c) g) j.linear_b j.angular_b c) (cond s (add_impulse_of g j.linear_a j.angular_a c) g)
unfolding add_row_of
row_at j c b g p q = rw (p, q)

module _ {j : ℕ → RowJacobian} {x : ℕ → Float} {bodies i : ℕ} {l : List Float} {p p' : BodyPair} (h : Holding j x bodies i l p) (a : (j i).body_a ≡ p.body_a) (b : (j i).body_b ≡ p.body_b) where
  pub row_added : p' ≡ added_row p (j i) (x i) → Holding j x bodies (i + 1) l p'
  unfolding added_row impulse_at
  row_added e = rw (e, add-one i) (record {
    long = h.long;
    below_a = h.below_a;
    below_b = h.below_b;
    apart = h.apart;
    of_a = rw (← h.of_a) (sym (row_at (j i) (x i) p.body_a p.of_a (eq-eqb _ _ a) (ne_eqb _ _ (λ q. h.apart (sym (sym b ∙ q))))));
    of_b = rw (← h.of_b) (sym (row_at (j i) (x i) p.body_b p.of_b (ne_eqb _ _ (λ q. h.apart (sym a ∙ q))) (eq-eqb _ _ b)));
    others = λ c k m n. h.others c k m n ∙ sym (row_at (j i) (x i) c (impulse_at j x c i) (ne_eqb _ _ (λ q. m (sym a ∙ q))) (ne_eqb _ _ (λ q. n (sym b ∙ q))));
  })

-- ---- a run: its first row, then each that is on the same bodies
on_row : (jacobians : List Float) (links : List ℕ) (i : ℕ) (p : BodyPair) → on_bodies links i p ≡ true → ((compact_of jacobians links i).body_a ≡ p.body_a) × ((compact_of jacobians links i).body_b ≡ p.body_b)
unfolding compact_of
on_row jacobians links i p h = on_true links i p h

row_of_pair : (jacobians : List Float) (links : List ℕ) (i : ℕ) (l : List Float) {p : BodyPair} → p ≡ body_pair_of links i l → ((compact_of jacobians links i).body_a ≡ p.body_a) × ((compact_of jacobians links i).body_b ≡ p.body_b)
unfolding compact_of body_pair_of
row_of_pair jacobians links i l e = rw e (refl, refl)

module _ {jacobians : List Float} {links : List ℕ} {x : ℕ → Float} {rows first : ℕ} {l : List Float} where
  pub run_begun : {p p' : BodyPair} → first < rows → p ≡ body_pair_of links first l → p' ≡ added_row p (compact_of jacobians links first) (x first) → RunAdded jacobians links x rows first l record { pair = p'; end = first + 1 }
  run_begun s e f = let (u, v) = row_of_pair jacobians links first l e in record {
    more = omega arith;
    within = omega arith;
    held = λ bodies t h. row_added (take_up h t s e) u v f;
  }

  pub run_on : {i : ℕ} {p p' : BodyPair} {b : Bool} → RunAdded jacobians links x rows first l record { pair = p; end = i } → i < rows → b ≡ on_bodies links i p → not b ≡ false → p' ≡ added_row p (compact_of jacobians links i) (x i)
      → RunAdded jacobians links x rows first l record { pair = p'; end = i + 1 }
  run_on {i} {p} {b = b} h s e o f = let (u, v) = on_row jacobians links i p (sym e ∙ not-false b o) in record {
    more = omega (arith, h.more);
    within = omega arith;
    held = λ bodies t g. row_added (h.held bodies t g) u v f;
  }

  pub run_ended : {i : ℕ} {p : BodyPair} → RunAdded jacobians links x rows first l record { pair = p; end = i } → rows ≤ i → RunAdded jacobians links x rows first l record { pair = p; end = rows }
  run_ended {i} {p} h b = let e : i ≡ rows = omega (arith, h.within) in subst (λ (k : ℕ). RunAdded jacobians links x rows first l record { pair = p; end = k }) e h

-- ---- a row's value by what is held
pub value_held : (jacobians : List Float) (links : List ℕ) (i : ℕ) (l : List Float) {p : BodyPair} {v : Float} → p ≡ body_pair_of links i l → v ≡ row_value_of (compact_of jacobians links i) p.of_a p.of_b → v ≡ value_in (compact_of jacobians links i) l
unfolding value_in body_pair_of compact_of
value_held jacobians links i l e q = q ∙ rw e

-- of a later row of the run that row `first` begins
pub value_on : (jacobians : List Float) (links : List ℕ) (i first : ℕ) (l : List Float) {p : BodyPair} {b : Bool} → p ≡ body_pair_of links first l → b ≡ on_bodies links i p → not b ≡ false → row_value_of (compact_of jacobians links i) p.of_a p.of_b ≡ value_in (compact_of jacobians links i) l
value_on jacobians links i first l {p} {b} e o t = let (s, u) = pair_holds links first p l e in value_held jacobians links i l (held_is links i p l s u o (not-false b t)) refl
