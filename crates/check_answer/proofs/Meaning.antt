-- What the check's answer means: a verdict exactly where the refusals named pass, and what closed and open say of the exact gaps. Assumes nothing.
use Prim.Native.Nat.{ℕ, ◌+◌, ◌*◌, ◌<◌, ◌≤◌}
use mathlib.Core.Path.{◌≡◌, refl, sym, ap, ◌∙◌}
use mathlib.Core.Bool.{Bool, true, false, ◌&&◌, true≢false}
use mathlib.Core.List.{List, [], ◌∷◌, ◌++◌}
use mathlib.Core.Logic.{◌↔◌, inl, inr}
use native.Mathlib.Omega.{arith}
use lib.Dec.{T, eqb}
use lib.IntN.{pos, ◌+ℤ◌, ◌*ℤ◌}
use lib.Signed.{◌≤ℤ◌, ◌<ℤ◌}
use lib.Ieee.{Float, binary64, le, fits}
use lib.Ieee.Scale.{finite}
use Rattle.loops.specs.Run.{Run, going, ended, on, check}
use Rattle.loops.specs.Every.{every}
use Rattle.loops.specs.Judge.{judge, AllPass, FirstToFail}
use Rattle.loops.specs.Cleared.{plus_zero}
use Rattle.loops.proofs.Both.{both}
use Rattle.loops.proofs.Every.{every_iff, every_false}
use Rattle.loops.proofs.Judge.{judge_going, judge_ended}
use Rattle.loops.proofs.Ranges.{among_judge, listed_after}
use Rattle.loops.proofs.Ranges as Ranges
use Rattle.kapitsa_math.specs.Vector.{abs_of}
use Rattle.kapitsa_math.specs.declared.vector.Vec3.{Vec3}
use Rattle.rounding.proofs.Larger.{Number, at_most_itself}
use Rattle.kapitsa_joint.specs.Row.{jacobian_of}
use Rattle.kapitsa_joint.specs.Maxima.{maximum_of}
use Rattle.kapitsa_joint.proofs.Above.{bounds_of}
use Rattle.kapitsa_joint.specs.Table.{Table}
use Rattle.joint_refusals.specs.Refusals.{passes6, passes7, is_valid_of}
use Rattle.joint_refusals.proofs.Valid.{Bodies, valid_bodies}
use Rattle.kapitsa_joint.specs.declared.row.RowJacobian.{RowJacobian}
use Rattle.kapitsa_joint.specs.declared.mass.SolverMass.{SolverMass}
use Rattle.mass_operator.specs.System.{system_of}
use Rattle.check_range.specs.Range.{in_range, vec_in_range, mat_in_range, jacobian_in_range, mass_in_range, row_in_range, table_in_range, passes18}
use Rattle.check_range.specs.Closing.{Closing}
use Rattle.check_measure.specs.Verdict.{row_dimension, value_of, size_of, radius, reach, within, closes, largest_reaches}
use Rattle.check_measure.specs.Gap.{gap, scaled, value_z}
use Rattle.check_refusals.specs.Judged.{table_tests, judgements}
use Rattle.check_refusals.proofs.Judgement.{passed_tolerances, passed_7, passed_18}
use Rattle.check_answer.specs.Answer.{number_of, gap_of, verdict_of, check_of, Exceeds, CheckMeaning, CheckAnswer}
use Rattle.check_measure.proofs.Term.{Term, four}
use Rattle.check_measure.proofs.Values.{Listed, ListedVec, ListedRow, ListedMass, value_term}
use Rattle.check_answer.proofs.Listed.{listed}
use Rattle.check_measure.proofs.Radius.{reach_held, reach_finite, reach_least, row_closed, row_open}
use Rattle.check_answer.specs.declared.Verdict.TheVariants.{Closed, Open}

-- ---- the numbers of a check are doubles
pub record HeldVec (v : Vec3) : Type 0 where
  pub x : T (fits binary64 v.x)
  pub y : T (fits binary64 v.y)
  pub z : T (fits binary64 v.z)

pub record HeldRow (j : RowJacobian) : Type 0 where
  pub linear_a : HeldVec j.linear_a
  pub angular_a : HeldVec j.angular_a
  pub linear_b : HeldVec j.linear_b
  pub angular_b : HeldVec j.angular_b

pub record HeldMass (m : SolverMass) : Type 0 where
  pub mass : T (fits binary64 m.inverse_mass)
  pub x : HeldVec m.inverse_inertia.x
  pub y : HeldVec m.inverse_inertia.y
  pub z : HeldVec m.inverse_inertia.z

pub record Held (c : Closing) : Type 0 where
  pub row : (i : ℕ) → HeldRow (jacobian_of (c.table.row i))
  pub error : (i : ℕ) → T (fits binary64 (c.error i))
  pub mass : (b : ℕ) → HeldMass (c.table.mass b)
  pub list : (i : ℕ) → T (fits binary64 (c.listed i))
  pub tolerance : (i : ℕ) → T (fits binary64 (c.tolerance i))
  pub numbers : Ranges.Listed (λ n. 1 < n) c.tolerance_tests  -- no number of a verdict
  pub lent : Ranges.Listed (λ n. 1 < n) c.lent
  pub sure : AllPass c.tolerance_tests → (i : ℕ) → i < c.table.rows → T (finite (c.tolerance i))  -- what passes is finite

-- ---- tests taken apart
listed_vec : (v : Vec3) → HeldVec v → vec_in_range v ≡ true → ListedVec v
unfolding vec_in_range
listed_vec v t h =
    let (p, z) = both (in_range v.x && in_range v.y) (in_range v.z) h in
    let (x, y) = both (in_range v.x) (in_range v.y) p in
    unfold abs_of in record { term = record { x = listed v.x t.x x; y = listed v.y t.y y; z = listed v.z t.z z } }

listed_mass : (m : SolverMass) → HeldMass m → mass_in_range m ≡ true → ListedMass m
unfolding mass_in_range mat_in_range
listed_mass m t h =
    let n = m.inverse_inertia in
    let (i, r) = both (in_range m.inverse_mass) ((vec_in_range n.x && vec_in_range n.y) && vec_in_range n.z) h in
    let (p, z) = both (vec_in_range n.x && vec_in_range n.y) (vec_in_range n.z) r in
    let (x, y) = both (vec_in_range n.x) (vec_in_range n.y) p in
    record { mass = listed m.inverse_mass t.mass i; x = listed_vec n.x t.x x; y = listed_vec n.y t.y y; z = listed_vec n.z t.z z }

module _ (j : RowJacobian) (error multiplier : Float) (h : row_in_range j error multiplier ≡ true) where
  row_parts : (jacobian_in_range j ≡ true) × (in_range error ≡ true) × (in_range multiplier ≡ true)
  unfolding row_in_range
  row_parts = let (p, m) = both (jacobian_in_range j && in_range error) (in_range multiplier) h in let (q, e) = both (jacobian_in_range j) (in_range error) p in (q, e, m)

listed_row : (j : RowJacobian) → HeldRow j → jacobian_in_range j ≡ true → eqb j.body_a j.body_b ≡ false → ListedRow j
unfolding jacobian_in_range
listed_row j t h e =
    let la = vec_in_range j.linear_a in
    let aa = vec_in_range j.angular_a in
    let lb = vec_in_range j.linear_b in
    let ab = vec_in_range j.angular_b in
    let (p, d) = both ((la && aa) && lb) ab h in
    let (q, c) = both (la && aa) lb p in
    let (a, b) = both la aa q in
    record { linear_a = listed_vec j.linear_a t.linear_a a; angular_a = listed_vec j.angular_a t.angular_a b; linear_b = listed_vec j.linear_b t.linear_b c; angular_b = listed_vec j.angular_b t.angular_b d; apart = e }

-- ---- a check that passed 7 and 18
module _ (c : Closing) (held : Held c) (few : c.table.rows ≤ 512) (seven : passes7 c.table ≡ true) (eighteen : passes18 c ≡ true) where
  abbrev t : Table
  t = c.table

  ranges : (every (λ i. row_in_range (jacobian_of (t.row i)) (c.error i) (c.listed i)) t.rows ≡ true) × (every (λ b. mass_in_range (t.mass b)) t.bodies ≡ true)
  unfolding table_in_range
  ranges = both (every (λ i. row_in_range (jacobian_of (t.row i)) (c.error i) (c.listed i)) t.rows) (every (λ b. mass_in_range (t.mass b)) t.bodies) eighteen

  in_row : (i : ℕ) → i < t.rows → (jacobian_in_range (jacobian_of (t.row i)) ≡ true) × (in_range (c.error i) ≡ true) × (in_range (c.listed i) ≡ true)
  in_row i h = row_parts (jacobian_of (t.row i)) (c.error i) (c.listed i) ((every_iff (λ i. row_in_range (jacobian_of (t.row i)) (c.error i) (c.listed i)) t.rows).0 ranges.0 i h)

  bodies_of : (i : ℕ) → i < t.rows → Bodies t.bodies (t.row i).words
  unfolding passes7
  bodies_of i h = valid_bodies t.bodies (t.row i) ((every_iff (λ i. is_valid_of t.bodies (t.row i)) t.rows).0 seven i h)

  error_listed : (i : ℕ) → i < t.rows → Listed (c.error i)
  error_listed i h = listed (c.error i) (held.error i) (in_row i h).1

  term_of : (i : ℕ) → i < t.rows → Term four (t.rows + 10) (36 * t.rows) (value_of c i) (size_of c i) (value_z (system_of t) c.listed i)
  unfolding value_of size_of jacobian_of
  term_of i h =
      value_term (system_of t) c.listed
      (λ k p. listed_row (jacobian_of (t.row k)) (held.row k) (in_row k p).0 (bodies_of k p).apart)
      (λ k p. listed (c.listed k) (held.list k) (in_row k p).2)
      (λ b p. listed_mass (t.mass b) (held.mass b) ((every_iff (λ b. mass_in_range (t.mass b)) t.bodies).0 ranges.1 b p))
      few i h (bodies_of i h).a (bodies_of i h).b

  reach_row : (i : ℕ) → i < t.rows → T (finite (reach c i)) × (le plus_zero (reach c i) ≡ true)
  unfolding reach
  reach_row i h = (
    reach_finite t.rows few (c.error i) (value_of c i) (size_of c i) (value_z (system_of t) c.listed i) (error_listed i h) (term_of i h),
    reach_least t.rows few (c.error i) (value_of c i) (size_of c i) (value_z (system_of t) c.listed i) (error_listed i h) (term_of i h),
  )

  -- a tolerance that its reach is within, its own or another
  row_within : (i : ℕ) → i < t.rows → (x : Float) → Number binary64 x → le (reach c i) x ≡ true → pos (gap c i) ≤ℤ scaled x
  unfolding reach gap
  row_within i h x p e = row_closed t.rows few (c.error i) (value_of c i) (size_of c i) (value_z (system_of t) c.listed i) (error_listed i h) (term_of i h) x p.held p.is_finite e

  reach_number : (i : ℕ) → i < t.rows → Number binary64 (reach c i)
  unfolding reach
  reach_number i h = record {
    held = reach_held t.rows few (c.error i) (value_of c i) (size_of c i) (value_z (system_of t) c.listed i) (error_listed i h) (term_of i h);
    is_finite = (reach_row i h).0;
  }

  -- whatever the tolerances: at most the largest reach of its dimension
  bounded_row : (i : ℕ) → i < t.rows → pos (gap c i) ≤ℤ scaled (maximum_of (row_dimension t i) (largest_reaches c))
  unfolding largest_reaches
  bounded_row i h = let b = bounds_of (row_dimension t) (reach c) t.rows reach_number in row_within i h (maximum_of (row_dimension t i) (largest_reaches c)) (b.number (row_dimension t i)) (b.above i h)

  -- and at most its own
  measured_row : (i : ℕ) → i < t.rows → pos (gap c i) ≤ℤ scaled (reach c i)
  measured_row i h = let n = reach_number i h in row_within i h (reach c i) n (at_most_itself binary64 n)

  closed_row : (i : ℕ) → i < t.rows → within c i ≡ true → T (finite (c.tolerance i)) → pos (gap c i) ≤ℤ scaled (c.tolerance i)
  closed_row i h e f = row_within i h (c.tolerance i) (record { held = held.tolerance i; is_finite = f }) e

  open_row : (i : ℕ) → i < t.rows → within c i ≡ false → T (finite (c.tolerance i)) → scaled (c.tolerance i) <ℤ (pos (gap c i) +ℤ pos 2 *ℤ scaled (radius c i))
  unfolding reach gap radius
  open_row i h e f = row_open t.rows few (c.error i) (value_of c i) (size_of c i) (value_z (system_of t) c.listed i) (error_listed i h) (term_of i h) (c.tolerance i) (held.tolerance i) f e

-- ---- tests in order, then an answer that is no refusal
module _ (l : List (ℕ × Bool)) (v : CheckAnswer) where
  answered : AllPass l → on (judge l) (λ _. v) ended ≡ v
  unfolding on
  answered p = rw ((judge_going l).1 p)

  passes : ((n : ℕ) → on (judge l) (λ _. v) ended ≡ ended n → ⊥) → AllPass l
  unfolding on
  passes h = (judge_going l).0 (go (judge l) h)
    where
      go : (r : Run Unit ℕ) → ((n : ℕ) → on r (λ _. v) ended ≡ ended n → ⊥) → r ≡ going tt
      go (going u) h = refl
      go (ended m) h = absurd (h m refl)

  refusals : ((n : ℕ) → v ≡ ended n → ⊥) → (n : ℕ) → (on (judge l) (λ _. v) ended ≡ ended n) ↔ FirstToFail l n
  unfolding on
  refusals none n = (λ h. (judge_ended l n).0 (go (judge l) h), λ h. rw ((judge_ended l n).1 h))
    where
      go : (r : Run Unit ℕ) → on r (λ _. v) ended ≡ ended n → r ≡ ended n
      go (going u) h = absurd (none n h)
      go (ended m) h = cc

-- ---- the verdict: no refusal, and closed exactly where the rows close
module _ (c : Closing) where
  no_refusal : (n : ℕ) → verdict_of c ≡ ended n → ⊥
  unfolding verdict_of check
  no_refusal n h = go (closes c) refl
    where
      go : (b : Bool) → closes c ≡ b → ⊥
      go true e = let k = rw e at h in let z : ◌≡◌ {A = ℕ} 0 1 = cc in omega arith
      go false e = let k = rw e at h in let z : ◌≡◌ {A = ℕ} 0 1 = cc in omega arith

  pub closes_closed : closes c ≡ true → number_of (verdict_of c) ≡ 1
  unfolding verdict_of check
  closes_closed h = rw h

  pub closed_closes : number_of (verdict_of c) ≡ 1 → closes c ≡ true
  unfolding verdict_of check
  closed_closes h = go (closes c) refl
    where
      go : (b : Bool) → closes c ≡ b → closes c ≡ true
      go true e = e
      go false e = let k : ◌≡◌ {A = ℕ} 0 1 = rw e at h in absurd (omega arith)

  open_misses : number_of (verdict_of c) ≡ 0 → closes c ≡ false
  unfolding verdict_of check
  open_misses h = go (closes c) refl
    where
      go : (b : Bool) → closes c ≡ b → closes c ≡ false
      go true e = let k : ◌≡◌ {A = ℕ} 1 0 = rw e at h in absurd (omega arith)
      go false e = e

  pub verdict_gap : gap_of (verdict_of c) ≡ largest_reaches c
  unfolding verdict_of check
  verdict_gap = go (closes c)
    where
      go : (b : Bool) → gap_of (check b (going (Closed (largest_reaches c))) (going (Open (largest_reaches c)))) ≡ largest_reaches c
      go true = refl
      go false = refl

-- ---- no refusal has the number of a verdict, where none of the tolerances' and of what is lent has
pub refusal_above : (fits : Bool) (c : Closing) → Ranges.Listed (λ n. 1 < n) c.tolerance_tests → Ranges.Listed (λ n. 1 < n) c.lent → (n : ℕ) → FirstToFail (judgements fits c) n → 1 < n
unfolding Ranges.Listed
refusal_above fits c above lent n h =
    let t = c.table in
    let last : List (ℕ × Bool) = (7, passes7 t) ∷ (18, passes18 c) ∷ [] in
    let rest : List (ℕ × Bool) = (6, passes6 t && c.placed) ∷ (c.lent ++ last) in
    let listed : Ranges.Listed (λ n. 1 < n) rest = (omega arith, listed_after (λ n. 1 < n) c.lent last lent (omega arith, (omega arith, tt))) in
    among_judge (λ n. 1 < n) (judgements fits c) (omega arith, (omega arith, listed_after (λ n. 1 < n) c.tolerance_tests rest above listed)) n ((judge_ended (judgements fits c) n).1 h)

module _ (fits : Bool) (c : Closing) where
  abbrev Verdict : Type 0
  Verdict = (n : ℕ) → check_of fits c ≡ ended n → ⊥

  pub passes_of : Verdict → AllPass (judgements fits c)
  unfolding check_of
  passes_of h = passes (judgements fits c) (verdict_of c) h

  pub verdict_of_lem : AllPass (judgements fits c) → check_of fits c ≡ verdict_of c
  unfolding check_of
  verdict_of_lem p = answered (judgements fits c) (verdict_of c) p

  refused_of : (n : ℕ) → (check_of fits c ≡ ended n) ↔ FirstToFail (judgements fits c) n
  unfolding check_of
  refused_of = refusals (judgements fits c) (verdict_of c) (no_refusal c)

  -- the rows' part of the verdict
  closes_every : closes c ≡ every (within c) c.table.rows
  unfolding closes
  closes_every = refl

  module _ (held : Held c) (few : fits ≡ true → c.table.rows ≤ 512) where
    module _ (p : AllPass (judgements fits c)) where
      few_of : c.table.rows ≤ 512
      unfolding AllPass
      few_of = few p.0

      tests_of : AllPass (table_tests c)
      unfolding AllPass
      tests_of = p.1

      seven_of : passes7 c.table ≡ true
      seven_of = passed_7 c tests_of

      eighteen_of : passes18 c ≡ true
      eighteen_of = passed_18 c tests_of

      finite_of : (i : ℕ) → i < c.table.rows → T (finite (c.tolerance i))
      finite_of = held.sure (passed_tolerances c tests_of)

    pub reaches_of : Verdict → (i : ℕ) → i < c.table.rows → T (finite (reach c i)) × (le plus_zero (reach c i) ≡ true)
    reaches_of h = let p = passes_of h in reach_row c held (few_of p) (seven_of p) (eighteen_of p)

    bounded_of : Verdict → (i : ℕ) → i < c.table.rows → pos (gap c i) ≤ℤ scaled (maximum_of (row_dimension c.table i) (gap_of (check_of fits c)))
    bounded_of h i l =
        let p = passes_of h in
        let shown : gap_of (check_of fits c) ≡ largest_reaches c = ap gap_of (verdict_of_lem p) ∙ verdict_gap c in
        rw shown (bounded_row c held (few_of p) (seven_of p) (eighteen_of p) i l)

    -- whatever the tolerances
    pub measured_of_lem : Verdict → (i : ℕ) → i < c.table.rows → pos (gap c i) ≤ℤ scaled (reach c i)
    measured_of_lem h = let p = passes_of h in measured_row c held (few_of p) (seven_of p) (eighteen_of p)

    -- the number of a verdict is no refusal's
    verdict_by : (k : ℕ) → k < 2 → number_of (check_of fits c) ≡ k → Verdict
    verdict_by k small h n e =
        let above = refusal_above fits c held.numbers held.lent n ((refused_of n).0 e) in
        let same : number_of (check_of fits c) ≡ n = ap number_of e in
        omega arith

    closed_of : number_of (check_of fits c) ≡ 1 → (i : ℕ) → i < c.table.rows → pos (gap c i) ≤ℤ scaled (c.tolerance i)
    closed_of h i l =
        let p = passes_of (verdict_by 1 (omega arith) h) in
        let closed = closed_closes c (ap number_of (sym (verdict_of_lem p)) ∙ h) in
        closed_row c held (few_of p) (seven_of p) (eighteen_of p) i l ((every_iff (within c) c.table.rows).0 (sym closes_every ∙ closed) i l) (finite_of p i l)

    opened_of : number_of (check_of fits c) ≡ 0 → (i : ℕ) × Exceeds c i
    opened_of h =
        let p = passes_of (verdict_by 0 (omega arith) h) in
        let (i, l, e) = every_false (within c) c.table.rows (sym closes_every ∙ open_misses c (ap number_of (sym (verdict_of_lem p)) ∙ h)) in
        (i, record { row = l; misses = e; exceeds = open_row c held (few_of p) (seven_of p) (eighteen_of p) i l e (finite_of p i l) })

    pub means : CheckMeaning fits c (check_of fits c)
    means = record {
      verdict = (passes_of, λ p n h. no_refusal c n (sym (verdict_of_lem p) ∙ h));
      refused = refused_of;
      reaches = reaches_of;
      bounded = bounded_of;
      closed = closed_of;
      opened = opened_of;
    }

pub means_of : (fits : Bool) (c : Closing) {r : CheckAnswer} → Held c → (fits ≡ true → c.table.rows ≤ 512) → r ≡ check_of fits c → CheckMeaning fits c r
means_of fits c held few e = rw e (means fits c held few)

-- refusal 3 turns every check back
pub means_3 : {fits : Bool} (c : Closing) → fits ≡ false → CheckMeaning fits c (ended 3)
unfolding AllPass FirstToFail
means_3 {fits} c e = record {
  verdict = (λ h. absurd (h 3 refl), λ p n h. true≢false (sym p.0 ∙ e));
  refused = λ n. (λ h. inl (e, cc), back n);
  reaches = λ h. absurd (h 3 refl);
  bounded = λ h. absurd (h 3 refl);
  closed = λ h. absurd (omega arith);
  opened = λ h. absurd (omega arith);
}
  where
    back : (n : ℕ) → FirstToFail (judgements fits c) n → ◌≡◌ {A = CheckAnswer} (ended 3) (ended n)
    back n (inl h) = ap ended h.1
    back n (inr h) = absurd (true≢false (sym h.0 ∙ e))
