-- The ways through what is delivered. Assumes nothing.
use Prim.Native.Nat.{ℕ, zero, suc, ◌+◌, ◌*◌, ◌<◌, ◌≤◌}
use mathlib.Core.Path.{◌≡◌, refl, sym, ap, ◌∙◌}
use mathlib.Core.Bool.{Bool, true, false, not, ◌&&◌}
use mathlib.Core.List.{List}
use native.Mathlib.Omega.{arith}
use lib.ListN.{get_or, length}
use lib.Seq.{set-get_or}
use lib.Ieee.{Float, nan, binary64, add}
use lib.Ieee.Scale.{finite}
use borrow.Author.Tests.{not-true, not-false}
use Rattle.loops.specs.Run.{going, ended, next, check, on, Run}
use Rattle.loops.specs.Judge.{test}
use Rattle.loops.specs.Every.{every}
use Rattle.loops.specs.Tabulate.{tabulate}
use Rattle.loops.proofs.Tabulate.{get_d_tabulate, length_tabulate}
use Rattle.loops.proofs.Loop.{on_going, on_ended}
use Rattle.loops.proofs.Every.{every_same}
use Rattle.kapitsa_joint.specs.Row.{row_of, words_of}
use Rattle.kapitsa_joint.specs.Table.{Table, table_of}
use Rattle.kapitsa_joint.specs.Mass.{mass_of}
use Rattle.kapitsa_joint.specs.Impulse.{impulse_of, paired_of}
use Rattle.kapitsa_joint.specs.Centre.{Centres, centres_in, flat_centres}
use Rattle.kapitsa_joint.proofs.Centres.{flat_centres_in}
use Rattle.joint_refusals.specs.Refusals.{centres_finite}
use Rattle.kapitsa_joint.specs.declared.row.RowJacobian.{RowJacobian}
use Rattle.compact_table.specs.Compact.{compact_of}
use Rattle.mass_operator.specs.System.{System, system_of, compact_system}
use Rattle.mass_operator.specs.Operator.{impulse_at}
use Rattle.mass_operator.specs.Flat.{Summed, flat_impulses, impulses_of, coefficients}
use Rattle.mass_operator.proofs.Flat.{flat_holds, flat_same}
use Rattle.mass_operator.specs.Applied.{all_finite_of, applied_of}
use Rattle.mass_operator.specs.declared.finite.NotFinite.{NotFinite}
use Rattle.std.specs.Prelude.{Result, Ok, Err, is_err}
use Rattle.position.specs.Multipliers.{accumulated_in, gain_of, gains_finite, gained}
use Rattle.position.specs.Centres.{moved_by}
use Rattle.position.proofs.Moved.{moved_finite_same, moved_flat_same}
use Rattle.solve_method.specs.Method.{gains_of, maxima_in, impulse_by, finish_of, Delivered}
use Rattle.position_delivery.specs.Outcome.{with_accumulated, result_of, proposal_of, committed_of}
use Rattle.position_delivery.specs.Delivery.{moved_in, Judged, Shown, accepted_of, gained_after, committed_by, finished_of}
use Rattle.loops.specs.Cleared.{zeros}
use Rattle.kapitsa_joint.specs.Tolerance.{dimension_of}
use Rattle.position.specs.Residual.{maxima_of}
use Rattle.recurrence.specs.Step.{Iterate}
use Rattle.position_delivery.specs.declared.answer.PositionPcgResult.{PositionPcgResult}
use Rattle.kapitsa_joint.specs.declared.maxima.Maxima.{Maxima}

-- ---- `accept`
pub accepts : (flag : Bool) (count : ℕ) (words : List ℕ) (residual : List Float) (m : Maxima) → m ≡ maxima_of (λ i. dimension_of (get_or words (8 * i + 1) 0)) residual (length residual)
    → going (record { converged = flag; iterations = count; linear_residual_m = m.linear; angular_residual_rad = m.angular }) ≡ accepted_of flag count words residual
unfolding accepted_of
accepts flag count words residual m e = rw e

-- ---- `deliverable`
applied_finite : (a : Result Unit NotFinite) (l : List Float) → a ≡ applied_of l → all_finite_of l ≡ not (is_err a)
unfolding applied_of check
applied_finite a l e = rw e (by (all_finite_of l))
  where
    by : (b : Bool) → b ≡ not (is_err {T = Unit} {E = NotFinite} (check b (Ok tt) (Err record {})))
    by true = refl
    by false = refl

-- the impulses in work memory are those of the list
read : (l : List Float) (bodies placed : ℕ) {m : List Float} → placed ≤ bodies → flat_impulses (paired_of l) bodies ≡ m → (b : ℕ) → b < placed → paired_of l b ≡ impulse_of m b
read l bodies placed few e b h = sym ((flat_holds (paired_of l) bodies).at b (omega arith)) ∙ ap (λ (m : List Float). impulse_of m b) e

module _ (j : ℕ → RowJacobian) (numbers pending : List Float) (rows bodies : ℕ) (a : Result Unit NotFinite) (l : List Float) (summed : Summed j (coefficients pending) rows bodies a l) where
  all : all_finite_of (impulses_of j (coefficients pending) rows bodies) ≡ not (is_err a)
  all = applied_finite a (impulses_of j (coefficients pending) rows bodies) summed.answered

  in_order : flat_impulses (paired_of l) bodies ≡ impulses_of j (coefficients pending) rows bodies
  unfolding impulses_of
  in_order = flat_same (paired_of l) (λ b. impulse_at j (coefficients pending) b rows) bodies summed.summed.at

  module _ (place placed : ℕ) (masses centres : List Float) where
    pub judged_overflow : is_err a ≡ true → Judged false place placed bodies numbers masses centres (impulses_of j (coefficients pending) rows bodies) pending l
    judged_overflow t = record { passed = rw (all, t); summed = in_order }

    pub judged_finite : (gains moved : Bool) → placed ≤ bodies → is_err a ≡ false → gains ≡ gains_finite place numbers pending (length pending) → moved ≡ centres_finite (moved_by (mass_of masses) (paired_of l) (centres_in placed centres))
        → Judged (gains && moved) place placed bodies numbers masses centres (impulses_of j (coefficients pending) rows bodies) pending l
    judged_finite gains moved few t eg em = record { passed = rw (all, t, ← eg, em, same); summed = in_order }
      where
        same : centres_finite (moved_by (mass_of masses) (paired_of l) (centres_in placed centres)) ≡ centres_finite (moved_in placed masses (impulses_of j (coefficients pending) rows bodies) centres)
        same = moved_finite_same (mass_of masses) (paired_of l) (impulse_of (impulses_of j (coefficients pending) rows bodies)) (centres_in placed centres) (read l bodies placed few in_order)

-- ---- `show`
module _ (r : Bool) (place placed bodies : ℕ) (numbers masses centres impulses pending l solution₀ impulses₀ centres₀ : List Float) (judged : Judged r place placed bodies numbers masses centres impulses pending l) where
  pub shown_none : not r ≡ true → Shown false place placed numbers masses centres impulses pending solution₀ impulses₀ centres₀ solution₀ impulses₀ centres₀
  shown_none h = record { passed = sym (not-true r h) ∙ judged.passed; shown = λ e. absurd (let z : ◌≡◌ {A = ℕ} 0 1 = cc in omega arith); kept = λ _. (refl, refl, refl) }

  pub shown_all : (solution₁ impulses₁ centres₁ : List Float) → placed ≤ bodies → not r ≡ false → solution₁ ≡ pending → impulses₁ ≡ flat_impulses (paired_of l) bodies → centres₁ ≡ flat_centres (moved_by (mass_of masses) (paired_of l) (centres_in placed centres))
      → Shown true place placed numbers masses centres impulses pending solution₀ impulses₀ centres₀ solution₁ impulses₁ centres₁
  shown_all solution₁ impulses₁ centres₁ few h es ei ec = record {
    passed = sym (not-false r h) ∙ judged.passed;
    shown = λ _. (es, ei ∙ judged.summed, ec ∙ moved_flat_same (mass_of masses) (paired_of l) (impulse_of impulses) (centres_in placed centres) (read l bodies placed few judged.summed));
    kept = λ e. absurd (let z : ◌≡◌ {A = ℕ} 0 1 = cc in omega arith);
  }

-- ---- the accumulated numbers of an accepted answer
module _ (place : ℕ) (numbers : List Float) where
  with_gained : (solution l : List Float) (n k : ℕ) → k ≤ n → ((i : ℕ) → i < n → get_or l i nan ≡ gain_of place numbers solution i) → with_accumulated place numbers l k ≡ gained place numbers solution k
  unfolding with_accumulated gained
  with_gained solution l n zero h g = refl
  with_gained solution l n (suc k) h g = rw (with_gained solution l n k (omega arith) g, g k (omega arith))

  with_same : (l : List Float) (n k : ℕ) → k ≤ n → ((i : ℕ) → i < n → get_or l i nan ≡ accumulated_in place numbers i) → with_accumulated place numbers l k ≡ numbers
  unfolding with_accumulated
  with_same l n zero h g = refl
  with_same l n (suc k) h g = rw (with_same l n k (omega arith) g, g k (omega arith)) (set-get_or numbers (27 * k + place) nan)

  -- document 01: "with count 0 it keeps its bits"
  pub kept_multipliers : (rows : ℕ) → with_accumulated place numbers (tabulate (accumulated_in place numbers) rows) rows ≡ numbers
  kept_multipliers rows = with_same _ rows rows (omega arith) (λ i h. get_d_tabulate (accumulated_in place numbers) rows i nan h)

  gains_at : (rows : ℕ) (solution : List Float) (i : ℕ) → i < rows → get_or (gains_of (accumulated_in place numbers) rows solution) i nan ≡ gain_of place numbers solution i
  unfolding gains_of gain_of
  gains_at rows solution i h = get_d_tabulate (λ i. add binary64 (accumulated_in place numbers i) (get_or solution i nan)) rows i nan h

  gains_long : (rows : ℕ) (solution : List Float) → length (gains_of (accumulated_in place numbers) rows solution) ≡ rows
  unfolding gains_of
  gains_long rows solution = length_tabulate (λ i. add binary64 (accumulated_in place numbers i) (get_or solution i nan)) rows

  gained_multipliers : (rows : ℕ) (solution : List Float) → with_accumulated place numbers (gains_of (accumulated_in place numbers) rows solution) rows ≡ gained place numbers solution rows
  gained_multipliers rows solution = with_gained solution _ rows rows (omega arith) (gains_at rows solution)

  gains_finite_lem : (rows : ℕ) (solution : List Float) → all_finite_of (gains_of (accumulated_in place numbers) rows solution) ≡ gains_finite place numbers solution rows
  unfolding all_finite_of gains_finite
  gains_finite_lem rows solution = let l = gains_of (accumulated_in place numbers) rows solution in ap (every (λ i. finite (get_or l i nan))) (gains_long rows solution) ∙ every_same _ _ rows (λ i h. ap finite (gains_at rows solution i h))

-- the three tests of 17
all_pass : {X : Type 0} (a b d : Bool) (x : X) → (a && (b && d)) ≡ true → next (test a 17) (λ _. next (test b 17) (λ _. next (test d 17) (λ _. going x))) ≡ going x
unfolding test check on
all_pass true true true x e = refl
all_pass true true false x e = absurd (let z : ◌≡◌ {A = ℕ} 0 1 = cc in omega arith)
all_pass true false d x e = absurd (let z : ◌≡◌ {A = ℕ} 0 1 = cc in omega arith)
all_pass false b d x e = absurd (let z : ◌≡◌ {A = ℕ} 0 1 = cc in omega arith)

one_fails : {X : Type 0} (a b d : Bool) (x : X) → (a && (b && d)) ≡ false → next (test a 17) (λ _. next (test b 17) (λ _. next (test d 17) (λ _. going x))) ≡ ended 17
unfolding test check on
one_fails true true true x e = absurd (let z : ◌≡◌ {A = ℕ} 0 1 = cc in omega arith)
one_fails true true false x e = refl
one_fails true false d x e = refl
one_fails false b d x e = refl

-- ---- `propose_step`
module _ (place : ℕ) (numbers masses : List Float) (words : List ℕ) (rows bodies : ℕ) where
  abbrev table : Table
  table = table_of rows bodies numbers words masses

  abbrev accumulated : ℕ → Float
  accumulated = accumulated_in place numbers

  maxima_in_lem : (pending residual : List Float) → length residual ≡ rows → maxima_of (λ i. dimension_of (get_or words (8 * i + 1) 0)) residual (length residual) ≡ maxima_in table (record { solution = pending; residual = residual })
  unfolding maxima_in row_of words_of
  maxima_in_lem pending residual e = ap (maxima_of (λ i. dimension_of (get_or words (8 * i + 1) 0)) residual) e

  module _ (flag : Bool) (count : ℕ) (pending residual : List Float) (long : length residual ≡ rows) (r : Run PositionPcgResult ℕ) (accepted : r ≡ accepted_of flag count words residual) where
    answer_is : (m l k : List Float) → r ≡ going (result_of flag count (record { accumulated = m; impulses = l; centres = k; maxima = maxima_in table (record { solution = pending; residual = residual }) }))
    unfolding accepted_of
    answer_is m l k = accepted ∙ ap (λ (x : Maxima). going (record { converged = flag; iterations = count; linear_residual_m = x.linear; angular_residual_rad = x.angular })) (maxima_in_lem pending residual long)

    pub proposed_none : (placed : ℕ) (centres solution impulses new solution₁ impulses₁ new₁ : List Float) → count ≡ 0 → length centres ≡ 3 * placed → solution₁ ≡ pending → impulses₁ ≡ zeros (6 * bodies) → new₁ ≡ centres
        → proposal_of solution impulses new (finished_of table accumulated (centres_in placed centres) (flag, count, record { solution = pending; residual = residual })) ≡ record { answer = r; solution = solution₁; impulses = impulses₁; centres = new₁ }
    unfolding finished_of finish_of proposal_of on
    proposed_none placed centres solution impulses new solution₁ impulses₁ new₁ z lc es ei ec = rw (z, es, ei, ec, flat_centres_in placed centres lc, answer_is (tabulate accumulated rows) (zeros (6 * bodies)) centres, z)

  -- what the step counted comes to
  module _ (flag : Bool) (pending residual : List Float) where
    abbrev step : Iterate
    step = record { solution = pending; residual = residual }

    abbrev totals : List Float
    totals = impulses_of (system_of table).jacobian (coefficients pending) rows bodies

    -- the list of them holds the impulse of each body
    totals_at : (b : ℕ) → b < bodies → impulse_of totals b ≡ impulse_by table step b
    unfolding impulses_of
    totals_at b h = (flat_holds (impulse_by table step) bodies).at b h

    module _ (c : Centres) where
      abbrev moved : Centres
      moved = moved_by (mass_of masses) (impulse_by table step) c

      abbrev passes : Bool
      passes = all_finite_of totals && (all_finite_of (gains_of accumulated rows pending) && centres_finite moved)

      abbrev delivery : Delivered
      delivery = record { accumulated = gains_of accumulated rows pending; impulses = totals; centres = flat_centres moved; maxima = maxima_in table step }

      finished : (k : ℕ) → passes ≡ true → finished_of table accumulated c (flag, suc k, step) ≡ going ((flag, suc k, step), delivery)
      unfolding finished_of finish_of
      finished k t = on_going _ _ _ {s = delivery} (all_pass (all_finite_of totals) (all_finite_of (gains_of accumulated rows pending)) (centres_finite moved) delivery t)

      refused : (k : ℕ) → passes ≡ false → finished_of table accumulated c (flag, suc k, step) ≡ ended 17
      unfolding finished_of finish_of
      refused k t = on_ended _ _ _ {a = 17} (one_fails (all_finite_of totals) (all_finite_of (gains_of accumulated rows pending)) (centres_finite moved) delivery t)

    module _ (centres jacobians solution impulses new : List Float) (links : List ℕ) (placed n b p : ℕ) (q : Bool) (solution₁ impulses₁ new₁ : List Float) (en : n ≡ rows) (eb : b ≡ bodies) (ep : p ≡ placed) (few : placed ≤ bodies) (system : compact_system rows bodies jacobians links masses ≡ system_of table)
        (shown : Shown q place p numbers masses centres (impulses_of (compact_of jacobians links) (coefficients pending) n b) pending solution impulses new solution₁ impulses₁ new₁) (long : length pending ≡ rows) where
      abbrev there : Centres
      there = centres_in placed centres

      impulses_are : impulses_of (compact_of jacobians links) (coefficients pending) n b ≡ totals
      impulses_are = ap (λ (j : ℕ → RowJacobian). impulses_of j (coefficients pending) n b) (ap (λ (s : System). s.jacobian) system) ∙ rw (en, eb)

      placed_at : (k : ℕ) → k < placed → impulse_of totals k ≡ impulse_by table step k
      placed_at k h = totals_at k (omega arith)

      tests : q ≡ passes there
      tests = shown.passed ∙ rw (impulses_are, ep, long, gains_finite_lem place numbers rows pending, moved_finite_same (mass_of masses) (impulse_of totals) (impulse_by table step) there placed_at)

      centres_are : flat_centres (moved_in p masses (impulses_of (compact_of jacobians links) (coefficients pending) n b) centres) ≡ flat_centres (moved there)
      centres_are = rw (impulses_are, ep) (moved_flat_same (mass_of masses) (impulse_of totals) (impulse_by table step) there placed_at)

      pub proposed_refused : (count : ℕ) → (count ≡ 0 → ⊥) → q ≡ false → proposal_of solution impulses new (finished_of table accumulated there (flag, count, step)) ≡ record { answer = ended 17; solution = solution₁; impulses = impulses₁; centres = new₁ }
      unfolding proposal_of
      proposed_refused zero z t = absurd (z refl)
      proposed_refused (suc k) z t = let (es, ei, ec) = shown.kept t in ap (proposal_of solution impulses new) (refused there k (sym tests ∙ t)) ∙ rw (es, ei, ec)

      pub proposed_all : (count : ℕ) (r : Run PositionPcgResult ℕ) → (count ≡ 0 → ⊥) → q ≡ true → length residual ≡ rows → r ≡ accepted_of flag count words residual → proposal_of solution impulses new (finished_of table accumulated there (flag, count, step)) ≡ record { answer = r; solution = solution₁; impulses = impulses₁; centres = new₁ }
      unfolding proposal_of
      proposed_all zero r z t lr e = absurd (z refl)
      proposed_all (suc k) r z t lr e =
          let (es, ei, ec) = shown.shown t in
          ap (proposal_of solution impulses new) (finished there k (sym tests ∙ t)) ∙ rw (answer_is flag (suc k) pending residual lr r e (gains_of accumulated rows pending) totals (flat_centres (moved there)), es, ei ∙ impulses_are, ec ∙ centres_are)

    -- ---- the commit of what is proposed is the definition's
    pub commits : (c : Centres) (count : ℕ) (solution impulses new : List Float) → length pending ≡ rows
        → committed_of place rows numbers (finished_of table accumulated c (flag, count, step)) ≡ committed_by place (proposal_of solution impulses new (finished_of table accumulated c (flag, count, step))).answer numbers (proposal_of solution impulses new (finished_of table accumulated c (flag, count, step))).solution
    unfolding committed_of committed_by proposal_of gained_after finished_of finish_of on
    commits c zero solution impulses new long = kept_multipliers place numbers rows
    commits c (suc k) solution impulses new long = by (passes c) refl
      where
        by : (b : Bool) → passes c ≡ b
            → committed_of place rows numbers (finished_of table accumulated c (flag, suc k, step)) ≡ committed_by place (proposal_of solution impulses new (finished_of table accumulated c (flag, suc k, step))).answer numbers (proposal_of solution impulses new (finished_of table accumulated c (flag, suc k, step))).solution
        by true t = rw (finished c k t) (gained_multipliers place numbers rows pending ∙ ap (gained place numbers pending) (sym long))
        by false t = rw (refused c k t)
