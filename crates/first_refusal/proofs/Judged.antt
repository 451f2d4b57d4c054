-- The test of each number, from what the functions answer at one row, body or rule. Assumes nothing.
use Prim.Native.Nat.{ℕ, zero, suc, ◌+◌, ◌*◌, ◌<◌, ◌≤◌}
use mathlib.Core.Path.{◌≡◌, refl, sym, ap, ◌∙◌}
use mathlib.Core.Bool.{Bool, true, false, not, ◌&&◌, true≢false, false≢true}
use mathlib.Core.List.{List, [], ◌∷◌}
use mathlib.Core.Logic.{◌≢◌}
use native.Mathlib.Omega.{arith}
use lib.Dec.{leb, ltb, eqb}
use lib.ListN.{length, get_or, take, drop}
use lib.Ieee.{Float, nan, neg, binary64, div, of_bits}
use borrow.Author.Tests.{ne_eqb, not-true, not-false, leb-true}
use Rattle.loops.specs.Run.{Run, going, ended, on, check, turns}
use Rattle.loops.specs.Judge.{judged}
use Rattle.loops.proofs.Both.{both}
use Rattle.kapitsa_joint.specs.Kind.{by_kind, is_velocity}
use Rattle.kapitsa_joint.specs.Row.{scalars_of, words_of, row_of, jacobian_of}
use Rattle.kapitsa_joint.specs.Mass.{mass_of}
use Rattle.kapitsa_joint.specs.Table.{table_of, tolerances_in}
use Rattle.kapitsa_joint.specs.declared.kind.Kind.{Kind}
use Rattle.kapitsa_joint.specs.declared.row.RowScalars.{RowScalars}
use Rattle.kapitsa_joint.specs.declared.row.RowWords.{RowWords}
use Rattle.kapitsa_joint.specs.declared.mass.SolverMass.{SolverMass}
use Rattle.kapitsa_math.specs.declared.vector.Vec3.{Vec3}
use Rattle.kapitsa_joint.specs.declared.kind.Kind.TheVariants as kinds
use Rattle.kapitsa_math.specs.Lent.{vec_of}
use Rattle.kapitsa_math.specs.Vector.{is_finite_of}
use Rattle.joint_refusals.specs.Refusals.{words_fit_of, opens_of, velocity_opens_of, mass_finite_of}
use Rattle.rules.specs.Rules.{Rules, rule_count, rule_fits}
use Rattle.rules.specs.Rows.{rules_in, rule_in, tolerance_in}
use Rattle.mass_operator.specs.Flat.{coefficients}
use Rattle.position.specs.Problem.{Problem, started_problem}
use Rattle.position.specs.Prepare.{row_judged, rows_judged}
use Rattle.position.specs.Kinds.{start_in}
use Rattle.std.specs.Prelude.{Result, Ok, Err}
use Rattle.refusals.specs.Number.{number_of}
use Rattle.refusals.specs.Told.{told}
use Rattle.refusals.specs.declared.Refusal.{Refusal}
use Rattle.block_factor.specs.Blocks.{one_pair}
use Rattle.check_range.specs.Closing.{GivenFrom}
use Rattle.check_refusals.specs.Refusals.{beside_of}
use Rattle.first_refusal.specs.Run.{run_in}
use Rattle.first_refusal.specs.Room.{CentresFrom}
use Rattle.first_refusal.specs.Place.{given_in, body_fits, row_passes, run_fits, passes_at}
use Rattle.first_refusal.proofs.Parts.{row_alone}

and_true : (b : Bool) → (b && true) ≡ b
and_true true = refl
and_true false = refl

module _ (kind : Kind) (rows bodies : ℕ) (numbers : List Float) (words : List ℕ) (masses beside : List Float) (s : Rules) where
  abbrev p : Problem
  p = given_in kind rows bodies numbers words masses beside s

  -- ---- a row alone through step 0
  start_is : (kind : Kind) (i : ℕ) → start_in kind numbers beside i ≡ (given_in kind rows bodies numbers words masses beside s).start i
  unfolding row_of scalars_of
  start_is kinds.Position i = refl
  start_is kinds.Velocity i = refl

  tolerance_is : (i : ℕ) → tolerance_in s words i ≡ p.tolerance i
  unfolding row_of words_of
  tolerance_is i = refl

  module _ (i : ℕ) {tolerance start : Float} (e : tolerance ≡ tolerance_in s words i) (f : start ≡ start_in kind numbers beside i) where
    abbrev alone : List Float → List ℕ → Problem
    alone ownNumbers own_words = started_problem false (table_of 1 bodies ownNumbers own_words masses) (tolerances_in (tolerance ∷ [])) (coefficients (start ∷ []))

    one_row : (ownNumbers : List Float) (own_words : List ℕ) → rows_judged (alone ownNumbers own_words) ≡ row_judged (alone ownNumbers own_words) 0
    unfolding rows_judged check judged turns on
    one_row ownNumbers own_words = refl

    alone_judged : rows_judged (alone (take 27 (drop (27 * i) numbers)) (take 8 (drop (8 * i) words))) ≡ row_judged p i
    unfolding row_judged
    alone_judged = one_row (take 27 (drop (27 * i) numbers)) (take 8 (drop (8 * i) words)) ∙ rw (row_alone numbers words i, e ∙ tolerance_is i, f ∙ start_is kind i)

    module _ (answer : Result Unit Refusal) (ownNumbers : List Float) (own_words : List ℕ) (q : ownNumbers ≡ take 27 (drop (27 * i) numbers)) (r : own_words ≡ take 8 (drop (8 * i) words)) (h : rows_judged (alone ownNumbers own_words) ≡ told answer) where
      refusal_of_lem : on (row_judged p i) (λ _. 0) (λ n. n) ≡ on (told answer) (λ _. 0) (λ n. n)
      refusal_of_lem = ap (λ (r : Run Unit ℕ). on r (λ _. 0) (λ n. n)) (sym alone_judged ∙ rw (← q, ← r) h)

      pub refusal_none : answer ≡ Ok tt → 0 ≡ on (row_judged p i) (λ _. 0) (λ n. n)
      unfolding on
      refusal_none d = sym (refusal_of_lem ∙ rw d)

      pub refusal_told : {n : ℕ} (e : Refusal) → answer ≡ Err e → n ≡ number_of e → n ≡ on (row_judged p i) (λ _. 0) (λ n. n)
      unfolding on
      refusal_told e d q = q ∙ sym (refusal_of_lem ∙ rw d)

  -- ---- number by number
  opens_is : (i : ℕ) (kind : Kind) → by_kind kind (opens_of (scalars_of numbers (27 * i + 15)) (words_of words (8 * i))) (velocity_opens_of (scalars_of numbers (27 * i + 15)) (words_of words (8 * i))) ≡ (given_in kind rows bodies numbers words masses beside s).opens i
  unfolding row_of
  opens_is i kinds.Position = refl
  opens_is i kinds.Velocity = refl

  module _ (i : ℕ) {number : ℕ} {r : Bool} where
    pub passes_4 : number ≡ 4 → r ≡ words_fit_of (words_of words (8 * i)) → r ≡ passes_at kind rows bodies numbers words masses beside s number i
    unfolding passes_at row_of
    passes_4 e h = rw e h

    pub passes_5 : number ≡ 5 → r ≡ by_kind kind (opens_of (scalars_of numbers (27 * i + 15)) (words_of words (8 * i))) (velocity_opens_of (scalars_of numbers (27 * i + 15)) (words_of words (8 * i))) → r ≡ passes_at kind rows bodies numbers words masses beside s number i
    unfolding passes_at
    passes_5 e h = rw e (h ∙ opens_is i kind)

    pub passes_6 : number ≡ 6 → r ≡ (mass_finite_of (mass_of masses i) && by_kind kind (is_finite_of (vec_of beside (3 * i))) true) → r ≡ passes_at kind rows bodies numbers words masses beside s number i
    unfolding passes_at body_fits
    passes_6 e h = rw e h

    pub passes_11 : number ≡ 11 → r ≡ run_in words rows i → r ≡ passes_at kind rows bodies numbers words masses beside s number i
    unfolding passes_at run_fits run_in one_pair jacobian_of row_of words_of
    passes_11 e h = rw e h

    pub passes_27 : number ≡ 27 → r ≡ rule_fits s i → r ≡ passes_at kind rows bodies numbers words masses beside s number i
    unfolding passes_at
    passes_27 e h = rw e h

  module _ (i : ℕ) {number : ℕ} where
    pub passes_28 : number ≡ 28 → {q : ℕ} → q ≡ rule_in s words i → ltb q (rule_count s) ≡ passes_at kind rows bodies numbers words masses beside s number i
    unfolding passes_at row_of words_of
    passes_28 e h = rw (e, h)

    module _ (a : number ≢ 4) (b : number ≢ 5) (c : number ≢ 6) (d : number ≢ 11) (e : number ≢ 27) (f : number ≢ 28) where
      pub passes_other : not (leb 7 number && leb number 9) ≡ true → true ≡ passes_at kind rows bodies numbers words masses beside s number i
      unfolding passes_at
      passes_other h = rw (ne_eqb number 4 a, ne_eqb number 5 b, ne_eqb number 6 c, ne_eqb number 11 d, ne_eqb number 27 e, ne_eqb number 28 f, not-true (leb 7 number && leb number 9) h)

      pub passes_row : not (leb 7 number && leb number 9) ≡ false → {refusal : ℕ} → refusal ≡ on (row_judged p i) (λ _. 0) (λ n. n) → not (eqb refusal number) ≡ passes_at kind rows bodies numbers words masses beside s number i
      unfolding passes_at row_passes on
      passes_row h q =
          let range = not-false (leb 7 number && leb number 9) h in
          rw (ne_eqb number 4 a, ne_eqb number 5 b, ne_eqb number 6 c, ne_eqb number 11 d, ne_eqb number 27 e, ne_eqb number 28 f, range, q) (go (row_judged p i) (leb-true 7 number (both (leb 7 number) (leb number 9) range).0))
        where
          go : (u : Run Unit ℕ) → 7 ≤ number → not (eqb (on u (λ _. 0) (λ n. n)) number) ≡ on u (λ _. true) (λ n. not (eqb n number))
          go (going t) l = ap not (ne_eqb 0 number (λ z. omega (arith, l, z)))
          go (ended n) l = refl

-- ---- by the kind
pub start_position : (numbers beside : List Float) (i : ℕ) {kind : Kind} → kind ≡ kinds.Position → neg (get_or numbers (27 * i + 15) nan) ≡ start_in kind numbers beside i
start_position numbers beside i k = rw k

pub start_velocity : (numbers beside : List Float) (i : ℕ) {kind : Kind} → kind ≡ kinds.Velocity → get_or beside i nan ≡ start_in kind numbers beside i
start_velocity numbers beside i k = rw k

pub words_as : {w v : RowWords} {r : Bool} → w ≡ v → r ≡ words_fit_of w → r ≡ words_fit_of v
words_as e h = rw e at h

module _ (numbers : List Float) (words : List ℕ) (i : ℕ) {kind : Kind} {t : RowScalars} {w : RowWords} {r : Bool} (d : t ≡ scalars_of numbers (27 * i + 15)) (e : w ≡ words_of words (8 * i)) where
  pub opens_position : kind ≡ kinds.Position → r ≡ opens_of t w → r ≡ by_kind kind (opens_of (scalars_of numbers (27 * i + 15)) (words_of words (8 * i))) (velocity_opens_of (scalars_of numbers (27 * i + 15)) (words_of words (8 * i)))
  opens_position k h = rw (k, ← d, ← e) h

  pub opens_velocity : kind ≡ kinds.Velocity → r ≡ velocity_opens_of t w → r ≡ by_kind kind (opens_of (scalars_of numbers (27 * i + 15)) (words_of words (8 * i))) (velocity_opens_of (scalars_of numbers (27 * i + 15)) (words_of words (8 * i)))
  opens_velocity k h = rw (k, ← d, ← e) h

module _ (masses beside : List Float) (b : ℕ) {kind : Kind} {m : SolverMass} {p : Bool} where
  pub body_position : kind ≡ kinds.Position → m ≡ mass_of masses b → p ≡ mass_finite_of m → {v : Vec3} {q : Bool} → v ≡ vec_of beside (3 * b) → q ≡ is_finite_of v → (p && q) ≡ (mass_finite_of (mass_of masses b) && by_kind kind (is_finite_of (vec_of beside (3 * b))) true)
  body_position k e f g h = rw (k, f, e, h, g)

  pub body_velocity : kind ≡ kinds.Velocity → m ≡ mass_of masses b → p ≡ mass_finite_of m → p ≡ (mass_finite_of (mass_of masses b) && by_kind kind (is_finite_of (vec_of beside (3 * b))) true)
  body_velocity k e f = rw (k, f, e) (sym (and_true (mass_finite_of (mass_of masses b))))

-- ---- the tolerance of a row that is under one rule, and of one that is not
past : (l : List Float) (k : ℕ) → length l ≤ k → get_or l k nan ≡ nan
past [] k h = refl
past (x ∷ l) zero h = absurd (omega arith)
past (x ∷ l) (suc k) h = past l k (omega arith)

module _ (words rule_words : List ℕ) (tolerances : List Float) (i : ℕ) {r : ℕ} (e : r ≡ rule_in (rules_in rule_words tolerances) words i) where
  pub tolerance_some : get_or tolerances r nan ≡ tolerance_in (rules_in rule_words tolerances) words i
  tolerance_some = ap (λ (k : ℕ). get_or tolerances k nan) e

  -- 0.0 / 0.0
  pub tolerance_none : length tolerances ≤ r → div binary64 (of_bits binary64 0) (of_bits binary64 0) ≡ tolerance_in (rules_in rule_words tolerances) words i
  unfolding of_bits div
  tolerance_none h = sym (past tolerances r h) ∙ tolerance_some

-- ---- what refusal 3 has passed, of what is lent beside
beside_of_lem : (kind : Kind) (n b : ℕ) {beside : ℕ} → beside ≡ beside_of kind n b → (kind ≡ kinds.Position → 3 * b ≤ beside) × (kind ≡ kinds.Velocity → n ≤ beside)
beside_of_lem kinds.Position n b e = (λ _. omega arith, λ k. absurd (false≢true (ap is_velocity k)))
beside_of_lem kinds.Velocity n b e = (λ k. absurd (true≢false (ap is_velocity k)), λ _. omega arith)

pub beside_body : (kind : Kind) (n b : ℕ) {beside i : ℕ} → beside ≡ beside_of kind n b → i < b → CentresFrom kind beside (i + 1)
beside_body kind n b e l = record { long = λ k. let q = (beside_of_lem kind n b e).0 k in omega arith }

pub beside_row : (kind : Kind) (n b : ℕ) {beside i : ℕ} → beside ≡ beside_of kind n b → i < n → GivenFrom kind beside (i + 1)
beside_row kind n b e l = record { long = λ k. let q = (beside_of_lem kind n b e).1 k in omega arith }
