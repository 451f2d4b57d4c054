-- Where all is passed at once, every test in the order passes. Assumes nothing.
use Prim.Native.Nat.{ℕ, ◌+◌, ◌*◌, ◌<◌, ◌≤◌}
use mathlib.Core.Path.{◌≡◌, refl, sym, ap, ◌∙◌}
use mathlib.Core.Bool.{Bool, true, false, not, ◌&&◌, cond}
use mathlib.Core.List.{List}
use lib.Dec.{ltb, eqb}
use lib.Ieee.{Float}
use borrow.Author.Tests.{ne_eqb, not-true, not-false}
use Rattle.loops.specs.Run.{going}
use Rattle.loops.specs.Every.{every}
use Rattle.loops.specs.Judge.{judge}
use Rattle.loops.proofs.Both.{both}
use Rattle.loops.proofs.Every.{every_iff}
use Rattle.loops.proofs.Judge.{judge_pass}
use Rattle.kapitsa_joint.specs.Row.{scalars_of, words_of}
use Rattle.kapitsa_joint.specs.Mass.{mass_of}
use Rattle.kapitsa_joint.specs.Kind.{by_kind}
use Rattle.kapitsa_joint.specs.declared.kind.Kind.{Kind}
use Rattle.kapitsa_joint.specs.declared.kind.Kind.TheVariants as kinds
use Rattle.kapitsa_joint.specs.declared.row.RowScalars.{RowScalars}
use Rattle.kapitsa_joint.specs.declared.row.RowWords.{RowWords}
use Rattle.joint_refusals.specs.Refusals.{words_fit_of, opens_of, velocity_opens_of, mass_finite_of}
use Rattle.rules.specs.Rules.{Rules, rule_count, rule_for, passes27}
use Rattle.rules.specs.Rows.{rule_in, rows_ruled}
use Rattle.rules.proofs.Two.{words_fit_lem}
use Rattle.preconditioner.specs.Shift.{passes25}
use Rattle.solve_method.specs.Method.{passes5, after_three}
use Rattle.solve_method.specs.Position.{steps_for}
use Rattle.position_steps.specs.Opening.{opens_in, given_fits}
use Rattle.position_steps.specs.Ready.{row_ready}
use Rattle.position_steps.proofs.Openings.{words_four, masses_six, rows_28, rows_five, given_pass}

all : {a b : Bool} → a ≡ true → b ≡ true → (a && b) ≡ true
all p q = rw (p, q)

-- no rows open nothing, and a limit of 0 is not asked of them
opens_all : (rows : ℕ) (opens : ℕ → Bool) (limit : ℕ) → (limit ≡ 0 → ⊥) → every opens rows ≡ true → true ≡ passes5 rows opens limit
unfolding passes5
opens_all rows opens limit g e = go (eqb rows 0)
  where
    go : (b : Bool) → true ≡ cond b true (not (eqb limit 0) && every opens rows)
    go true = refl
    go false = rw (ne_eqb limit 0 g, e)

-- ---- `row_ready_at`
opens_same : (kind : Kind) (numbers : List Float) (words : List ℕ) (i : ℕ) → by_kind kind (opens_of (scalars_of numbers (27 * i + 15)) (words_of words (8 * i))) (velocity_opens_of (scalars_of numbers (27 * i + 15)) (words_of words (8 * i))) ≡ opens_in kind numbers words i
opens_same kinds.Position numbers words i = refl
opens_same kinds.Velocity numbers words i = refl

module _ (kind : Kind) (rules : Rules) (numbers : List Float) (words : List ℕ) (i : ℕ) {w : RowWords} {s : RowScalars} {a b : Bool} (ew : w ≡ words_of words (8 * i)) (es : s ≡ scalars_of numbers (27 * i + 15)) (ea : a ≡ words_fit_of w) (eb : b ≡ by_kind kind (opens_of s w) (velocity_opens_of s w)) where
  looked : (a && b) ≡ (words_fit_of (words_of words (8 * i)) && opens_in kind numbers words i)
  looked = rw (ea, eb, ew, es, opens_same kind numbers words i) refl

  -- the rule is searched for by the words
  abbrev ruled : Bool
  ruled = ltb (rule_in rules words i) (rule_count rules)

  pub row_unready : not (a && b) ≡ true → false ≡ row_ready kind rules numbers words i
  unfolding row_ready
  row_unready h = ap (λ (x : Bool). x && ruled) (sym (not-true (a && b) h) ∙ looked)

  pub row_ruled : {r : ℕ} → not (a && b) ≡ false → r ≡ rule_for rules w.dimension w.key → ltb r (rule_count rules) ≡ row_ready kind rules numbers words i
  unfolding row_ready words_of
  row_ruled h e = ap (λ (x : ℕ). ltb x (rule_count rules)) (e ∙ ap (λ (v : RowWords). rule_for rules v.dimension v.key) ew) ∙ ap (λ (x : Bool). x && ruled) (sym (not-false (a && b) h) ∙ looked)

-- what the rule is asked of: key and dimension that 4 lets pass
pub fit_words : (w : RowWords) {a : Bool} (b : Bool) → a ≡ words_fit_of w → not (a && b) ≡ false → (w.key ≤ 255) × (w.dimension ≤ 1)
fit_words w {a} b e h = words_fit_lem w (sym e ∙ (both a b (not-false (a && b) h)).0)

-- ---- a ready row passes 4, 5 and 28
module _ (kind : Kind) (s : Rules) (numbers : List Float) (words : List ℕ) (i : ℕ) where
  pub record Passes : Type 0 where
    pub fit : words_fit_of (words_of words (8 * i)) ≡ true
    pub opens : opens_in kind numbers words i ≡ true
    pub ruled : ltb (rule_in s words i) (rule_count s) ≡ true

  passes : row_ready kind s numbers words i ≡ true → Passes
  unfolding row_ready
  passes h =
      let w = words_fit_of (words_of words (8 * i)) in
      let o = opens_in kind numbers words i in
      let (wo, r) = both (w && o) (ltb (rule_in s words i) (rule_count s)) h in
      let (fit, opens) = both w o wo in
      record { fit = fit; opens = opens; ruled = r }

-- ---- ready rows do
module _ (kind : Kind) (s : Rules) (numbers : List Float) (words : List ℕ) (rows : ℕ) (ready : every (row_ready kind s numbers words) rows ≡ true) where
  row : (i : ℕ) → i < rows → Passes kind s numbers words i
  row i h = passes kind s numbers words i ((every_iff (row_ready kind s numbers words) rows).0 ready i h)

  ready_4 : every (λ i. words_fit_of (words_of words (8 * i))) rows ≡ true
  ready_4 = (every_iff (λ i. words_fit_of (words_of words (8 * i))) rows).1 (λ i h. (row i h).fit)

  ready_5 : every (opens_in kind numbers words) rows ≡ true
  ready_5 = (every_iff (opens_in kind numbers words) rows).1 (λ i h. (row i h).opens)

  ready_28 : rows_ruled s words rows ≡ true
  unfolding rows_ruled
  ready_28 = (every_iff (λ i. ltb (rule_in s words i) (rule_count s)) rows).1 (λ i h. (row i h).ruled)

-- ---- and with the rest a table is let pass
module _ (kind : Kind) (rows bodies : ℕ) (numbers : List Float) (words : List ℕ) (masses given : List Float) (s : Rules) (shift : Float) (placed : Bool) (limit : ℕ) where
  pub all_at_once : {r25 r27 r r6 r20 : Bool} {n b : ℕ} → not placed ≡ false → r25 ≡ passes25 shift → not r25 ≡ false → (limit ≡ 0 → ⊥) → r27 ≡ passes27 s → not r27 ≡ false
      → n ≡ rows → r ≡ every (row_ready kind s numbers words) n → not r ≡ false → b ≡ bodies → r6 ≡ every (λ b. mass_finite_of (mass_of masses b)) b → not r6 ≡ false → r20 ≡ given_fits kind given rows → r20 ≡ true
      → judge (after_three (steps_for kind rows bodies numbers words masses given s shift placed) limit) ≡ going tt
  all_at_once {r25} {r27} {r} {r6} {r20} {n} {b} lp e25 l25 g e27 l27 en e l eb e6 l6 e20 h20 =
      let ready : every (row_ready kind s numbers words) rows ≡ true = ap (every (row_ready kind s numbers words)) (sym en) ∙ sym e ∙ not-false r l in
      judge_pass 25 (passes25 shift) _ e25 l25
      (judge_pass 4 _ _ (words_four numbers masses words rows bodies true rows refl (sym (ready_4 kind s numbers words rows ready))) refl
      (judge_pass 27 (passes27 s) _ e27 l27
      (judge_pass 28 _ _ (rows_28 s numbers words masses rows bodies rows true refl (sym (ready_28 kind s numbers words rows ready))) refl
      (judge_pass 5 _ _ (rows_five kind numbers words rows limit true (opens_all rows (opens_in kind numbers words) limit g (ready_5 kind s numbers words rows ready))) refl
      (judge_pass 6 _ _ (masses_six numbers masses words rows bodies r6 placed b eb e6) (ap not (all (not-false r6 l6) (not-false placed lp)))
      (given_pass kind given rows r20 e20 (ap not h20)))))))
