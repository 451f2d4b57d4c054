-- What the tests before step 0 are over the lent lists. Assumes nothing.
use Prim.Native.Nat.{ℕ, ◌+◌, ◌*◌}
use mathlib.Core.Path.{◌≡◌, refl, sym, ap, ◌∙◌}
use mathlib.Core.Bool.{Bool, true, false, not, ◌&&◌, true≢false}
use mathlib.Core.List.{List, []}
use lib.Ieee.{Float}
use borrow.Author.Tests.{eq-eqb, ne_eqb}
use Rattle.loops.specs.Run.{Run, going, ended, next}
use Rattle.loops.specs.Judge.{judge, AllPass}
use Rattle.loops.specs.Every.{every}
use Rattle.loops.proofs.Judge.{judge_done, judge_fail, judge_going, judge_pass}
use Rattle.kapitsa_joint.specs.Row.{row_of, scalars_of, words_of}
use Rattle.kapitsa_joint.specs.Mass.{mass_of}
use Rattle.kapitsa_joint.specs.Table.{table_of}
use Rattle.joint_refusals.specs.Refusals.{words_fit_of, mass_finite_of, passes4, opens_of, velocity_opens_of, passes6, passes20}
use Rattle.rules.specs.Rules.{Rules, passes28}
use Rattle.rules.specs.Rows.{rows_ruled}
use Rattle.rules.proofs.Lent.{lent_28}
use Rattle.mass_operator.specs.Flat.{coefficients}
use Rattle.preconditioner.specs.declared.mode.Mode.{Mode}
use Rattle.steps.specs.Solve.{counting}
use Rattle.position.specs.Problem.{Problem, residual_tests}
use Rattle.kapitsa_joint.specs.Kind.{by_kind}
use Rattle.kapitsa_joint.specs.declared.kind.Kind.{Kind}
use Rattle.kapitsa_joint.specs.declared.kind.Kind.TheVariants as kinds
use Rattle.solve_method.specs.Method.{passes5, after_three, opening_of, method_of}
use Rattle.solve_method.specs.Counting.{counted_of}
use Rattle.solve_method.specs.Position.{steps_for}
use Rattle.position_steps.specs.Opening.{OpenedRuled, opens_in, given_fits}
use Rattle.std.specs.Prelude.{Result}
use Rattle.refusals.specs.Told.{told}
use Rattle.refusals.specs.declared.Refusal.{Refusal}

-- ---- `opens`
module _ (rows : ℕ) (opens : ℕ → Bool) (limit : ℕ) where
  pub opens_empty : rows ≡ 0 → true ≡ passes5 rows opens limit
  unfolding passes5
  opens_empty e = rw (eq-eqb rows 0 e)

  pub opens_none : (rows ≡ 0 → ⊥) → limit ≡ 0 → false ≡ passes5 rows opens limit
  unfolding passes5
  opens_none h e = rw (ne_eqb rows 0 h, eq-eqb limit 0 e)

  opens_rows : (n : ℕ) (r : Bool) → (rows ≡ 0 → ⊥) → (limit ≡ 0 → ⊥) → n ≡ rows → r ≡ every opens n → r ≡ passes5 rows opens limit
  unfolding passes5
  opens_rows n r h g en e = rw (ne_eqb rows 0 h, ne_eqb limit 0 g, ← en) e

-- by kind
module _ (kind : Kind) (numbers : List Float) (words : List ℕ) (rows limit n : ℕ) (r : Bool) (h : rows ≡ 0 → ⊥) (g : limit ≡ 0 → ⊥) (en : n ≡ rows) where
  pub opens_position : kind ≡ kinds.Position → r ≡ every (λ i. opens_of (scalars_of numbers (27 * i + 15)) (words_of words (8 * i))) n → r ≡ passes5 rows (opens_in kind numbers words) limit
  opens_position k e = rw k (opens_rows rows (opens_in kinds.Position numbers words) limit n r h g en e)

  pub opens_velocity : kind ≡ kinds.Velocity → r ≡ every (λ i. velocity_opens_of (scalars_of numbers (27 * i + 15)) (words_of words (8 * i))) n → r ≡ passes5 rows (opens_in kind numbers words) limit
  opens_velocity k e = rw k (opens_rows rows (opens_in kinds.Velocity numbers words) limit n r h g en e)

-- ---- `given_fits`
module _ (kind : Kind) (given : List Float) (rows : ℕ) where
  pub given_none : kind ≡ kinds.Position → true ≡ given_fits kind given rows
  given_none k = rw k refl

  pub given_rows : (n : ℕ) (r : Bool) → kind ≡ kinds.Velocity → n ≡ rows → r ≡ passes20 (coefficients given) n → r ≡ given_fits kind given rows
  given_rows n r k en e = rw (k, ← en) e

-- ---- the tests over the lent lists are those of the table
module _ (numbers masses : List Float) (words : List ℕ) (rows bodies : ℕ) (r : Bool) where
  pub words_four : (n : ℕ) → n ≡ rows → r ≡ every (λ i. words_fit_of (words_of words (8 * i))) n → r ≡ passes4 (table_of rows bodies numbers words masses)
  unfolding passes4 row_of
  words_four n en e = rw (← en) e

  -- with what is told of the centres
  pub masses_six : (placed : Bool) (n : ℕ) → n ≡ bodies → r ≡ every (λ b. mass_finite_of (mass_of masses b)) n → (r && placed) ≡ (passes6 (table_of rows bodies numbers words masses) && placed)
  unfolding passes6
  masses_six placed n en e = rw (← en, e)

pub rows_28 : (rules : Rules) (numbers : List Float) (words : List ℕ) (masses : List Float) (rows bodies n : ℕ) (r : Bool) → n ≡ rows → r ≡ rows_ruled rules words n → r ≡ passes28 rules (table_of rows bodies numbers words masses)
rows_28 rules numbers words masses rows bodies n r en e = e ∙ ap (rows_ruled rules words) en ∙ lent_28 rules rows bodies numbers words masses

pub rows_five : (kind : Kind) (numbers : List Float) (words : List ℕ) (rows limit : ℕ) (r : Bool) → r ≡ passes5 rows (opens_in kind numbers words) limit
    → r ≡ passes5 rows (by_kind kind (λ i. opens_of (row_of numbers words i).scalars (row_of numbers words i).words) (λ i. velocity_opens_of (row_of numbers words i).scalars (row_of numbers words i).words)) limit
unfolding row_of
rows_five kind numbers words rows limit r e = e

-- 20 is the last test, and there for velocities alone
module _ (kind : Kind) (given : List Float) (rows : ℕ) (r : Bool) (e : r ≡ given_fits kind given rows) where
  pub given_fail : not r ≡ true → judge (by_kind kind [] (residual_tests (coefficients given) rows)) ≡ ended 20
  given_fail h = go kind e
    where
      go : (k : Kind) → r ≡ given_fits k given rows → judge (by_kind k [] (residual_tests (coefficients given) rows)) ≡ ended 20
      go kinds.Position q = absurd (true≢false (sym h ∙ ap not q))
      go kinds.Velocity q = judge_fail _ _ _ q h

  pub given_pass : not r ≡ false → judge (by_kind kind [] (residual_tests (coefficients given) rows)) ≡ going tt
  given_pass h = go kind e
    where
      go : (k : Kind) → r ≡ given_fits k given rows → judge (by_kind k [] (residual_tests (coefficients given) rows)) ≡ going tt
      go kinds.Position q = judge_done
      go kinds.Velocity q = judge_pass _ _ _ q h judge_done

-- ---- for what comes after

-- 3 was judged before
opening_after : (p : Problem) (limit : ℕ) {o : Run Unit ℕ} → judge (after_three p limit) ≡ o → opening_of true p limit ≡ o
unfolding opening_of
opening_after p limit h = judge_pass 3 true (after_three p limit) refl refl h

-- the count follows what is judged
pub counted_after : (q : Problem) (mode : Mode) (limit : ℕ) (opened : Result Unit Refusal) → judge (after_three q limit) ≡ told opened → counted_of mode q limit ≡ next (told opened) (λ _. counting (method_of true q mode) limit)
unfolding counted_of
counted_after q mode limit opened h = ap (λ (x : Run Unit ℕ). next x (λ _. counting (method_of true q mode) limit)) (opening_after q limit h)

-- 28 has passed, so that each row has a tolerance
pub opened_ruled : (kind : Kind) (rows bodies : ℕ) (numbers : List Float) (words : List ℕ) (masses given : List Float) (rules : Rules) (shift : Float) (placed : Bool) (limit : ℕ) (opened : Result Unit Refusal)
    → judge (after_three (steps_for kind rows bodies numbers words masses given rules shift placed) limit) ≡ told opened → OpenedRuled opened rules words rows
unfolding AllPass
opened_ruled kind rows bodies numbers words masses given rules shift placed limit opened h = record {
  ruled = λ e. lent_28 rules rows bodies numbers words masses ∙ ((judge_going (after_three (steps_for kind rows bodies numbers words masses given rules shift placed) limit)).0 (h ∙ rw e)).1.1.1.0;
}
