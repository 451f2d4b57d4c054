-- The ways to step 0: what is judged before it or a row is refused, or the lent memory holds the table. Assumes nothing.
use Prim.Native.Nat.{ℕ, ◌*◌, ◌<◌}
use mathlib.Core.Path.{◌≡◌, refl, ap, ◌∙◌, subst}
use mathlib.Core.Bool.{Bool, true}
use mathlib.Core.List.{List}
use lib.ListN.{get_or, length}
use lib.Ieee.{Float, nan}
use Rattle.loops.specs.Run.{going, ended}
use Rattle.loops.specs.Tabulate.{tabulate}
use Rattle.loops.specs.Cleared.{zeros}
use Rattle.loops.proofs.Loop.{on_going, on_ended}
use Rattle.loops.proofs.Tabulate.{get_d_tabulate}
use Rattle.kapitsa_joint.specs.Row.{row_of, words_of, jacobian_of}
use Rattle.kapitsa_joint.specs.Table.{Table, table_of, tolerances_in}
use Rattle.rules.specs.Rules.{Rules, ruled_by}
use Rattle.rules.specs.Rows.{tolerance_in, rows_ruled}
use Rattle.compact_table.specs.Compact.{Gathered}
use Rattle.mass_operator.specs.Flat.{coefficients}
use Rattle.mass_operator.specs.System.{system_of, compact_system}
use Rattle.position.specs.Problem.{Problem, started_problem}
use Rattle.kapitsa_joint.specs.Kind.{is_velocity}
use Rattle.position.specs.Kinds.{start_in}
use Rattle.position.specs.Answers.{BegunHeld}
use Rattle.position.specs.Prepare.{rows_judged}
use Rattle.kapitsa_joint.specs.declared.kind.Kind.{Kind}
use Rattle.std.specs.Prelude.{Result, Ok, Err, IsErrAnd}
use Rattle.refusals.specs.Number.{number_of}
use Rattle.refusals.specs.Told.{told}
use Rattle.refusals.specs.declared.Refusal.{Refusal}
use Rattle.position.proofs.EitherKind.{start_at}
use Rattle.position.proofs.Rows.{begun_of, rows_passed}
use Rattle.position.proofs.Same.{begun_same}
use Rattle.solve_method.specs.Position.{kind_of}
use Rattle.position_steps.specs.Opening.{OpenedRuled}
use Rattle.position_steps.specs.Start.{step_zero_of, start_out, StartHeld}
use Rattle.position_steps.proofs.Tables.{system_same, table_linked}

-- ---- a refusal that `?` passes on
module _ (b : Result Unit Refusal) (e : Refusal) (passed : IsErrAnd b (λ y. y ≡ e)) where
  start_again : (pending residual : List Float) → ended (number_of e) ≡ start_out b pending residual
  start_again pending residual = go b passed
    where
      go : (r : Result Unit Refusal) → IsErrAnd r (λ y. y ≡ e) → ended (number_of e) ≡ start_out r pending residual
      go (Ok u) h = absurd h
      go (Err y) h = rw h refl

  unlike : b ≡ Ok tt → ⊥
  unlike q = rw q at passed

  pub unopened : (p : Problem) (opened : Result Unit Refusal) (masses jacobians : List Float) (links : List ℕ) (tolerances diagonal pending residual : List Float) → opened ≡ Err e → StartHeld p opened masses b jacobians links tolerances diagonal pending residual
  unopened p opened masses jacobians links tolerances diagonal pending residual q =
      record { answered = on_ended _ _ _ {a = number_of e} (rw q) ∙ start_again pending residual; started = λ d. absurd (unlike d) }

-- each row has a tolerance
pub rows_ruled_lem : (opened : Result Unit Refusal) (rules : Rules) (words : List ℕ) (rows n : ℕ) → OpenedRuled opened rules words rows → opened ≡ Ok tt → n ≡ rows → rows_ruled rules words n ≡ true
rows_ruled_lem opened rules words rows n h done e = ap (rows_ruled rules words) e ∙ h.ruled done

module _ (kind : Kind) (rows bodies : ℕ) (numbers : List Float) (words : List ℕ) (masses given : List Float) (rules : Rules) (opened : Result Unit Refusal) (done : opened ≡ Ok tt) where
  abbrev table : Table
  table = table_of rows bodies numbers words masses

  abbrev problem : Problem
  problem = kind_of kind rows bodies numbers words masses given rules

  opens : told opened ≡ going tt
  opens = rw done

  -- the tolerances, by the rules of the rows, and the residual that is started from
  module _ (tolerances : List Float) (k : ℕ) (ek : k ≡ rows) (gathered : tolerances ≡ tabulate (tolerance_in rules words) k) (starting : List Float) (m : ℕ) (em : m ≡ rows) (written : starting ≡ tabulate (start_in kind numbers given) m) where
    listed : tolerances ≡ tabulate (ruled_by rules table).row rows
    unfolding row_of words_of
    listed = gathered ∙ ap (tabulate (tolerance_in rules words)) ek

    agree : (i : ℕ) → i < rows → tolerances_in tolerances i ≡ (ruled_by rules table).row i
    agree i h = ap (λ (l : List Float). get_or l i nan) listed ∙ get_d_tabulate (ruled_by rules table).row rows i nan h

    starts : (i : ℕ) → i < rows → coefficients starting i ≡ problem.start i
    starts i h = start_at kind rows bodies numbers words masses given (ruled_by rules table).row rows starting (written ∙ ap (tabulate (start_in kind numbers given)) em) i h

    module _ (v : Bool) (ev : v ≡ is_velocity kind) (n : ℕ) (same : n ≡ rows) (a : Result Unit Refusal) (diagonal residual : List Float) (begins : BegunHeld (started_problem v (table_of n bodies numbers words masses) (tolerances_in tolerances) (coefficients starting)) a diagonal residual) where
      held : BegunHeld problem a diagonal residual
      held =
          let here = subst (λ (i : ℕ). BegunHeld (started_problem v (table_of i bodies numbers words masses) (tolerances_in tolerances) (coefficients starting)) a diagonal residual) same begins in
          let kinds = subst (λ (b : Bool). BegunHeld (started_problem b table (tolerances_in tolerances) (coefficients starting)) a diagonal residual) ev here in
          begun_of problem a diagonal residual (begun_same (is_velocity kind) table (tolerances_in tolerances) (ruled_by rules table).row (coefficients starting) problem.start agree starts a diagonal residual kinds)

      pub start_refused : (b : Result Unit Refusal) (e : Refusal) (jacobians : List Float) (links : List ℕ) (pending : List Float) → a ≡ Err e → IsErrAnd b (λ y. y ≡ e) → StartHeld problem opened masses b jacobians links tolerances diagonal pending residual
      unfolding step_zero_of
      start_refused b e jacobians links pending q h = record {
        answered = on_going _ _ _ {s = tt} opens ∙ on_ended _ _ _ {a = number_of e} (held.judgement ∙ rw q) ∙ start_again b e h pending residual;
        started = λ d. absurd (unlike b e h d);
      }

      module _ (began : a ≡ Ok tt) (pending : List Float) (ep : pending ≡ zeros rows) where
        judgement : rows_judged problem ≡ going tt
        judgement = held.judgement ∙ rw began

        begun_is : step_zero_of problem ≡ going (record { solution = pending; residual = residual })
        unfolding step_zero_of
        begun_is = on_going _ _ _ {s = tt} judgement ∙ rw (ep, held.residual_is began)

        pub start_done : (jacobians₀ jacobians : List Float) (links₀ links : List ℕ) (m : ℕ) → length numbers ≡ 27 * rows → length words ≡ 8 * rows → length jacobians₀ ≡ 12 * rows → length links₀ ≡ 2 * rows → m ≡ rows
            → Gathered (λ i. jacobian_of (row_of numbers words i)) m jacobians₀ links₀ jacobians links → StartHeld problem opened masses (Ok tt) jacobians links tolerances diagonal pending residual
        start_done jacobians₀ jacobians links₀ links m en ew ej el em g =
            let here : Gathered (λ i. jacobian_of (row_of numbers words i)) rows jacobians₀ links₀ jacobians links = rw em at g in
            let system : compact_system rows bodies jacobians links masses ≡ system_of table = system_same numbers words rows en ew bodies masses jacobians₀ jacobians links₀ links (g.long_jacobians ∙ ej) (g.long_links ∙ el) here in
            record {
              answered = on_going _ _ _ {s = tt} opens ∙ begun_is;
              started = λ _. record { stands = record { system = system; linked = table_linked problem (rows_passed problem judgement) jacobians links masses system }; tolerances_are = listed; diagonal_is = held.diagonal_is began };
            }
