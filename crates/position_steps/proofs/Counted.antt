-- The count: what is judged before step 0, step 0, and what follows it. Assumes nothing.
use Prim.Native.Nat.{ℕ}
use mathlib.Core.Path.{◌≡◌, refl, sym, ap, ◌∙◌}
use mathlib.Core.Bool.{Bool, true, false}
use mathlib.Core.List.{List}
use native.Mathlib.Omega.{arith}
use lib.ListN.{get_or, length}
use lib.Ieee.{Float, nan}
use Rattle.loops.specs.Run.{Run, going, ended, on, next, check}
use Rattle.loops.specs.Judge.{judge}
use Rattle.loops.specs.Every.{every}
use Rattle.loops.specs.Cleared.{zeros}
use Rattle.loops.proofs.Loop.{on_going, on_ended}
use Rattle.loops.proofs.Tabulate.{get_d_tabulate}
use Rattle.kapitsa_joint.specs.Row.{row_of, words_of}
use Rattle.kapitsa_joint.specs.Table.{Table, table_of, tolerances_in}
use Rattle.kapitsa_joint.specs.Centre.{Centres, centres_in, no_centres}
use Rattle.joint_refusals.specs.Refusals.{centres_finite}
use Rattle.joint_refusals.specs.Tolerances.{Tolerances}
use Rattle.rules.specs.Rules.{Rules, ruled_by}
use Rattle.mass_operator.specs.System.{System, system_of, compact_system}
use Rattle.preconditioner.specs.Factor.{factor_judged}
use Rattle.preconditioner.specs.Apply.{preconditioned}
use Rattle.preconditioner.specs.Room.{Memory, Roomy}
use Rattle.preconditioner.specs.Held.{joints_in}
use Rattle.preconditioner.specs.declared.mode.Mode.{Mode}
use Rattle.recurrence.specs.Step.{Iterate, Carried}
use Rattle.position.specs.Problem.{Problem, with_tests}
use Rattle.kapitsa_joint.specs.Kind.{is_velocity, placed_of}
use Rattle.position.specs.Prepare.{row_judged, valid_judged, diagonals_judged, rows_judged, diagonals, residuals}
use Rattle.position.specs.Residual.{meets_of}
use Rattle.kapitsa_joint.specs.declared.kind.Kind.{Kind}
use Rattle.kapitsa_joint.specs.declared.kind.Kind.TheVariants as kinds
use Rattle.std.specs.Prelude.{Result, Ok, Err, Option}
use Rattle.refusals.specs.Number.{number_of}
use Rattle.refusals.specs.Told.{told}
use Rattle.refusals.specs.declared.Refusal.{Refusal}
use Rattle.steps.specs.Solve.{counting}
use Rattle.solve_method.specs.Method.{owner_of, after_three, factor_here, begin_of, first_of, method_of}
use Rattle.solve_method.specs.Counting.{counted_of}
use Rattle.solve_method.specs.Position.{shift_tests, solve_for, kind_of, steps_for}
use Rattle.position_iteration.specs.Standing.{iterated_out}
use Rattle.position_iteration.specs.Stands.{Stands}
use Rattle.work_memory.specs.Work.{StepMemory, cleared_steps}
use Rattle.position_steps.specs.Start.{step_zero_of, Started, StartHeld, Linking, start_out}
use Rattle.position_steps.specs.Running.{looping_by, stepping_by, running_of, following_of}
use Rattle.position_steps.specs.Counting.{CountHeld}
use Rattle.position_steps.proofs.Openings.{counted_after}
use Rattle.position_steps.proofs.Stepping.{next_same, following_same}

-- one after the other, from either side
next_next : {S T U A : Type 0} (r : Run S A) (f : S → Run T A) (g : T → Run U A) → next (next r f) g ≡ next r (λ s. next (f s) g)
unfolding on
next_next (going s) f g = refl
next_next (ended a) f g = refl

module _ (p : Problem) (mode : Mode) (limit : ℕ) where
  abbrev following : Iterate → Run (Bool × ℕ × Iterate) ℕ
  following = following_of p.factor_first mode (system_of p.table) (owner_of p.table) (diagonals p.table) p.tolerance limit

  -- step 0 and what follows it: with the factor first it is judged in step 0, before the count 0 test
  pub in_turn : counting (method_of true p mode) limit ≡ next (step_zero_of p) following
  unfolding counting begin_of step_zero_of following_of running_of stepping_by looping_by first_of factor_here check on
  in_turn = next_next (rows_judged p) _ _ ∙ next_same (rows_judged p) _ _ (λ _. go p.factor_first) ∙ sym (next_next (rows_judged p) _ _)
    where
      t : Table
      t = p.table

      first : Iterate
      first = record { solution = zeros t.rows; residual = residuals t p.start }

      looping : Iterate → Carried → Run (Bool × ℕ × Iterate) ℕ
      looping v = looping_by (preconditioned mode (system_of t) (owner_of t) (diagonals t)) (system_of t) p.tolerance limit v

      rest : Bool → Iterate → Run (Bool × ℕ × Iterate) ℕ
      rest b v = check (meets_of p.tolerance v.residual t.rows) (going (true, 0, v)) (next (first_of b mode (system_of t) (owner_of t) (diagonals t) v) (looping v))

      go : (b : Bool) → next (next (factor_here b mode (system_of t) (owner_of t) (diagonals t)) (λ _. going first)) (rest b) ≡ next (going first) (following_of b mode (system_of t) (owner_of t) (diagonals t) p.tolerance limit)
      go true = next_next (factor_judged mode (system_of t) (owner_of t) (diagonals t)) _ _
      go false = ap (check (meets_of p.tolerance first.residual t.rows) (going (true, 0, first))) (next_next (factor_judged mode (system_of t) (owner_of t) (diagonals t)) _ _)

-- the steps do not look at the tests before them, nor at the centres
pub counting_tested : (options : List (ℕ × Bool)) (limits : Tolerances) (placed : Bool) (c : Centres) (p : Problem) (mode : Mode) (limit : ℕ) → counting (method_of true (with_tests options limits placed c p) mode) limit ≡ counting (method_of true p mode) limit
unfolding counting begin_of rows_judged valid_judged diagonals_judged row_judged
counting_tested options limits placed c p mode limit = refl

-- ---- what `run_steps` asks
pub start_linked : (p : Problem) (opened : Result Unit Refusal) (masses : List Float) (a : Result Unit Refusal) (jacobians : List Float) (links : List ℕ) (tolerances diagonal pending residual : List Float) (w : ℕ) → StartHeld p opened masses a jacobians links tolerances diagonal pending residual → w ≡ p.table.bodies → Linking a links p.table.rows w
start_linked p opened masses a jacobians links tolerances diagonal pending residual w h e = record { linked = λ q. rw e (h.started q).stands.linked }

pub start_roomy : (mode : Mode) (n : ℕ) (m : Memory) (diagonal : List Float) → Roomy mode n m → length diagonal ≡ length m.diagonal → Roomy mode n record { diagonal = diagonal; pattern = m.pattern; order = m.order; values = m.values }
start_roomy mode n m diagonal r e = record { diagonal_long = e ∙ r.diagonal_long; pattern_long = r.pattern_long; order_long = r.order_long; values_long = r.values_long }

-- ---- `count_steps`
module _ (kind : Kind) (rows bodies : ℕ) (numbers : List Float) (words : List ℕ) (masses given : List Float) (rules : Rules) (opened : Result Unit Refusal) (mode : Mode) (limit : ℕ) (a : Result Unit Refusal) (jacobians : List Float) (links : List ℕ) (tolerances diagonal pending residual : List Float) where
  abbrev table : Table
  table = table_of rows bodies numbers words masses

  abbrev problem : Problem
  problem = kind_of kind rows bodies numbers words masses given rules

  abbrev code : Bool → ℕ → Iterate → Run (Bool × ℕ × Iterate) ℕ
  code b w = following_of b mode (compact_system rows w jacobians links masses) (joints_in words) diagonal (tolerances_in tolerances) limit

  abbrev coded : Iterate → Run (Bool × ℕ × Iterate) ℕ
  coded = code (is_velocity kind) bodies

  same_step : Started problem masses jacobians links tolerances diagonal → length residual ≡ rows → coded (record { solution = pending; residual = residual }) ≡ following problem mode limit (record { solution = pending; residual = residual })
  unfolding row_of words_of
  same_step h long =
      let v : Iterate = record { solution = pending; residual = residual } in
      ap (λ (s : System). following_of (is_velocity kind) mode s (joints_in words) diagonal (tolerances_in tolerances) limit v) h.stands.system
      ∙ ap (λ (d : List Float). following_of (is_velocity kind) mode (system_of table) (owner_of table) d (tolerances_in tolerances) limit v) h.diagonal_is
      ∙ following_same (is_velocity kind) mode (system_of table) (owner_of table) (diagonals table) (tolerances_in tolerances) (ruled_by rules table).row limit v (λ i l. ap (λ (x : List Float). get_or x i nan) h.tolerances_are ∙ get_d_tabulate (ruled_by rules table).row rows i nan l) long

  module _ (held : StartHeld problem opened masses a jacobians links tolerances diagonal pending residual) (long : length residual ≡ rows) (b : Bool) (eb : b ≡ is_velocity kind) (w : ℕ) (ew : w ≡ bodies) (o : Result (Option ℕ) Refusal) (x r : List Float) (called : next (start_out a pending residual) (code b w) ≡ iterated_out o limit x r) where
    here : next (start_out a pending residual) coded ≡ iterated_out o limit x r
    here = ap (λ (f : Bool). next (start_out a pending residual) (code f bodies)) (sym eb) ∙ ap (λ (i : ℕ). next (start_out a pending residual) (code b i)) (sym ew) ∙ called

    follows : (q : Result Unit Refusal) → a ≡ q → next (start_out q pending residual) (following problem mode limit) ≡ next (start_out q pending residual) coded
    follows (Ok u) e = on_going _ _ _ refl ∙ sym (same_step (held.started e) long) ∙ sym (on_going _ _ _ refl)
    follows (Err k) e = on_ended _ _ _ refl ∙ sym (on_ended _ _ _ refl)

    answers : next (told opened) (λ _. counting (method_of true problem mode) limit) ≡ iterated_out o limit x r
    answers =
        next_same (told opened) _ _ (λ _. in_turn problem mode limit)
        ∙ sym (next_next (told opened) (λ _. step_zero_of problem) (following problem mode limit))
        ∙ ap (λ (q : Run Iterate ℕ). next q (following problem mode limit)) held.answered
        ∙ follows a refl
        ∙ here

    -- where the answer is no refusal, step 0 was none
    stands : (q : Result Unit Refusal) → a ≡ q → (p : Bool × ℕ × Iterate) → iterated_out o limit x r ≡ going p → Stands table masses jacobians links
    stands (Ok u) e p h = (held.started e).stands
    stands (Err k) e p h = absurd (let y : ended (number_of k) ≡ going p = sym (on_ended _ _ _ refl) ∙ ap (λ (q : Result Unit Refusal). next (start_out q pending residual) coded) (sym e) ∙ here ∙ h in let z : ◌≡◌ {A = ℕ} 0 1 = cc in omega arith)

    pub count_held : (before after : StepMemory) → after ≡ cleared_steps before → CountHeld mode problem opened limit masses o jacobians links x r before after
    count_held before after m = record {
      answered = answers;
      counted = record { met = λ k e. stands a refl (true, k, record { solution = x; residual = r }) (rw e); spent = λ e. stands a refl (false, limit, record { solution = x; residual = r }) (rw e) };
      memory = m;
    }

-- ---- the count of a solve: it follows what was judged of its numbers and whether its centres are finite
module _ (kind : Kind) (rows bodies : ℕ) (numbers : List Float) (words : List ℕ) (masses centres given : List Float) (rules : Rules) (shift : Float) (mode : Mode) (limit : ℕ) (placed : Bool) (opened : Result Unit Refusal) where
  abbrev limits : Tolerances
  limits = ruled_by rules (table_of rows bodies numbers words masses)

  abbrev solved : Kind → Problem
  solved k = solve_for k rows bodies numbers words masses centres given rules shift

  abbrev stepped : Kind → Problem
  stepped k = kind_of k rows bodies numbers words masses given rules

  pub counted_of_lem : placed ≡ centres_finite (centres_in (placed_of kind bodies) centres) → judge (after_three (steps_for kind rows bodies numbers words masses given rules shift placed) limit) ≡ told opened
      → counted_of mode (solved kind) limit ≡ next (told opened) (λ _. counting (method_of true (stepped kind) mode) limit)
  unfolding centres_finite every
  counted_of_lem e h = go kind e h
    where
      go : (k : Kind) → placed ≡ centres_finite (centres_in (placed_of k bodies) centres) → judge (after_three (steps_for k rows bodies numbers words masses given rules shift placed) limit) ≡ told opened
          → counted_of mode (solved k) limit ≡ next (told opened) (λ _. counting (method_of true (stepped k) mode) limit)
      go kinds.Position q h = counted_after (solved kinds.Position) mode limit opened (rw q at h) ∙ next_same (told opened) _ _ (λ _. counting_tested (shift_tests shift) limits (centres_finite (centres_in bodies centres)) (centres_in bodies centres) (stepped kinds.Position) mode limit)
      go kinds.Velocity q h = counted_after (solved kinds.Velocity) mode limit opened (rw q at h) ∙ next_same (told opened) _ _ (λ _. counting_tested (shift_tests shift) limits true no_centres (stepped kinds.Velocity) mode limit)
