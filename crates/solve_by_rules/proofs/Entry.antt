-- The ways through the solve: refusal 3, and the outcome of what is counted, proposed and committed. Assumes nothing.
use Prim.Native.Nat.{ℕ, ◌*◌, ◌<◌, ◌≤◌}
use mathlib.Core.Path.{◌≡◌, sym, ap, ◌∙◌}
use mathlib.Core.Bool.{Bool, true, false, not}
use mathlib.Core.List.{List}
use native.Mathlib.Omega.{arith}
use lib.ListN.{length}
use lib.Ieee.{Float}
use borrow.Author.Tests.{not-false}
use Rattle.loops.specs.Run.{Run, next, ended}
use Rattle.loops.specs.Judge.{judge}
use Rattle.kapitsa_joint.specs.Table.{Table, table_of}
use Rattle.kapitsa_joint.specs.Centre.{centres_in}
use Rattle.kapitsa_joint.specs.Kind.{place_of, placed_of}
use Rattle.kapitsa_joint.specs.declared.kind.Kind.{Kind}
use Rattle.kapitsa_joint.specs.declared.kind.Kind.TheVariants as kinds
use Rattle.joint_refusals.specs.Refusals.{centres_finite}
use Rattle.rules.specs.Rules.{Rules}
use Rattle.mass_operator.specs.Flat.{coefficients}
use Rattle.preconditioner.specs.declared.mode.Mode.{Mode}
use Rattle.position.specs.Multipliers.{accumulated_in}
use Rattle.position.specs.Problem.{Problem}
use Rattle.recurrence.specs.Step.{Iterate}
use Rattle.solve_method.specs.Method.{method_of, after_three}
use Rattle.solve_method.specs.Places.{Apart}
use Rattle.solve_method.specs.Position.{kind_of, solve_for, steps_for}
use Rattle.solve_method.proofs.InPlace.{problem_in_place, position_apart, velocity_apart}
use Rattle.solve_method.specs.Counting.{counted_of}
use Rattle.position_iteration.specs.Standing.{iterated_out}
use Rattle.std.specs.Prelude.{Option, Result}
use Rattle.refusals.specs.Told.{told}
use Rattle.refusals.specs.declared.Refusal.{Refusal}
use Rattle.position_steps.specs.Counting.{CountHeld}
use Rattle.position_steps.proofs.Counted.{counted_of_lem}
use Rattle.position_delivery.specs.Delivery.{committed_by, finished_of}
use Rattle.position_delivery.specs.Outcome.{Lent, Outcome, outcome_at}
use Rattle.position_delivery.proofs.Accumulated.{delivered_in}
use Rattle.position_delivery.proofs.Answered.{delivered_of, entry_refused, entry_on, entry_means}
use Rattle.work_memory.specs.Work.{WorkMemory, cleared_steps, cleared_table}
use Rattle.work_memory.proofs.Cleared.{work_cleared, after_three_lem, after_cleared}
use Rattle.position_delivery.specs.declared.answer.PositionPcgResult.{PositionPcgResult}
use Rattle.solve_by_rules.specs.SolveHeld.{SolveHeld}

-- what has passed 3
pub fits_true : (b fits : Bool) → b ≡ fits → not b ≡ false → fits ≡ true
fits_true b fits e h = sym e ∙ not-false b h

-- no number stands twice, of either kind
pub solve_apart : (kind : Kind) (rows bodies : ℕ) (numbers : List Float) (words : List ℕ) (masses centres given : List Float) (rules : Rules) (shift : Float) → Apart (solve_for kind rows bodies numbers words masses centres given rules shift)
solve_apart kinds.Position rows bodies numbers words masses centres given rules shift = position_apart (table_of rows bodies numbers words masses) rules shift _
solve_apart kinds.Velocity rows bodies numbers words masses centres given rules shift = velocity_apart (table_of rows bodies numbers words masses) rules shift (coefficients given)

-- where the number that grows stands, and how many bodies have a centre
pub placing : (kind : Kind) (bodies : ℕ) {place placed centres newCentres : ℕ} → place ≡ place_of kind → placed ≡ placed_of kind bodies → centres ≡ 3 * placed_of kind bodies → newCentres ≡ 3 * placed_of kind bodies
    → (place < 27) × (placed ≤ bodies) × (centres ≡ 3 * placed) × (newCentres ≡ 3 * placed)
placing kinds.Position bodies e f c d = (omega arith, omega arith, omega arith, omega arith)
placing kinds.Velocity bodies e f c d = (omega arith, omega arith, omega arith, omega arith)

-- the entry; b is what the test of refusal 3 answered
module _ (fits : Bool) (p : Problem) (mode : Mode) (limit place n : ℕ) (before : Lent) (work : WorkMemory) (b : Bool) (apart : Apart p) (e : b ≡ fits) where
  pub solved_three : not b ≡ true → SolveHeld fits p mode limit place n before before (ended 3) work work
  solved_three h =
      let q = entry_refused p mode place n limit before b fits e h in
      record { answered = q; means = entry_means (method_of fits p mode) limit place n before before (ended 3) q; in_place = problem_in_place p mode fits limit apart; memory = after_three_lem b fits e work h }

  -- told by what a commit makes of the rows
  pub proposed_three : not b ≡ true
      → SolveHeld fits p mode limit place n before (record { numbers = committed_by place (ended 3) before.numbers before.solution; solution = before.solution; impulses = before.impulses; centres = before.centres }) (ended 3) work work
  unfolding committed_by
  proposed_three h = solved_three h

  solved_on : (x : Run (Bool × ℕ × Iterate) ℕ) (after : Lent) (answer : Run PositionPcgResult ℕ) (workAfter : WorkMemory) → not b ≡ false → counted_of mode p limit ≡ x
      → outcome_at place n before (next x (finished_of p.table p.accumulated p.centres)) ≡ record { answer = answer; lent = after } → workAfter.steps ≡ cleared_steps work.steps → workAfter.table ≡ cleared_table work.table
      → SolveHeld fits p mode limit place n before after answer work workAfter
  solved_on x after answer workAfter h counted d es et =
      let o : Outcome = record { answer = answer; lent = after } in
      let answered = entry_on p mode place n limit before b fits e o h (delivered_of p mode place n limit before x o counted d) in
      record { answered = answered; means = entry_means (method_of fits p mode) limit place n before after answer answered; in_place = problem_in_place p mode fits limit apart; memory = after_cleared b fits e work workAfter h (work_cleared work workAfter es et) }

-- what is lent, the rows as a commit leaves them
abbrev left : List Float → ℕ → Run PositionPcgResult ℕ → List Float → List Float → List Float → Lent
left numbers place answer solution impulses new = record { numbers = committed_by place answer numbers solution; solution = solution; impulses = impulses; centres = new }

-- judged, counted and proposed, of either kind
module _ (kind : Kind) (rows bodies : ℕ) (numbers : List Float) (words : List ℕ) (masses centres given : List Float) (rules : Rules) (shift : Float) (mode : Mode) (limit : ℕ) (before : Lent) (work : WorkMemory) (fits b : Bool) (e : b ≡ fits)
    (long : length centres ≡ 3 * placed_of kind bodies) where
  abbrev problem : Problem
  problem = solve_for kind rows bodies numbers words masses centres given rules shift

  abbrev table : Table
  table = table_of rows bodies numbers words masses

  pub solved_kind : (m : Mode) → m ≡ mode → (placed : ℕ) → placed ≡ placed_of kind bodies → (finite : Bool) → finite ≡ centres_finite (centres_in placed centres)
      → (opened : Result Unit Refusal) → judge (after_three (steps_for kind rows bodies numbers words masses given rules shift finite) limit) ≡ told opened → (place : ℕ) → place ≡ place_of kind
      → (jacobians : List Float) (links : List ℕ) (pending residual : List Float) (c : Result (Option ℕ) Refusal) (answer : Run PositionPcgResult ℕ) (solution impulses new : List Float) (workAfter : WorkMemory) → not b ≡ false
      → CountHeld m (kind_of kind rows bodies numbers words masses given rules) opened limit masses c jacobians links pending residual work.steps workAfter.steps
      → outcome_at place rows before (next (iterated_out c limit pending residual) (finished_of table (accumulated_in place numbers) (centres_in placed centres))) ≡ record { answer = answer; lent = left numbers place answer solution impulses new } → workAfter.table ≡ cleared_table work.table
      → SolveHeld fits problem mode limit (place_of kind) rows before (left numbers (place_of kind) answer solution impulses new) answer work workAfter
  solved_kind m em placed ep finite ef opened eo place epl jacobians links pending residual c answer solution impulses new workAfter h held d et =
      let found = ef ∙ ap (λ (k : ℕ). centres_finite (centres_in k centres)) ep in
      let counted = counted_of_lem kind rows bodies numbers words masses centres given rules shift m limit finite opened found eo ∙ held.answered in
      let x = iterated_out c limit pending residual in
      let after = left numbers (place_of kind) answer solution impulses new in
      let o : Outcome = record { answer = answer; lent = after } in
      solved_on fits problem mode limit (place_of kind) rows before work b (solve_apart kind rows bodies numbers words masses centres given rules shift) e x after answer workAfter h
      (ap (λ (k : Mode). counted_of k problem limit) (sym em) ∙ counted)
      (delivered_in kind rows bodies numbers words masses centres given rules shift long place placed rows before x o epl ep (d ∙ ap (λ (k : ℕ). record { answer = answer; lent = left numbers k answer solution impulses new }) epl)) held.memory et
