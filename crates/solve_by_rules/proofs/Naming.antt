-- The commit and the rule of each row, from what the solve by rules promises. Assumes nothing.
use Prim.Native.Nat.{ℕ, ◌*◌, ◌<◌, ◌≤◌}
use mathlib.Core.Path.{◌≡◌, refl, sym, ap, ◌∙◌}
use mathlib.Core.Bool.{Bool, true, false, not, ◌&&◌}
use mathlib.Core.List.{List}
use native.Mathlib.Omega.{arith}
use lib.Dec.{leb, eqb}
use lib.ListN.{length}
use lib.Ieee.{Float}
use borrow.Author.Tests.{not-true, not-false, eqb-true, leb-true}
use Rattle.loops.specs.Run.{Run, going, ended, on}
use Rattle.loops.specs.Judge.{AllPass}
use Rattle.loops.specs.Tabulate.{tabulate}
use Rattle.loops.proofs.Both.{both}
use Rattle.loops.proofs.Judge.{judge_going}
use Rattle.kapitsa_joint.specs.Row.{row_of, words_of}
use Rattle.kapitsa_joint.specs.Kind.{by_kind, place_of, placed_of}
use Rattle.kapitsa_joint.specs.declared.kind.Kind.{Kind}
use Rattle.kapitsa_joint.specs.declared.kind.Kind.TheVariants as kinds
use Rattle.kapitsa_joint.specs.Table.{Table, table_of}
use Rattle.rules.specs.Rules.{Rules, rule_lengths_fit, Ruled}
use Rattle.rules.specs.Rows.{rule_in, rows_ruled}
use Rattle.rules.proofs.Lent.{lent_28}
use Rattle.rules.proofs.Ruled.{passes_28}
use Rattle.preconditioner.specs.declared.mode.Mode.{Mode}
use Rattle.position.specs.Problem.{Problem}
use Rattle.position.specs.Kinds.{GivenRoom}
use Rattle.solve_method.specs.Method.{opening_of, opening_tests, method_of}
use Rattle.solve_method.specs.Position.{solve_for}
use Rattle.position_delivery.specs.Delivery.{CommitRoom, committed_by}
use Rattle.position_delivery.specs.Outcome.{Lent, Outcome, proposal_of, outcome_at}
use Rattle.position_delivery.specs.declared.answer.PositionPcgResult.{PositionPcgResult}
use Rattle.steps.specs.Solve.{solve}
use Rattle.work_memory.specs.Work.{WorkMemory}
use Rattle.solve_by_rules.specs.SolveHeld.{SolveHeld}
use Rattle.solve_by_rules.specs.Ruled.{rules_lent, residual_lent, centres_lent, beside_lent, NamingRoom, NamingRuled, named_by, SolveRuled}
use Rattle.solve_by_rules.proofs.Entry.{solve_apart, solved_three}

-- ---- an accepted answer has passed what is judged before step 0
module _ (fits : Bool) (p : Problem) (mode : Mode) (limit place n : ℕ) (before after : Lent) {answer : Run PositionPcgResult ℕ} (answered : outcome_at place n before (solve (method_of fits p mode) limit) ≡ record { answer = answer; lent = after }) (r : PositionPcgResult)
    (accepted : answer ≡ going r) where
  accepted_opens : opening_of fits p limit ≡ going tt
  unfolding proposal_of solve on
  accepted_opens = go (opening_of fits p limit) refl
    where
      told : (outcome_at place n before (solve (method_of fits p mode) limit)).answer ≡ going r
      told = ap (λ (o : Outcome). o.answer) answered ∙ accepted

      go : (o : Run Unit ℕ) → opening_of fits p limit ≡ o → opening_of fits p limit ≡ going tt
      go (going u) e = e
      go (ended k) e = absurd (let h : ended k ≡ going r = rw e at told in let z : ◌≡◌ {A = ℕ} 0 1 = cc in omega arith)

  pub accepted_tests : AllPass (opening_tests fits p limit)
  unfolding opening_of
  accepted_tests = (judge_going (opening_tests fits p limit)).0 accepted_opens

-- ---- the lengths of the rules and of what is lent beside the table; r and k are what their tests answered
module _ (kind : Kind) (rows words tolerances numbers bodies centres newCentres given : ℕ) {r k : Bool} (er : r ≡ rules_lent rows words tolerances numbers) (ek : k ≡ beside_lent kind rows bodies centres newCentres given) where
  pub lent_tests : (r && k) ≡ (rules_lent rows words tolerances numbers && beside_lent kind rows bodies centres newCentres given)
  lent_tests = rw (er, ek)

given_room : (kind : Kind) (given rows : ℕ) → by_kind kind true (residual_lent rows given) ≡ true → GivenRoom kind given rows
unfolding residual_lent
given_room kinds.Position given rows h = record { long = λ e. absurd (let z : ◌≡◌ {A = ℕ} 0 1 = cc in omega arith) }
given_room kinds.Velocity given rows h = record { long = λ _. eqb-true given rows h }

module _ (kind : Kind) (rows words tolerances numbers bodies centres newCentres given : ℕ) {b : Bool} (e : b ≡ (rules_lent rows words tolerances numbers && beside_lent kind rows bodies centres newCentres given)) (h : not b ≡ false) where
  lent_both : (rules_lent rows words tolerances numbers ≡ true) × (beside_lent kind rows bodies centres newCentres given ≡ true)
  lent_both = both (rules_lent rows words tolerances numbers) (beside_lent kind rows bodies centres newCentres given) (sym e ∙ not-false b h)

  lent_parts : (rule_lengths_fit words tolerances ≡ true) × (eqb numbers rows ≡ true)
  unfolding rules_lent
  lent_parts = both (rule_lengths_fit words tolerances) (eqb numbers rows) lent_both.0

  pub lent_beside : (centres ≡ 3 * placed_of kind bodies) × (newCentres ≡ 3 * placed_of kind bodies) × GivenRoom kind given rows
  unfolding centres_lent
  lent_beside =
      let (g, c) = both (by_kind kind true (residual_lent rows given)) (centres_lent (placed_of kind bodies) centres newCentres) lent_both.1 in
      let (p, q) = both (eqb centres (3 * placed_of kind bodies)) (eqb newCentres (3 * placed_of kind bodies)) c in
      (eqb-true centres (3 * placed_of kind bodies) p, eqb-true newCentres (3 * placed_of kind bodies) q, given_room kind given rows g)

  pub lent_rules : (3 * tolerances ≤ words) × (tolerances ≤ 64)
  unfolding rule_lengths_fit
  lent_rules =
      let (p, q) = both (leb tolerances 64) (eqb words (3 * tolerances)) lent_parts.0 in
      let l = eqb-true words (3 * tolerances) q in
      (omega arith, leb-true tolerances 64 p)

  pub lent_numbers : numbers ≡ rows
  lent_numbers = eqb-true numbers rows lent_parts.1

-- ---- what takes the rules has the rows' words beside it
pub naming_room : (fits : Bool) (p : Problem) (mode : Mode) (limit place n : ℕ) (before after : Lent) {answer : Run PositionPcgResult ℕ} {work workAfter : WorkMemory} {numbers words : ℕ} → SolveHeld fits p mode limit place n before after answer work workAfter
    → (fits ≡ true → words ≡ 8 * n) → numbers ≡ n → NamingRoom answer numbers words
unfolding AllPass
naming_room fits p mode limit place n before after held long e = record {
  room = λ r a. let w = long (accepted_tests fits p mode limit place n before after held.answered r a).0 in omega arith;
}

-- and each row is under one rule and no second
module _ (kind : Kind) (s : Rules) (rows bodies : ℕ) (numbers : List Float) (words : List ℕ) (masses centres given : List Float) (shift : Float) (mode : Mode) (limit : ℕ) (before : Lent) {fits : Bool} {after : Lent} {answer : Run PositionPcgResult ℕ} {work workAfter : WorkMemory}
    (held : SolveHeld fits (solve_for kind rows bodies numbers words masses centres given s shift) mode limit (place_of kind) rows before after answer work workAfter) where
  passed : (r : PositionPcgResult) → answer ≡ going r → AllPass (opening_tests fits (solve_for kind rows bodies numbers words masses centres given s shift) limit)
  passed r c = accepted_tests fits (solve_for kind rows bodies numbers words masses centres given s shift) mode limit (place_of kind) rows before after held.answered r c

  pub naming_ruled : {k : ℕ} → (fits ≡ true → length words ≡ 8 * rows) → k ≡ rows → NamingRuled answer s words k
  unfolding AllPass
  naming_ruled long e = record {
    room = λ r c. let w = long (passed r c).0 in omega arith;
    ruled = λ r c. ap (rows_ruled s words) e ∙ lent_28 s rows bodies numbers words masses ∙ (passed r c).1.1.1.1.0;
  }

-- ---- the commit: what it has room for, and what it leaves
within : (kind : Kind) {place : ℕ} → place ≡ place_of kind → place < 27
within kinds.Position e = omega arith
within kinds.Velocity e = omega arith

pub commit_room : (kind : Kind) (fits : Bool) (p : Problem) (mode : Mode) (limit n : ℕ) (before after : Lent) {answer : Run PositionPcgResult ℕ} {work workAfter : WorkMemory} {place solution numbers : ℕ} → SolveHeld fits p mode limit (place_of kind) n before after answer work workAfter
    → place ≡ place_of kind → (fits ≡ true → numbers ≡ 27 * n) → (fits ≡ true → solution ≡ n) → CommitRoom place answer solution numbers
unfolding AllPass
commit_room kind fits p mode limit n before after held e rows long = record {
  within = within kind e;
  room = λ r a. let f = (accepted_tests fits p mode limit (place_of kind) n before after held.answered r a).0 in let w = rows f in let l = long f in omega arith;
}

pub committed_held : (kind : Kind) (numbers : List Float) {fits : Bool} {p : Problem} {mode : Mode} {limit n place : ℕ} {before : Lent} {numbersAfter solution impulses centres : List Float} {answer : Run PositionPcgResult ℕ} {work workAfter : WorkMemory} → place ≡ place_of kind → numbersAfter ≡ committed_by place answer numbers solution
    → SolveHeld fits p mode limit (place_of kind) n before (record { numbers = committed_by (place_of kind) answer numbers solution; solution = solution; impulses = impulses; centres = centres }) answer work workAfter
    → SolveHeld fits p mode limit (place_of kind) n before (record { numbers = numbersAfter; solution = solution; impulses = impulses; centres = centres }) answer work workAfter
committed_held kind numbers e h held = rw (h, e) held

-- ---- the entry, of either kind; b is what the test of the lengths of what is lent beside the table answered
module _ (kind : Kind) (s : Rules) (rows bodies : ℕ) (numbers : List Float) (words : List ℕ) (masses centres given : List Float) (shift : Float) (mode : Mode) (limit : ℕ) (before : Lent) (named : List ℕ) (work : WorkMemory) (a b q : Bool) (e : b ≡ a) where
  abbrev t : Table
  t = table_of rows bodies numbers words masses

  abbrev p : Problem
  p = solve_for kind rows bodies numbers words masses centres given s shift

  pub ruled_three : not b ≡ true → SolveRuled (a && q) s p mode limit (place_of kind) rows before before named named (ended 3) work work
  ruled_three h =
      let none : a ≡ false = sym e ∙ not-true b h in
      record {
        held = solved_three (a && q) p mode limit (place_of kind) rows before work (a && q) (solve_apart kind rows bodies numbers words masses centres given s shift) refl (rw none);
        named = refl;
        ruled = λ r c. absurd (let z : ◌≡◌ {A = ℕ} 0 1 = cc in omega arith);
      }

  module _ {after : Lent} {answer : Run PositionPcgResult ℕ} {workAfter : WorkMemory} (h : not b ≡ false) (held : SolveHeld q p mode limit (place_of kind) rows before after answer work workAfter) where
    each_ruled : (r : PositionPcgResult) → answer ≡ going r → Ruled s t
    unfolding AllPass
    each_ruled r c = (passes_28 s t).0 (accepted_tests q p mode limit (place_of kind) rows before after held.answered r c).1.1.1.1.0

    pub ruled_on : (n : ℕ) (after-named : List ℕ) → n ≡ rows → after-named ≡ named_by answer (rule_in s words) n named → SolveRuled (a && q) s p mode limit (place_of kind) rows before after named after-named answer work workAfter
    unfolding row_of words_of
    ruled_on n after-named en l =
        let passed : a ≡ true = sym e ∙ not-false b h in
        rw passed (record { held = held; named = l ∙ ap (λ (k : ℕ). named_by answer (rule_in s words) k named) en; ruled = each_ruled })

-- ---- `name_accepted`, `name_ruled`
module _ (a : Run PositionPcgResult ℕ) (rule : ℕ → ℕ) (n : ℕ) (before : List ℕ) where
  pub named_accepted : {r : PositionPcgResult} {l : List ℕ} → a ≡ going r → l ≡ tabulate rule n → l ≡ named_by a rule n before
  named_accepted e h = rw e h

  pub named_refused : {k : ℕ} → a ≡ ended k → before ≡ named_by a rule n before
  named_refused e = rw e
