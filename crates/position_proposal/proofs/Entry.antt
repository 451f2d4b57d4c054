-- What the entry promises, by what the solve does and what is noted of its answer. Assumes nothing.
use Prim.Native.Nat.{ℕ, ◌*◌, ◌≤◌}
use mathlib.Core.Path.{◌≡◌, refl, sym, ap, ◌∙◌}
use mathlib.Core.Bool.{Bool, true, false, not, ◌&&◌}
use mathlib.Core.List.{List}
use native.Mathlib.Omega.{arith}
use lib.Dec.{eqb}
use lib.ListN.{length}
use lib.Ieee.{Float}
use borrow.Author.Tests.{not-false, eqb-true}
use Rattle.kapitsa_joint.specs.declared.kind.Kind.TheVariants as kinds
use Rattle.loops.specs.Judge.{AllPass}
use Rattle.loops.proofs.Both.{both}
use Rattle.rules.specs.Rules.{Rules}
use Rattle.preconditioner.specs.declared.mode.Mode.{Mode}
use Rattle.position.specs.Kinds.{GivenRoom}
use Rattle.position.specs.Problem.{Problem}
use Rattle.position_delivery.specs.Delivery.{committed_by}
use Rattle.position_delivery.specs.Outcome.{Lent, Outcome}
use Rattle.work_memory.specs.Work.{WorkMemory}
use Rattle.solve_by_rules.specs.Ruled.{rules_lent, centres_lent, SolveRuled}
use Rattle.solve_by_rules.specs.SolveHeld.{SolveHeld}
use Rattle.solve_by_rules.proofs.Naming.{accepted_tests, lent_beside, lent_numbers, lent_rules}
use Rattle.proposals.specs.Proposal.{ProposalMemory, Proposing, words_by, started_by, NotingRoom}
use Rattle.loops.specs.Run.{Run, ended}
use Rattle.position_delivery.specs.declared.answer.PositionPcgResult.{PositionPcgResult}
use Rattle.position_proposal.specs.Proposed.{proposal_lent, lent_by, Proposed}

-- ---- the lengths of what is lent beside the table, where their test passes; b is what it answered
pub record Fitting (rows bodies words started rule_words rule_tolerances rule_numbers centres newCentres : ℕ) : Type 0 where
  pub four : words ≡ 4
  pub started_long : started ≡ rows
  pub rules_long : (3 * rule_tolerances ≤ rule_words) × (rule_tolerances ≤ 64)
  pub numbers_long : rule_numbers ≡ rows
  pub beside : (given : ℕ) → (centres ≡ 3 * bodies) × (newCentres ≡ 3 * bodies) × GivenRoom kinds.Position given rows

pub fitting : (rows bodies words started rule_words rule_tolerances rule_numbers centres newCentres : ℕ) {b : Bool} → b ≡ (proposal_lent rows words started && (rules_lent rows rule_words rule_tolerances rule_numbers && centres_lent bodies centres newCentres)) → not b ≡ false
    → Fitting rows bodies words started rule_words rule_tolerances rule_numbers centres newCentres
unfolding proposal_lent
fitting rows bodies words started rule_words rule_tolerances rule_numbers centres newCentres {b} e h =
    let rest = rules_lent rows rule_words rule_tolerances rule_numbers && centres_lent bodies centres newCentres in
    let (p, r) = both (eqb words 4 && eqb started rows) rest (sym e ∙ not-false b h) in
    let (w, t) = both (eqb words 4) (eqb started rows) p in
    let passed : not rest ≡ false = rw r in
    record {
      four = eqb-true words 4 w;
      started_long = eqb-true started rows t;
      rules_long = lent_rules kinds.Position rows rule_words rule_tolerances rule_numbers bodies centres newCentres 0 refl passed;
      numbers_long = lent_numbers kinds.Position rows rule_words rule_tolerances rule_numbers bodies centres newCentres 0 refl passed;
      beside = λ given. lent_beside kinds.Position rows rule_words rule_tolerances rule_numbers bodies centres newCentres given refl passed;
    }

pub noting_room : (fits : Bool) (p : Problem) (mode : Mode) (limit place n : ℕ) (before after : Lent) {answer : Run PositionPcgResult ℕ} {work workAfter : WorkMemory} {numbers words started : ℕ} → SolveHeld fits p mode limit place n before after answer work workAfter → (fits ≡ true → numbers ≡ 27 * n) → (words ≡ 4) × (started ≡ n)
    → NotingRoom answer numbers words started
unfolding AllPass
noting_room fits p mode limit place n before after held long (four, e) = record {
  four = four;
  room = λ r a. let w = long (accepted_tests fits p mode limit place n before after held.answered r a).0 in omega arith;
}

-- ---- the entry
same : (n : ℕ) (numbers : List Float) (words : List ℕ) (started : List Float) {a₀ a : Run PositionPcgResult ℕ} {words₁ : List ℕ} {x₀ x i₀ i c₀ c started₁ : List Float} → a₀ ≡ a → x₀ ≡ x → i₀ ≡ i → c₀ ≡ c → words₁ ≡ words_by a n words → started₁ ≡ started_by a numbers n started
    → ◌≡◌ {A = Proposing} (record { answer = a₀; memory = record { words = words_by a₀ n words; solution = x₀; impulses = i₀; centres = c₀; started = started_by a₀ numbers n started } }) (record { answer = a; memory = record { words = words₁; solution = x; impulses = i; centres = c; started = started₁ } })
same n numbers words started ea ex ei ec ew es = rw (ea, ex, ei, ec, ew, es)

module _ {fits : Bool} {s : Rules} {p : Problem} {mode : Mode} {limit n : ℕ} {numbers : List Float} {named : List ℕ} {work : WorkMemory} where
  pub proposed_of : {k : ℕ} {m after : ProposalMemory} {namedAfter : List ℕ} {answer : Run PositionPcgResult ℕ} {workAfter : WorkMemory} → k ≡ n → SolveRuled fits s p mode limit 24 n (lent_by numbers m) (lent_by (committed_by 24 answer numbers after.solution) after) named namedAfter answer work workAfter
      → after.words ≡ words_by answer n m.words → after.started ≡ started_by answer numbers k m.started → length after.solution ≡ length m.solution → Proposed fits s p mode limit n numbers m after named namedAfter answer work workAfter
  proposed_of {k} {m} {after} {answer = answer} en h ew es long =
      let told = h.held.answered in
      record {
        answered = same n numbers m.words m.started (ap (λ (o : Outcome). o.answer) told) (ap (λ (o : Outcome). o.lent.solution) told) (ap (λ (o : Outcome). o.lent.impulses) told) (ap (λ (o : Outcome). o.lent.centres) told) ew (es ∙ ap (λ (i : ℕ). started_by answer numbers i m.started) en);
        commits = ap (λ (o : Outcome). o.lent.numbers) told;
        means = h.held.means;
        in_place = h.held.in_place;
        long = long;
        named = h.named;
        ruled = h.ruled;
        memory = h.held.memory;
      }

  -- refusal 3 of what is lent beside the table
  pub unproposed : {m : ProposalMemory} → SolveRuled fits s p mode limit 24 n (lent_by numbers m) (lent_by numbers m) named named (ended 3) work work → Proposed fits s p mode limit n numbers m m named named (ended 3) work work
  unfolding committed_by words_by started_by
  unproposed h = proposed_of refl h refl refl refl
