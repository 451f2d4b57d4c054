-- The entry: turned back by refusal 3, or judged and the work memory cleared. Assumes nothing.
use Prim.Native.Nat.{ℕ, ◌*◌, ◌≤◌}
use mathlib.Core.Path.{◌≡◌, refl, sym, ap, ◌∙◌}
use mathlib.Core.Bool.{Bool, true, false, not, true≢false, false≢true}
use mathlib.Core.List.{List}
use native.Mathlib.Omega.{arith}
use lib.ListN.{length}
use lib.Ieee.{Float}
use borrow.Author.Tests.{not-true, not-false}
use Rattle.loops.specs.Run.{on, check, ended}
use Rattle.loops.specs.Judge.{judge, test, AllPass}
use Rattle.loops.specs.Cleared.{zeros}
use Rattle.loops.proofs.Both.{both}
use Rattle.kapitsa_joint.specs.Table.{Table}
use Rattle.kapitsa_joint.specs.Centre.{centres_in}
use Rattle.kapitsa_joint.specs.Kind.{is_velocity}
use Rattle.kapitsa_joint.specs.declared.kind.Kind.{Kind}
use Rattle.kapitsa_joint.specs.declared.kind.Kind.TheVariants as kinds
use Rattle.joint_refusals.specs.Refusals.{centres_finite}
use Rattle.rules.specs.Rules.{Rules}
use Rattle.rules.proofs.Ruled.{passes_28}
use Rattle.check_range.specs.Closing.{Closing, closing_for, GivenFrom}
use Rattle.check_refusals.specs.Refusals.{beside_of, given_fits, work_fits, passes3}
use Rattle.check_refusals.specs.declared.fit.TableLengths.{TableLengths}
use Rattle.check_refusals.specs.declared.fit.WorkLengths.{WorkLengths}
use Rattle.check_refusals.proofs.Fitting.{Given, given_of, WorkRoom, work_of}
use Rattle.check_refusals.proofs.Judgement.{passed_tolerances}
use Rattle.check_answer.specs.Answer.{check_of, named_by, CheckAnswer}
use Rattle.check_answer.proofs.Meaning.{Held, means_3, means_of}
use Rattle.check_work.specs.Work.{CheckMemory, memory_of, work_lengths, Room, cleared_memory}
use Rattle.closing_check.specs.Beside.{placed_in, PlacedFrom}
use Rattle.closing_check.specs.Checked.{Checked}

-- ---- what refusal 3 has passed
module _ (kind : Kind) (n b : ℕ) (t : TableLengths) (w : WorkLengths) (h : passes3 kind n b t w ≡ true) where
  given_3 : Given kind n b t
  unfolding passes3
  given_3 = given_of kind n b t (both (given_fits kind n b t) (work_fits n b w) h).0

  work_3 : WorkRoom n b w
  unfolding passes3
  work_3 = work_of n b w (both (given_fits kind n b t) (work_fits n b w) h).1

  pub rows_3 : n ≤ 512
  rows_3 = given_3.rows

  pub rules_3 : (t.rule_words ≡ 3 * t.rule_tolerances) × (t.rule_tolerances ≤ 64) × (t.rule_numbers ≡ n)
  rules_3 = (given_3.rule_words, given_3.rule_tolerances, given_3.rule_numbers)

-- ---- what is lent beside the table: centres, or the residual
placed_from : (kind : Kind) (n b beside : ℕ) → beside ≡ beside_of kind n b → PlacedFrom kind beside b
placed_from kinds.Position n b beside e = record { long = λ _. omega arith }
placed_from kinds.Velocity n b beside e = record { long = λ k. absurd (true≢false (ap is_velocity k)) }

given_from : (kind : Kind) (n b beside : ℕ) → beside ≡ beside_of kind n b → GivenFrom kind beside n
given_from kinds.Position n b beside e = record { long = λ k. absurd (false≢true (ap is_velocity k)) }
given_from kinds.Velocity n b beside e = record { long = λ _. omega arith }

module _ (kind : Kind) (n b : ℕ) (t : TableLengths) (w : WorkLengths) (h : passes3 kind n b t w ≡ true) where
  pub placed_3 : PlacedFrom kind t.beside b
  placed_3 = placed_from kind n b t.beside (given_3 kind n b t w h).beside

  pub residual_3 : GivenFrom kind t.beside n
  residual_3 = given_from kind n b t.beside (given_3 kind n b t w h).beside

-- ---- the ways of `beside_placed`
module _ {kind : Kind} (bodies : ℕ) (beside : List Float) where
  pub placed_judged : {r : Bool} → kind ≡ kinds.Position → r ≡ centres_finite (centres_in bodies beside) → r ≡ placed_in kind bodies beside
  placed_judged k e = rw k e

  pub none_placed : kind ≡ kinds.Velocity → true ≡ placed_in kind bodies beside
  none_placed k = rw k

  pub placed_long : PlacedFrom kind (length beside) bodies → kind ≡ kinds.Position → 3 * bodies ≤ length beside
  placed_long h k = h.long k

-- the last four are the lengths of what is lent beside the table and of the rules, which the work memory has no part in
abbrev lengths : List Float → List ℕ → List Float → List Float → ℕ → ℕ → ℕ → ℕ → TableLengths
lengths numbers words masses multipliers z u v w =
    record { numbers = length numbers; words = length words; masses = length masses; beside = z; multipliers = length multipliers; rule_words = u; rule_tolerances = v; rule_numbers = w }

pub room_3 : (kind : Kind) (n b : ℕ) (numbers : List Float) (words : List ℕ) (masses multipliers : List Float) (z u v w : ℕ) (m : CheckMemory)
    → passes3 kind n b (lengths numbers words masses multipliers z u v w) (work_lengths m) ≡ true → Room n b numbers words masses multipliers m
room_3 kind n b numbers words masses multipliers z u v w m h =
    let t = lengths numbers words masses multipliers z u v w in
    let g = given_3 kind n b t (work_lengths m) h in
    let k = work_3 kind n b t (work_lengths m) h in
    record {
      numbers = g.numbers;
      words = g.words;
      masses = g.masses;
      multipliers = g.multipliers;
      impulses = k.impulses;
      size_impulses = k.size_impulses;
      values = k.values;
      sizes = k.sizes;
    }

pub passed_3 : {p r : Bool} → r ≡ p → not r ≡ false → p ≡ true
passed_3 {p} {r} e h = sym e ∙ not-false r h

-- memory of these lengths, cleared: as long as the memory that was lent
abbrev cleared_to : ℕ → ℕ → ℕ → ℕ → CheckMemory
cleared_to i j v s = memory_of (zeros i) (zeros j) (zeros v) (zeros s)

pub cleared_same : {i i' j j' v v' s s' : ℕ} {after : CheckMemory} → i' ≡ i → j' ≡ j → v' ≡ v → s' ≡ s → after ≡ cleared_to i' j' v' s' → after ≡ cleared_to i j v s
cleared_same a b c d p = rw (a, b, c, d) at p

-- ---- the promise
module _ (kind : Kind) (s : Rules) (t : Table) (listed residual : ℕ → Float) (placed : Bool) (numbers : List ℕ) (before : CheckMemory) {fits r : Bool} (e : r ≡ fits) where
  abbrev c : Closing
  c = closing_for kind t listed s residual placed

  pub checked_3 : not r ≡ true → Checked fits s c (ended 3) numbers numbers before before
  unfolding check_of judge test check on
  checked_3 h =
      let f : fits ≡ false = sym e ∙ not-true r h in
      record { answered = rw f; means = means_3 c f; named = refl; ruled = λ v. absurd (v 3 refl); memory = record { emptied = λ p. absurd (true≢false (sym p ∙ f)); untouched = λ _. refl } }

  -- `found` is what the code found of the centres
  pub checked_on : {found : Bool} {after : CheckMemory} {numbersAfter : List ℕ} {answer : CheckAnswer} → not r ≡ false → Held c → t.rows ≤ 512 → found ≡ placed → answer ≡ check_of true (closing_for kind t listed s residual found)
      → numbersAfter ≡ named_by answer (closing_for kind t listed s residual found) numbers → after ≡ cleared_memory before → Checked fits s c answer numbers numbersAfter before after
  unfolding AllPass
  checked_on {answer = answer} h held few q a named p =
      let f : fits ≡ true = passed_3 e h in
      let answered = a ∙ ap (λ (b : Bool). check_of true (closing_for kind t listed s residual b)) q ∙ ap (λ (b : Bool). check_of b c) (sym f) in
      let means = means_of fits c held (λ _. few) answered in
      record {
        answered = answered;
        means = means;
        named = named ∙ ap (λ (b : Bool). named_by answer (closing_for kind t listed s residual b) numbers) q;
        ruled = λ v. (passes_28 s t).0 (passed_tolerances c (means.verdict.0 v).1).1.0;
        memory = record { emptied = λ _. p; untouched = λ q. absurd (true≢false (sym f ∙ q)) };
      }
