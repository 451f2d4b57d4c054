-- One tolerance for each dimension: a row's rule is its dimension. Assumes nothing.
use Prim.Native.Nat.{ℕ, zero, suc, ◌<◌, ◌≤◌}
use mathlib.Core.Path.{◌≡◌, sym, ◌∙◌}
use mathlib.Core.Bool.{Bool, true, false, ◌&&◌}
use native.Mathlib.Omega.{arith}
use borrow.Author.Tests.{le-leb, eqb-true, ne_eqb}
use lib.Dec.{eqb}
use Rattle.loops.proofs.Both.{both}
use Rattle.rules.specs.Rules.{Rules, rule_count, rule_dimension, first_key, last_key, applies, Only, rule_for}
use Rattle.rules.specs.Plain.{spans_keys, plain_rules}
use Rattle.rules.proofs.Only.{only_below_lem, only_is}

-- rule d is that of dimension d, from key 0 to key 255
record Spans (s : Rules) (d : ℕ) : Type 0 where
  own : rule_dimension s d ≡ d
  first : first_key s d ≡ 0
  last : last_key s d ≡ 255

module _ (s : Rules) where
  spans : (d : ℕ) → spans_keys s d ≡ true → Spans s d
  unfolding spans_keys
  spans d h =
      let (a, l) = both (eqb (rule_dimension s d) d && eqb (first_key s d) 0) (eqb (last_key s d) 255) h in
      let (o, f) = both (eqb (rule_dimension s d) d) (eqb (first_key s d) 0) a in
      record { own = eqb-true _ _ o; first = eqb-true _ _ f; last = eqb-true _ _ l }

  module _ (plain : plain_rules s ≡ true) where
    two : rule_count s ≡ 2
    unfolding plain_rules
    two = eqb-true _ _ (both (eqb (rule_count s) 2) (spans_keys s 0 && spans_keys s 1) plain).0

    linear : Spans s 0
    unfolding plain_rules
    linear = spans 0 (both (spans_keys s 0) (spans_keys s 1) (both (eqb (rule_count s) 2) (spans_keys s 0 && spans_keys s 1) plain).1).0

    angular : Spans s 1
    unfolding plain_rules
    angular = spans 1 (both (spans_keys s 0) (spans_keys s 1) (both (eqb (rule_count s) 2) (spans_keys s 0 && spans_keys s 1) plain).1).1

    -- a rule that applies is that of the row's dimension
    applies_own : (d k r : ℕ) → r < 2 → applies s d k r ≡ true → r ≡ d
    unfolding applies
    applies_own d k zero l h = sym linear.own ∙ eqb-true _ _ (both _ _ (both _ _ h).0).0
    applies_own d k (suc zero) l h = sym angular.own ∙ eqb-true _ _ (both _ _ (both _ _ h).0).0
    applies_own d k (suc (suc r)) l h = absurd (omega arith)

    -- and it applies, where 4 lets the row pass
    own_applies : (d k : ℕ) → d ≤ 1 → k ≤ 255 → applies s d k d ≡ true
    unfolding applies
    own_applies zero k l m = rw (linear.own, linear.first, linear.last, le-leb 0 k (omega arith), le-leb k 255 m)
    own_applies (suc zero) k l m = rw (angular.own, angular.first, angular.last, le-leb 0 k (omega arith), le-leb k 255 m)
    own_applies (suc (suc d)) k l m = absurd (omega arith)

    plain_only : (d k : ℕ) → d ≤ 1 → k ≤ 255 → Only (applies s d k) (rule_count s) d
    plain_only d k l m = record { below = let n = two in omega arith; holds = own_applies d k l m; alone = λ q b h. applies_own d k q (let n = two in omega arith) h }

pub plain_rule : (s : Rules) (d k : ℕ) {p : Bool} {r : ℕ} → p ≡ plain_rules s → p ≡ true → k ≤ 255 → d ≤ 1 → r ≡ d → r ≡ rule_for s d k
unfolding rule_for
plain_rule s d k e h m l q = q ∙ sym (only_is (applies s d k) (rule_count s) d (plain_only s (sym e ∙ h) d k l m))

pub plain_ruled : (s : Rules) (d k : ℕ) {p : Bool} {r : ℕ} → p ≡ plain_rules s → p ≡ true → rule_for s d k < rule_count s → r ≡ d → r ≡ rule_for s d k
unfolding rule_for
plain_ruled s d k e h l q =
    let o = only_below_lem (applies s d k) (rule_count s) l in
    q ∙ sym (applies_own s (sym e ∙ h) d k (rule_for s d k) (let n = two s (sym e ∙ h) in omega arith) o.holds)

-- ---- what `rules_plain` answers
pub not_two : (s : Rules) → (rule_count s ≡ 2 → ⊥) → false ≡ plain_rules s
unfolding plain_rules
not_two s h = rw (ne_eqb (rule_count s) 2 h)

pub both_span : (s : Rules) {a b : Bool} → rule_count s ≡ 2 → a ≡ spans_keys s 0 → b ≡ spans_keys s 1 → (a && b) ≡ plain_rules s
unfolding plain_rules
both_span s h e f = rw (h, e, f)
