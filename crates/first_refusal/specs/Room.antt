-- What is lent beside the number, and the place that it names: lengths that do not fit the counts name none.
use Rattle.std.specs.Prelude.{ℕ, ◌*◌, ◌≤◌, ◌≡◌, Bool, cond, List, length, Float}
use Rattle.kapitsa_joint.specs.declared.kind.Kind.{Kind}
use Rattle.kapitsa_joint.specs.declared.kind.Kind.TheVariants as kinds
use Rattle.rules.specs.Rules.{Rules}
use Rattle.check_refusals.specs.Refusals.{given_fits}
use Rattle.check_refusals.specs.declared.fit.TableLengths.{TableLengths}
use Rattle.first_refusal.specs.Place.{place_of}
use Rattle.first_refusal.specs.declared.place.Place.{Place}
use Rattle.first_refusal.specs.declared.place.Place.TheVariants as places

-- refusal 3 of what a solve and a check are given alike: the counts, and the lengths that they call for. A list of multipliers and rule numbers, which are not lent here, have theirs.
abbrev pub lengths_in : ℕ → List Float → List ℕ → List Float → List Float → Rules → TableLengths
lengths_in rows numbers words masses beside s = record {
  numbers = length numbers;
  words = length words;
  masses = length masses;
  beside = length beside;
  multipliers = rows;
  rule_words = length s.words;
  rule_tolerances = length s.tolerances;
  rule_numbers = rows;
}

unfoldable pub tables_fit : Kind → ℕ → ℕ → List Float → List ℕ → List Float → List Float → Rules → Bool
tables_fit kind rows bodies numbers words masses beside s = given_fits kind rows bodies (lengths_in rows numbers words masses beside s)

unfoldable pub place_in : Kind → ℕ → ℕ → List Float → List ℕ → List Float → List Float → Rules → ℕ → ℕ → Place
place_in kind rows bodies numbers words masses beside s number limit =
    cond (tables_fit kind rows bodies numbers words masses beside s) (place_of kind rows bodies numbers words masses beside s number limit) places.None

-- centres of so many bodies are lent, where they are looked at
pub record CentresFrom (kind : Kind) (beside bodies : ℕ) : Type 0 where
  pub long : kind ≡ kinds.Position → 3 * bodies ≤ beside
