-- The place that is named, from the first that fails. Assumes nothing.
use Prim.Native.Nat.{ℕ, ◌<◌, ◌≤◌}
use mathlib.Core.Path.{◌≡◌, refl, sym, ap, ◌∙◌}
use mathlib.Core.Bool.{Bool, true, false, not, cond, ◌&&◌}
use mathlib.Core.List.{List}
use mathlib.Core.Logic.{◌≢◌}
use native.Mathlib.Omega.{arith}
use lib.Dec.{eqb}
use lib.Ieee.{Float}
use borrow.Author.Tests.{ne_eqb, lt-ltb, le-ltb, not-true, not-false}
use Rattle.kapitsa_joint.specs.declared.kind.Kind.{Kind}
use Rattle.rules.specs.Rules.{Rules, rule_count}
use Rattle.check_refusals.specs.Refusals.{given_fits}
use Rattle.check_refusals.proofs.Fitting.{Given, given_of}
use Rattle.block_jacobi.specs.Runs.{leading}
use Rattle.block_jacobi.proofs.RunsOf.{leading_le}
use Rattle.first_refusal.specs.Place.{passes_at, count_of, named_at, first_of, place_of}
use Rattle.first_refusal.specs.Room.{lengths_in, tables_fit, place_in}
use Rattle.first_refusal.specs.declared.place.Place.{Place}
use Rattle.first_refusal.specs.declared.place.Place.TheVariants as places

-- `count_of`
module _ (number rows bodies rules : ℕ) where
  pub count_bodies : number ≡ 6 → bodies ≡ cond (eqb number 6) bodies (cond (eqb number 27) rules rows)
  count_bodies e = rw e

  pub count_rules : number ≢ 6 → number ≡ 27 → rules ≡ cond (eqb number 6) bodies (cond (eqb number 27) rules rows)
  count_rules n e = rw e

  pub count_rows : number ≢ 6 → number ≢ 27 → rows ≡ cond (eqb number 6) bodies (cond (eqb number 27) rules rows)
  count_rows a b = rw (ne_eqb number 6 a, ne_eqb number 27 b)

regroup : (a b c : Bool) → ((a && b) && c) ≡ (a && (b && c))
regroup true b c = refl
regroup false b c = refl

module _ (kind : Kind) (rows bodies : ℕ) (numbers : List Float) (words : List ℕ) (masses beside : List Float) (s : Rules) where
  -- what the lengths are, once they fit
  pub given_is : tables_fit kind rows bodies numbers words masses beside s ≡ true → Given kind rows bodies (lengths_in rows numbers words masses beside s)
  unfolding tables_fit
  given_is h = given_of kind rows bodies (lengths_in rows numbers words masses beside s) h

  -- no count is above 512
  pub count_few : tables_fit kind rows bodies numbers words masses beside s ≡ true → (number : ℕ) → count_of kind rows bodies numbers words masses beside s number ≤ 512
  unfolding count_of
  count_few h number = let g = given_is h in go (eqb number 6) (eqb number 27) g.rows g.bodies g.rule_tolerances
    where
      go : (a b : Bool) → rows ≤ 512 → bodies ≤ 256 → rule_count s ≤ 64 → cond a bodies (cond b (rule_count s) rows) ≤ 512
      go true b n m k = omega arith
      go false true n m k = omega arith
      go false false n m k = n

  -- the index that a test is made at is that of a row, of a body or of a rule
  pub at_body : {number i : ℕ} → i < count_of kind rows bodies numbers words masses beside s number → number ≡ 6 → i < bodies
  unfolding count_of
  at_body l e = rw e at l

  pub at_rule : {number i : ℕ} → i < count_of kind rows bodies numbers words masses beside s number → number ≡ 27 → i < rule_count s
  unfolding count_of
  at_rule l e = rw e at l

  pub at_row : {number i : ℕ} → i < count_of kind rows bodies numbers words masses beside s number → number ≢ 6 → number ≢ 27 → i < rows
  unfolding count_of
  at_row {number} l a b = rw (ne_eqb number 6 a, ne_eqb number 27 b) at l

  -- `first_place`
  pub count_is : (number : ℕ) {count : ℕ} → count ≡ cond (eqb number 6) bodies (cond (eqb number 27) (rule_count s) rows) → count ≡ count_of kind rows bodies numbers words masses beside s number
  unfolding count_of
  count_is number e = e

  module _ (number : ℕ) {count first : ℕ} (e : count ≡ cond (eqb number 6) bodies (cond (eqb number 27) (rule_count s) rows)) (f : first ≡ leading (passes_at kind rows bodies numbers words masses beside s number) count) where
    first_is : first ≡ leading (passes_at kind rows bodies numbers words masses beside s number) (count_of kind rows bodies numbers words masses beside s number)
    first_is = f ∙ ap (leading (passes_at kind rows bodies numbers words masses beside s number)) (count_is number e)

    pub place_none : count ≤ first → places.None ≡ first_of kind rows bodies numbers words masses beside s number
    unfolding first_of
    place_none l = rw (← first_is, le-ltb first (count_of kind rows bodies numbers words masses beside s number) (rw (count_is number e) at l))

    place_is : first < count → first_of kind rows bodies numbers words masses beside s number ≡ named_at kind rows bodies numbers words masses beside s number first
    unfolding first_of
    place_is l = rw (← first_is, lt-ltb first (count_of kind rows bodies numbers words masses beside s number) (rw (count_is number e) at l))

    pub place_body : first < count → number ≡ 6 → places.Body first ≡ first_of kind rows bodies numbers words masses beside s number
    unfolding named_at
    place_body l q = sym (place_is l ∙ rw q)

    pub place_rule : first < count → number ≡ 27 → places.Rule first ≡ first_of kind rows bodies numbers words masses beside s number
    unfolding named_at
    place_rule l q = sym (place_is l ∙ rw q)

    pub place_row : first < count → number ≢ 6 → number ≢ 27 → places.Row first ≡ first_of kind rows bodies numbers words masses beside s number
    unfolding named_at
    place_row l a b = sym (place_is l ∙ rw (ne_eqb number 6 a, ne_eqb number 27 b))

    pub first_few : tables_fit kind rows bodies numbers words masses beside s ≡ true → first ≤ 512
    first_few h = let c = count_few h number in let l = leading_le (passes_at kind rows bodies numbers words masses beside s number) count in omega (arith, f, count_is number e, c, l)

  -- `first_refused`
  module _ {fits : Bool} (e : fits ≡ given_fits kind rows bodies (lengths_in rows numbers words masses beside s)) (number limit : ℕ) where
    pub fits_is : not fits ≡ false → tables_fit kind rows bodies numbers words masses beside s ≡ true
    unfolding tables_fit
    fits_is h = sym e ∙ not-false fits h

    fits_not : not fits ≡ true → tables_fit kind rows bodies numbers words masses beside s ≡ false
    unfolding tables_fit
    fits_not h = sym e ∙ not-true fits h

    pub refused_none : not fits ≡ true → places.None ≡ place_in kind rows bodies numbers words masses beside s number limit
    unfolding place_in
    refused_none h = rw (fits_not h)

    pub refused_limit : not fits ≡ false → ((eqb number 5 && not (eqb rows 0)) && eqb limit 0) ≡ true → places.Limit ≡ place_in kind rows bodies numbers words masses beside s number limit
    unfolding place_in place_of
    refused_limit h l = rw (fits_is h, sym (regroup (eqb number 5) (not (eqb rows 0)) (eqb limit 0)) ∙ l)

    pub refused_first : not fits ≡ false → ((eqb number 5 && not (eqb rows 0)) && eqb limit 0) ≡ false → {place : Place} → place ≡ first_of kind rows bodies numbers words masses beside s number → place ≡ place_in kind rows bodies numbers words masses beside s number limit
    unfolding place_in place_of
    refused_first h l q = rw (fits_is h, sym (regroup (eqb number 5) (not (eqb rows 0)) (eqb limit 0)) ∙ l) q
