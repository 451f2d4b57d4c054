-- The lines of a refused job, by the place that is named: `row_turned` and so on, with room for each, and `row_inside`, that a named row is one of the table. Assumes nothing.
use Prim.Native.Nat.{ℕ, ◌+◌, ◌*◌, ◌<◌, ◌≤◌}
use mathlib.Core.Path.{◌≡◌, refl, sym, ap, ◌∙◌}
use mathlib.Core.Bool.{Bool, true, false, not, cond, ◌&&◌}
use mathlib.Core.List.{List, ◌++◌}
use native.Mathlib.Omega.{arith}
use lib.Dec.{ltb, eqb}
use lib.ListN.{length, get_or}
use lib.Ieee.{Float}
use borrow.Author.Tests.{ltb-true}
use Rattle.kapitsa_joint.specs.declared.kind.Kind.TheVariants.{Position}
use Rattle.rules.specs.Rules.{Rules, two_rules, rule_count}
use Rattle.block_jacobi.specs.Runs.{leading}
use Rattle.first_refusal.specs.Place.{passes_at, count_of, named_at, first_of, place_of}
use Rattle.first_refusal.specs.Room.{tables_fit, place_in}
use Rattle.first_refusal.specs.declared.place.Place.{Place}
use Rattle.first_refusal.specs.declared.place.Place.TheVariants as places
use Rattle.first_refusal.proofs.Places.{given_is}
use Rattle.job_file.specs.Job.{Job, job_with}
use Rattle.job_file.specs.declared.trailer.Trailer.{Trailer}
use Rattle.listing.specs.Lines.{refused_row_line, refused_body_line, refused_limit_line}
use Rattle.listing.specs.Listing.{refused_listing}
use Rattle.listing.specs.Written.{Room}
use Rattle.listing.proofs.Length.{refused_row_short, refused_body_short, refused_limit_short}
use Rattle.job_sheet.specs.Sheet.{place_listing, gaps_turned, turned_of}
use Rattle.job_sheet.specs.declared.which.Sheet.{Sheet}
use Rattle.job_sheet.specs.declared.which.Sheet.TheVariants as sheets

-- ---- room

-- every word being one of 32 bits
pub row_room : (out : List ℕ) (number i : ℕ) (words : List ℕ) (place : ℕ) → number < 4294967296 → i < 4294967296 → ((k : ℕ) → get_or words k 0 < 4294967296) → 16384 ≤ length out → Room out 0 (refused_listing number ++ refused_row_line i (get_or words place 0))
row_room out number i words place n p w l = let s = refused_row_short number i (get_or words place 0) n p (w place) in record { fits = omega arith }

pub body_room : (out : List ℕ) (number b : ℕ) → number < 4294967296 → b < 4294967296 → 16384 ≤ length out → Room out 0 (refused_listing number ++ refused_body_line b)
body_room out number b n p l = let s = refused_body_short number b n p in record { fits = omega arith }

pub limit_room : (out : List ℕ) (number : ℕ) → number < 4294967296 → 16384 ≤ length out → Room out 0 (refused_listing number ++ refused_limit_line)
limit_room out number n l = let s = refused_limit_short number n in record { fits = omega arith }

-- ---- a named row is one of the table

row_same : {i j : ℕ} → places.Row i ≡ places.Row j → i ≡ j
row_same e = cc

-- no place of another kind is a row
body_no : {X : Type 0} {i j : ℕ} → places.Body i ≡ places.Row j → X
body_no e = absurd (let z : ◌≡◌ {A = ℕ} 0 1 = cc in omega arith)

rule_no : {X : Type 0} {i j : ℕ} → places.Rule i ≡ places.Row j → X
rule_no e = absurd (let z : ◌≡◌ {A = ℕ} 0 1 = cc in omega arith)

limit_no : {X : Type 0} {j : ℕ} → places.Limit ≡ places.Row j → X
limit_no e = absurd (let z : ◌≡◌ {A = ℕ} 0 1 = cc in omega arith)

none_no : {X : Type 0} {j : ℕ} → places.None ≡ places.Row j → X
none_no e = absurd (let z : ◌≡◌ {A = ℕ} 0 1 = cc in omega arith)

module _ {i rows : ℕ} where
  bodies_no : (d : Bool) (k : ℕ) → cond d (places.Body k) places.None ≡ places.Row i → i < rows
  bodies_no true k q = body_no q
  bodies_no false k q = none_no q

  rules_no : (d : Bool) (k : ℕ) → cond d (places.Rule k) places.None ≡ places.Row i → i < rows
  rules_no true k q = rule_no q
  rules_no false k q = none_no q

  rows_only : (d : Bool) (k : ℕ) → (d ≡ true → k < rows) → cond d (places.Row k) places.None ≡ places.Row i → i < rows
  rows_only true k l q = let m = l refl in let z = row_same q in omega arith
  rows_only false k l q = none_no q

module _ (rows bodies : ℕ) (numbers : List Float) (words : List ℕ) (masses centres : List Float) (s : Rules) (number limit : ℕ) where
  -- the first that fails, of so many
  abbrev led : ℕ → ℕ
  led n = leading (passes_at Position rows bodies numbers words masses centres s number) n

  first_row : {i : ℕ} → first_of Position rows bodies numbers words masses centres s number ≡ places.Row i → i < rows
  unfolding first_of count_of named_at
  first_row {i} = go (eqb number 6) (eqb number 27)
    where
      go : (a b : Bool) → (let n = cond a bodies (cond b (rule_count s) rows) in cond (ltb (led n) n) (cond a (places.Body (led n)) (cond b (places.Rule (led n)) (places.Row (led n)))) places.None) ≡ places.Row i → i < rows
      go true b h = bodies_no (ltb (led bodies) bodies) (led bodies) h
      go false true h = rules_no (ltb (led (rule_count s)) (rule_count s)) (led (rule_count s)) h
      go false false h = rows_only (ltb (led rows) rows) (led rows) (ltb-true (led rows) rows) h

  row_held : {i : ℕ} → place_in Position rows bodies numbers words masses centres s number limit ≡ places.Row i → 8 * i + 8 ≤ length words
  unfolding place_in place_of
  row_held {i} = go (tables_fit Position rows bodies numbers words masses centres s) (λ h. (given_is Position rows bodies numbers words masses centres s h).words) (eqb number 5 && (not (eqb rows 0) && eqb limit 0))
    where
      go : (d : Bool) → (d ≡ true → length words ≡ 8 * rows) → (f : Bool) → cond d (cond f places.Limit (first_of Position rows bodies numbers words masses centres s number)) places.None ≡ places.Row i → 8 * i + 8 ≤ length words
      go true g false h = let l = first_row h in let w = g refl in omega arith
      go true g true h = limit_no h
      go false g f h = none_no h

-- ---- the lines

module _ (t : Trailer) (numbers : List Float) (words : List ℕ) (masses centres : List Float) (number : ℕ) {place : Place}
    (e : place ≡ place_in Position t.rows t.bodies numbers words masses centres (two_rules t.tolerance) number t.limit) where
  listed : place_listing number words place ≡ gaps_turned (job_with t numbers words masses centres) number
  unfolding gaps_turned
  listed = ap (place_listing number words) e

  pub row_inside : {i : ℕ} → place ≡ places.Row i → 8 * i + 6 < length words
  row_inside p = let h = row_held t.rows t.bodies numbers words masses centres (two_rules t.tolerance) number t.limit (sym e ∙ p) in omega arith

  pub row_turned : {i : ℕ} → place ≡ places.Row i → (refused_listing number ++ refused_row_line i (get_or words (8 * i + 6) 0)) ≡ gaps_turned (job_with t numbers words masses centres) number
  unfolding place_listing
  row_turned p = sym (ap (place_listing number words) p) ∙ listed

  pub body_turned : {b : ℕ} → place ≡ places.Body b → (refused_listing number ++ refused_body_line b) ≡ gaps_turned (job_with t numbers words masses centres) number
  unfolding place_listing
  body_turned p = sym (ap (place_listing number words) p) ∙ listed

  pub rule_turned : {r : ℕ} → place ≡ places.Rule r → refused_listing number ≡ gaps_turned (job_with t numbers words masses centres) number
  unfolding place_listing
  rule_turned p = sym (ap (place_listing number words) p) ∙ listed

  pub limit_turned : place ≡ places.Limit → (refused_listing number ++ refused_limit_line) ≡ gaps_turned (job_with t numbers words masses centres) number
  unfolding place_listing
  limit_turned p = sym (ap (place_listing number words) p) ∙ listed

  pub none_turned : place ≡ places.None → refused_listing number ≡ gaps_turned (job_with t numbers words masses centres) number
  unfolding place_listing
  none_turned p = sym (ap (place_listing number words) p) ∙ listed

-- ---- which program prints

module _ (j : Job) (number : ℕ) {sheet : Sheet} where
  pub job_turned : sheet ≡ sheets.Job → refused_listing number ≡ turned_of sheet j number
  unfolding turned_of
  job_turned e = rw e

  pub margins_turned : sheet ≡ sheets.Margins → refused_listing number ≡ turned_of sheet j number
  unfolding turned_of
  margins_turned e = rw e

  pub gaps_turned_lem : sheet ≡ sheets.Gaps → gaps_turned j number ≡ turned_of sheet j number
  unfolding turned_of
  gaps_turned_lem e = rw e
