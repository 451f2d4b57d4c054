-- Where a test fails there is a place: it is not None. Assumes nothing.
use Prim.Native.Nat.{ℕ, ◌<◌}
use mathlib.Core.Path.{◌≡◌, refl, sym, ap, ◌∙◌}
use mathlib.Core.Bool.{Bool, true, false, not, cond, ◌&&◌, true≢false}
use mathlib.Core.List.{List}
use native.Mathlib.Omega.{arith}
use lib.Dec.{ltb, eqb}
use lib.Ieee.{Float}
use borrow.Author.Tests.{ltb-false}
use Rattle.kapitsa_joint.specs.declared.kind.Kind.{Kind}
use Rattle.rules.specs.Rules.{Rules}
use Rattle.block_jacobi.specs.Runs.{leading}
use Rattle.block_jacobi.proofs.RunsOf.{leading_passes}
use Rattle.first_refusal.specs.Place.{passes_at, count_of, named_at, first_of, place_of}
use Rattle.first_refusal.specs.declared.place.Place.TheVariants as places

row_some : {i : ℕ} → places.Row i ≡ places.None → ⊥
row_some e = let z : ◌≡◌ {A = ℕ} 0 1 = cc in omega arith

body_some : {i : ℕ} → places.Body i ≡ places.None → ⊥
body_some e = let z : ◌≡◌ {A = ℕ} 0 1 = cc in omega arith

rule_some : {i : ℕ} → places.Rule i ≡ places.None → ⊥
rule_some e = let z : ◌≡◌ {A = ℕ} 0 1 = cc in omega arith

limit_some : places.Limit ≡ places.None → ⊥
limit_some e = let z : ◌≡◌ {A = ℕ} 0 1 = cc in omega arith

-- the first that fails is there where one fails
first_there : (p : ℕ → Bool) (n i : ℕ) → i < n → p i ≡ false → ltb (leading p n) n ≡ true
first_there p n i l f = go (ltb (leading p n) n) refl
  where
    go : (b : Bool) → ltb (leading p n) n ≡ b → b ≡ true
    go true e = refl
    go false e = absurd (true≢false (sym (leading_passes p n i (omega (arith, l, ltb-false (leading p n) n e))) ∙ f))

module _ (kind : Kind) (rows bodies : ℕ) (numbers : List Float) (words : List ℕ) (masses beside : List Float) (s : Rules) where
  named_some : (number i : ℕ) → named_at kind rows bodies numbers words masses beside s number i ≡ places.None → ⊥
  unfolding named_at
  named_some number i = go (eqb number 6) (eqb number 27)
    where
      go : (a b : Bool) → cond a (places.Body i) (cond b (places.Rule i) (places.Row i)) ≡ places.None → ⊥
      go true b e = body_some e
      go false true e = rule_some e
      go false false e = row_some e

  pub somewhere : (number limit i : ℕ) → i < count_of kind rows bodies numbers words masses beside s number → passes_at kind rows bodies numbers words masses beside s number i ≡ false → place_of kind rows bodies numbers words masses beside s number limit ≡ places.None → ⊥
  unfolding place_of first_of
  somewhere number limit i l f =
      go (eqb number 5 && (not (eqb rows 0) && eqb limit 0)) (ltb (leading (passes_at kind rows bodies numbers words masses beside s number) (count_of kind rows bodies numbers words masses beside s number)) (count_of kind rows bodies numbers words masses beside s number))
      (first_there (passes_at kind rows bodies numbers words masses beside s number) (count_of kind rows bodies numbers words masses beside s number) i l f)
    where
      go : (a b : Bool) → b ≡ true → cond a places.Limit (cond b (named_at kind rows bodies numbers words masses beside s number (leading (passes_at kind rows bodies numbers words masses beside s number) (count_of kind rows bodies numbers words masses beside s number))) places.None) ≡ places.None → ⊥
      go true b t e = limit_some e
      go false true t e = named_some number _ e
      go false false t e = true≢false (sym t)

  -- by the limit
  pub limited : (limit : ℕ) → (not (eqb rows 0) && eqb limit 0) ≡ true → place_of kind rows bodies numbers words masses beside s 5 limit ≡ places.None → ⊥
  unfolding place_of
  limited limit h e = limit_some (sym (ap (λ (b : Bool). cond b places.Limit (first_of kind rows bodies numbers words masses beside s 5)) h) ∙ e)
