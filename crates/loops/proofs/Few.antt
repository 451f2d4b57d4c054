-- At most three elements, written out one by one, and the ruleset `few` for them. Assumes nothing.
use Prim.Native.Nat.{ℕ, ◌<◌, ◌≤◌}
use mathlib.Core.Path.{◌≡◌, refl}
use mathlib.Core.List.{List}
use native.Mathlib.Omega.{arith}
use borrow.Author.Rules.{rules}
use lib.ListN.{length, set, length-replicate, get_or-replicate}
use Rattle.loops.specs.Cleared.{filled}
use Rattle.loops.proofs.Fill.{Fills, fills_none, fills_more, fills_end}

module _ {X : Type 0} (z : X) (l : List X) where
  abbrev Part : ℕ → List X → Type 0
  Part i m = Fills z (λ k. z) (length l) i m

  whole : (i : ℕ) (m : List X) → Part i m → length l ≤ i → m ≡ filled z l
  whole i m h b = fills_end (filled z l) (length-replicate (length l) z) (λ k p. get_or-replicate (length l) k z z p) h b

  one : 1 ≤ length l → Part 1 (set l 0 z)
  one b = fills_more (fills_none l refl) (omega arith) refl

  two : 2 ≤ length l → Part 2 (set (set l 0 z) 1 z)
  two b = fills_more (one (omega arith)) (omega arith) refl

  three : 3 ≤ length l → Part 3 (set (set (set l 0 z) 1 z) 2 z)
  three b = fills_more (two (omega arith)) (omega arith) refl

  pub few_one : 1 ≤ length l → length l < 2 → set l 0 z ≡ filled z l
  few_one a b = whole 1 _ (one a) (omega arith)

  pub few_two : 2 ≤ length l → length l < 3 → set (set l 0 z) 1 z ≡ filled z l
  few_two a b = whole 2 _ (two a) (omega arith)

  pub few_three : 3 ≤ length l → length l < 4 → set (set (set l 0 z) 1 z) 2 z ≡ filled z l
  few_three a b = whole 3 _ (three a) (omega arith)

pub ruleset few = (few_one, few_two, few_three, rules)
