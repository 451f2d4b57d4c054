-- The search for the first and for the only rule that applies; the ruleset `searches` closes the needs of `one_rule` and `only_rule`. Assumes nothing.
use Prim.Native.Nat.{ℕ, ◌+◌, ◌<◌, ◌≤◌}
use mathlib.Core.Path.{◌≡◌, sym, ◌∙◌}
use mathlib.Core.Bool.{Bool, true, false, true≢false}
use mathlib.Core.Logic.{◌⊎◌, inl, inr}
use native.Mathlib.Omega.{arith}
use Rattle.loops.proofs.Loop.{loops}
use Rattle.rules.specs.Rules.{Only, only_below}
use Rattle.rules.specs.Found.{First}
use Rattle.rules.proofs.Only.{equal_or_less, less_or_not, only_below_lem, only_is, only_none}

-- the invariant: none from `start` on and below r
pub record Passed (p : ℕ → Bool) (n start r : ℕ) : Type 0 where
  pub from : start ≤ r
  pub within : r ≤ n
  pub none : (q : ℕ) → start ≤ q → q < r → p q ≡ false

module _ {p : ℕ → Bool} {n : ℕ} where
  -- ---- none at all, a second, or one only
  pub found_none : {r : ℕ} → First p n 0 r → n ≤ r → n ≡ only_below p n
  found_none f l = sym (only_none p n (λ q o. let b = o.below in true≢false (sym o.holds ∙ f.none q (omega arith) (omega arith))))

  pub found_second : {r s : ℕ} → First p n 0 r → r < n → First p n (r + 1) s → s < n → n ≡ only_below p n
  found_second {r} {s} f l g m = sym (only_none p n (λ q o. let a = o.alone r l (f.hit l) in let b = o.alone s m (g.hit m) in let c = g.from in omega arith))

  pub found_one : {r s : ℕ} → First p n 0 r → r < n → First p n (r + 1) s → n ≤ s → r ≡ only_below p n
  found_one {r} {s} f l g m = sym (only_is p n r (record { below = l; holds = f.hit l; alone = λ q b h. go q b h (less_or_not q r) }))
    where
      later : (q : ℕ) → q < n → p q ≡ true → (r ≡ q) ⊎ (r < q) → q ≡ r
      later q b h (inl e) = sym e
      later q b h (inr e) = absurd (true≢false (sym h ∙ g.none q (omega arith) (omega arith)))

      go : (q : ℕ) → q < n → p q ≡ true → (q < r) ⊎ (r ≤ q) → q ≡ r
      go q b h (inl e) = absurd (true≢false (sym h ∙ f.none q (omega arith) e))
      go q b h (inr e) = later q b h (equal_or_less r q e)

  -- ---- the first, where there is one only
  pub found_only : {r : ℕ} → First p n 0 r → only_below p n < n → r ≡ only_below p n
  found_only {r} f l = go (less_or_not r n)
    where
      only : Only p n (only_below p n)
      only = only_below_lem p n l

      go : (r < n) ⊎ (n ≤ r) → r ≡ only_below p n
      go (inl b) = only.alone r b (f.hit b)
      go (inr b) = absurd (true≢false (sym only.holds ∙ f.none (only_below p n) (omega arith) (omega arith)))

pub ruleset searches = (found_none, found_second, found_one, found_only, loops)
