-- The first row of each body: the ways through `first_row`, and where a row's columns can begin. Assumes nothing.
use Prim.Native.Nat.{ℕ, ◌+◌, ◌*◌, ◌<◌, ◌≤◌}
use mathlib.Core.Path.{◌≡◌, ap}
use mathlib.Core.Bool.{false, ◌||◌}
use mathlib.Core.List.{List}
use native.Mathlib.Decide.{ℕ_discrete}
use native.Mathlib.Omega.{arith}
use lib.Dec.{eqb}
use lib.ListN.{get_or}
use borrow.Author.Tests.{ne_eqb}
use Rattle.pairs.specs.Gather.{shares_in, share_in, Begin, Firsts, FirstNoted}

-- ---- where a row begins
pub firsts_none : (links firsts : List ℕ) → Firsts links firsts 0
firsts_none links firsts = record { a = λ k l. absurd (omega arith); b = λ k l. absurd (omega arith) }

-- a body whose first row is above k is none of row k
apart : {links firsts : List ℕ} {i : ℕ} → Firsts links firsts i → (body k : ℕ) → k < i → k < get_or firsts body 0 → (eqb body (get_or links (2 * k) 0) || eqb body (get_or links (2 * k + 1) 0)) ≡ false
apart {links} {firsts} h body k l u = rw (
  ne_eqb body (get_or links (2 * k) 0) (λ e. omega (arith, ap (λ x. get_or firsts x 0) e, h.a k l)),
  ne_eqb body (get_or links (2 * k + 1) 0) (λ e. omega (arith, ap (λ x. get_or firsts x 0) e, h.b k l)),
)

module _ (links firsts₀ firsts₁ firsts : List ℕ) (i w r s : ℕ) (ew : w ≡ i) (h : Firsts links firsts₀ i) (x : FirstNoted firsts₀ firsts₁ (get_or links (2 * w) 0) i r)
    (y : FirstNoted firsts₁ firsts (get_or links (2 * w + 1) 0) i s) where
  pub begin_lower : (m : ℕ) → m ≤ r → m ≤ s → Begin (share_in links) i m
  unfolding share_in shares_in
  begin_lower m l u = rw (← ew) (record { within = omega (arith, x.within, ew); none = none })
    where
      none : (k : ℕ) → k < m → share_in links w k ≡ false
      none k lt = rw (
        apart h (get_or links (2 * w) 0) k (omega (arith, x.within)) (omega (arith, x.before)),
        apart h (get_or links (2 * w + 1) 0) k (omega (arith, x.within)) (omega (arith, y.before, x.lower (get_or links (2 * w + 1) 0))),
      )

  pub firsts_more : Firsts links firsts (i + 1)
  firsts_more = record { a = λ k l. at_a k l (ℕ_discrete k i); b = λ k l. at_b k l (ℕ_discrete k i) }
    where
      lower : (c : ℕ) → get_or firsts c 0 ≤ get_or firsts₀ c 0
      lower c = omega (arith, x.lower c, y.lower c)

      at_a : (k : ℕ) → k < i + 1 → Dec (k ≡ i) → get_or firsts (get_or links (2 * k) 0) 0 ≤ k
      at_a k l (yes z) = rw (z, ← ew) (omega (arith, x.noted, y.lower (get_or links (2 * w) 0), ew))
      at_a k l (no z) = omega (arith, lower (get_or links (2 * k) 0), h.a k (omega arith))

      at_b : (k : ℕ) → k < i + 1 → Dec (k ≡ i) → get_or firsts (get_or links (2 * k + 1) 0) 0 ≤ k
      at_b k l (yes z) = rw (z, ← ew) (omega (arith, y.noted, ew))
      at_b k l (no z) = omega (arith, lower (get_or links (2 * k + 1) 0), h.b k (omega arith))
