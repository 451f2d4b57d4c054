-- Impulses in a slice of work memory before their sums begin, and while the responses take their place. Assumes nothing.
use Prim.Native.Nat.{ℕ, ◌+◌, ◌*◌, ◌<◌, ◌≤◌}
use mathlib.Core.Path.{◌≡◌, refl, sym, ap, ◌∙◌}
use mathlib.Core.Bool.{Bool, true, false, cond}
use mathlib.Core.List.{List}
use native.Mathlib.Nat.{add-zero, add_assoc}
use native.Mathlib.Omega.{arith}
use lib.Dec.{eqb}
use lib.ListN.{length, get_or, length-replicate, get_or-replicate}
use lib.Ieee.{Float, nan}
use borrow.Author.Tests.{eqb-true, eqb-false}
use Rattle.loops.specs.Cleared.{plus_zero, cleared}
use Rattle.kapitsa_math.specs.Lent.{spread_of}
use Rattle.kapitsa_joint.specs.Impulse.{paired_of, put_paired_of}
use Rattle.kapitsa_joint.specs.Mass.{mass_of}
use Rattle.kapitsa_joint.specs.declared.row.RowJacobian.{RowJacobian}
use Rattle.kapitsa_joint.specs.declared.impulse.GeneralizedImpulse.{GeneralizedImpulse}
use Rattle.kapitsa_joint.proofs.Stored.{put_paired_length, put_paired_same, put_paired_other}
use Rattle.mass_operator.specs.Operator.{no_impulse, impulse_at, response_of}
use Rattle.mass_operator.specs.Lent.{Paired, Summing}

-- ---- an impulse that is put into the slice
pub put_at : (l : List Float) (b : ℕ) (v : GeneralizedImpulse) (c : ℕ) → 6 * b + 6 ≤ length l → paired_of (put_paired_of l b v) c ≡ cond (eqb b c) v (paired_of l c)
put_at l b v c h = go (eqb b c) (eqb-true b c) (eqb-false b c)
  where
    go : (t : Bool) → (t ≡ true → b ≡ c) → (t ≡ false → b ≡ c → ⊥) → paired_of (put_paired_of l b v) c ≡ cond t v (paired_of l c)
    go true y n = let e : c ≡ b = sym (y refl) in rw e (put_paired_same l b v h)
    go false y n = put_paired_other l b v c (n refl)

-- ---- +0.0 everywhere
clear_impulse : (l : List Float) (b : ℕ) → ((k : ℕ) → k < 6 → get_or l (6 * b + k) nan ≡ plus_zero) → paired_of l b ≡ no_impulse
unfolding paired_of spread_of
clear_impulse l b z =
    let p : get_or l (6 * b) nan ≡ plus_zero = ap (λ (k : ℕ). get_or l k nan) (sym (add-zero (6 * b))) ∙ z 0 (omega arith) in
    let q : get_or l (6 * b + 1 + 2) nan ≡ plus_zero = ap (λ (k : ℕ). get_or l k nan) (add_assoc (6 * b) 1 2) ∙ z 3 (omega arith) in
    let r : get_or l (6 * b + 1 + 4) nan ≡ plus_zero = ap (λ (k : ℕ). get_or l k nan) (add_assoc (6 * b) 1 4) ∙ z 5 (omega arith) in
    rw (p, z 1 (omega arith), z 2 (omega arith), z 4 (omega arith), q, r)

pub none_yet : (j : ℕ → RowJacobian) (x : ℕ → Float) (bodies : ℕ) (l₀ : List Float) {l : List Float} → length l₀ ≡ 6 * bodies → l ≡ cleared l₀ → Summing j x bodies 0 l
unfolding impulse_at
none_yet j x bodies l₀ e c = rw c (record {
  long = length-replicate (length l₀) plus_zero ∙ e;
  at = λ b h. clear_impulse (cleared l₀) b (λ k p. get_or-replicate (length l₀) (6 * b + k) plus_zero nan (omega arith));
})

pub all_rows : {j : ℕ → RowJacobian} {x : ℕ → Float} {bodies i n : ℕ} {l : List Float} → Summing j x bodies i l → i ≤ n → n ≤ i → Summing j x bodies n l
all_rows {i = i} {n = n} h p q = let e : i ≡ n = omega arith in rw e at h

-- ---- one more body in place: the first i have their response, the others their impulse
module _ (masses : List Float) where
  abbrev turned : List Float → ℕ → GeneralizedImpulse
  turned l b = response_of (mass_of masses b) (paired_of l b)

  pub record Turned (bodies i : ℕ) (l₀ l : List Float) : Type 0 where
    pub long : length l ≡ 6 * bodies
    pub at : (b : ℕ) → b < i → paired_of l b ≡ response_of (mass_of masses b) (paired_of l₀ b)
    pub rest : (b : ℕ) → i ≤ b → paired_of l b ≡ paired_of l₀ b

  pub turned_none : (bodies : ℕ) (l : List Float) → length l ≡ 6 * bodies → Turned bodies 0 l l
  turned_none bodies l e = record { long = e; at = λ b h. absurd (omega arith); rest = λ b h. refl }

  pub turned_more : {bodies i : ℕ} {l₀ l l' : List Float} → Turned bodies i l₀ l → i < bodies → l' ≡ put_paired_of l i (response_of (mass_of masses i) (paired_of l i)) → Turned bodies (i + 1) l₀ l'
  turned_more {bodies} {i} {l₀} {l} h p e = rw e (record {
    long = put_paired_length l i (turned l i) ∙ h.long;
    at = λ b t. put_at l i (turned l i) b (omega (arith, h.long)) ∙ go b t (eqb i b) (eqb-true i b) (eqb-false i b);
    rest = λ b t. put_paired_other l i (turned l i) b (apart b t) ∙ h.rest b (omega arith);
  })
    where
      apart : (b : ℕ) → i + 1 ≤ b → i ≡ b → ⊥
      apart b t q = absurd (omega arith)

      less : (b i : ℕ) → b < i + 1 → (i ≡ b → ⊥) → b < i
      less b i s n = omega arith

      go : (b : ℕ) → b < i + 1 → (t : Bool) → (t ≡ true → i ≡ b) → (t ≡ false → i ≡ b → ⊥) → cond t (turned l i) (paired_of l b) ≡ turned l₀ b
      go b s true y n = let q : i ≡ b = y refl in ap (response_of (mass_of masses i)) (h.rest i (omega arith)) ∙ ap (turned l₀) q
      go b s false y n = h.at b (less b i s (n refl))

  pub turned_all : {bodies i : ℕ} {l₀ l : List Float} → Turned bodies i l₀ l → bodies ≤ i → Paired (λ b. response_of (mass_of masses b) (paired_of l₀ b)) bodies l
  turned_all h p = record { long = h.long; at = λ b t. h.at b (omega arith) }
