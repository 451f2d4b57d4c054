-- What is lent beside the table, and the place of the number that grows, by kind. Assumes nothing.
use Prim.Native.Nat.{ℕ, ◌+◌, ◌*◌, ◌<◌, ◌≤◌}
use mathlib.Core.Path.{◌≡◌, sym, ap, ◌∙◌}
use mathlib.Core.List.{List}
use native.Mathlib.Omega.{arith}
use lib.ListN.{length, replicate, take}
use lib.Ieee.{Float}
use Rattle.kapitsa_joint.specs.Kind.{place_of, placed_of}
use Rattle.kapitsa_joint.specs.declared.kind.Kind.{Kind}
use Rattle.kapitsa_joint.specs.declared.kind.Kind.TheVariants as kinds
use Rattle.packed_list.specs.Packed.{group_of}
use Rattle.solve_replay.specs.Seen.{beside_size, beside_group, centres_of}
use Rattle.solve_replay.proofs.Filling.{filled_long}

pub place_below : (kind : Kind) {place : ℕ} → place ≡ place_of kind → place < 27
place_below kinds.Position e = omega arith
place_below kinds.Velocity e = omega arith

pub placed_few : (kind : Kind) (b : ℕ) → placed_of kind b ≤ b
placed_few kinds.Position b = omega arith
placed_few kinds.Velocity b = omega arith

pub size_few : (kind : Kind) (n b : ℕ) → n ≤ 513 → b ≤ 257 → beside_size kind n b ≤ 771
size_few kinds.Position n b p q = omega arith
size_few kinds.Velocity n b p q = omega arith

-- the centres are among what is lent
pub placed_within : (kind : Kind) (n b : ℕ) → 3 * placed_of kind b ≤ beside_size kind n b
placed_within kinds.Position n b = omega arith
placed_within kinds.Velocity n b = omega arith

-- ---- where w and v stand for n and b
module _ (kind : Kind) {n b w v : ℕ} (p : w ≡ n) (q : v ≡ b) where
  pub size_same : beside_size kind w v ≡ beside_size kind n b
  size_same = rw (p, q)

  pub beside_lent_lem : {words : List ℕ} → words ≡ replicate (beside_size kind n b) 0 → words ≡ replicate (beside_size kind w v) 0
  beside_lent_lem e = e ∙ ap (λ (k : ℕ). replicate k 0) (sym size_same)

  pub beside_unpacked : (list : List ℕ) (at : ℕ) {x : ℕ × List ℕ} → x ≡ beside_group kind list at w v → x ≡ beside_group kind list at n b
  beside_unpacked list at e = e ∙ rw (p, q)

-- three times as many numbers as bodies with a centre
pub centres_taken : (kind : Kind) (b : ℕ) (beside : List Float) {three w placed : ℕ} → three ≡ 3 * w → w ≡ placed → placed ≡ placed_of kind b → take three beside ≡ centres_of kind b beside
centres_taken kind b beside e f g = rw (e, f, g)

-- ---- the ways of `unpack_beside`
module _ (kind : Kind) (at n b : ℕ) (words : List ℕ) (e : words ≡ replicate (beside_size kind n b) 0) where
  size_of : {k : ℕ} → beside_size kind n b ≡ k → length words ≡ k
  size_of q = filled_long 0 (beside_size kind n b) words e ∙ q

  -- as `unpack` asks for it
  pub centres_fit_lem : at < 3000000000 → b ≤ 257 → kind ≡ kinds.Position → (at < 4000000000) × (length words ≡ 3 * b) × (length words ≤ 20000)
  centres_fit_lem h l k = let s = size_of (ap (λ (x : Kind). beside_size x n b) k) in (omega arith, s, omega arith)

  pub residual_fits : at < 3000000000 → n ≤ 513 → kind ≡ kinds.Velocity → (at < 4000000000) × (length words ≡ 1 * n) × (length words ≤ 20000)
  residual_fits h l k = let s = size_of (ap (λ (x : Kind). beside_size x n b) k) in (omega arith, omega arith, omega arith)

  pub beside_near : n ≤ 513 → b ≤ 257 → (r : ℕ) → r ≤ at + 9 * length words → r ≤ at + 180000
  beside_near l m r h = omega (arith, size_few kind n b l m, filled_long 0 (beside_size kind n b) words e)

  module _ (list : List ℕ) {x : ℕ × List ℕ} where
    pub centres_unpacked : kind ≡ kinds.Position → x ≡ group_of list at 3 words b → x ≡ beside_group kind list at n b
    centres_unpacked k g = let f : words ≡ replicate (3 * b) 0 = e ∙ ap (λ (y : Kind). replicate (beside_size y n b) 0) k in rw k (g ∙ ap (λ (y : List ℕ). group_of list at 3 y b) f)

    pub residual_unpacked : kind ≡ kinds.Velocity → x ≡ group_of list at 1 words n → x ≡ beside_group kind list at n b
    residual_unpacked k g = let f : words ≡ replicate n 0 = e ∙ ap (λ (y : Kind). replicate (beside_size y n b) 0) k in rw k (g ∙ ap (λ (y : List ℕ). group_of list at 1 y n) f)
