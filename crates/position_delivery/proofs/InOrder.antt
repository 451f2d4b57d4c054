-- Impulses while they are put in the order of document 01: those of the bodies below i are there. Assumes nothing.
use Prim.Native.Nat.{ℕ, ◌+◌, ◌*◌, ◌<◌, ◌≤◌}
use mathlib.Core.Path.{◌≡◌, ◌∙◌}
use mathlib.Core.List.{List}
use native.Mathlib.Omega.{arith}
use borrow.Author.Count.{below_none, below_more}
use lib.ListN.{length}
use lib.Ieee.{Float}
use Rattle.kapitsa_joint.specs.Impulse.{impulse_of, put_impulse_of}
use Rattle.kapitsa_joint.specs.declared.impulse.GeneralizedImpulse.{GeneralizedImpulse}
use Rattle.kapitsa_joint.proofs.Stored.{put_impulse_length, put_impulse_same, put_impulse_other}
use Rattle.mass_operator.specs.Flat.{flat_impulses}
use Rattle.mass_operator.proofs.Flat.{impulses_flat}

pub record Puts (g : ℕ → GeneralizedImpulse) (bodies i : ℕ) (l : List Float) : Type 0 where
  pub within : i ≤ bodies
  pub long : length l ≡ 6 * bodies
  pub there : (b : ℕ) → b < i → impulse_of l b ≡ g b

module _ {g : ℕ → GeneralizedImpulse} {bodies : ℕ} where
  pub puts_none : (l : List Float) → length l ≡ 6 * bodies → Puts g bodies 0 l
  puts_none l e = record { within = omega arith; long = e; there = below_none _ }

  pub puts_more : {i : ℕ} {l l' : List Float} {v : GeneralizedImpulse} → Puts g bodies i l → i < bodies → v ≡ g i → l' ≡ put_impulse_of l i v → Puts g bodies (i + 1) l'
  puts_more {i} {l} {l'} {v} h s ev e =
      let room : 6 * i + 6 ≤ length l = omega (arith, h.long) in
      rw e (record {
        within = omega arith;
        long = put_impulse_length l i v ∙ h.long;
        there = below_more _ _ (λ b p. put_impulse_other l i v b (before b i p) ∙ h.there b p) (put_impulse_same l i v room ∙ ev);
      })
    where
      before : (b i : ℕ) → b < i → i ≡ b → ⊥
      before b i p e = omega arith

  pub puts_end : {i : ℕ} {l : List Float} → Puts g bodies i l → bodies ≤ i → l ≡ flat_impulses g bodies
  puts_end {i} {l} h s = impulses_flat g bodies l (record { long = h.long; at = λ b p. h.there b (omega arith) })
