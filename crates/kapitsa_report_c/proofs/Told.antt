-- What C is told of a place. Assumes nothing.
use Prim.Native.Nat.{ℕ}
use mathlib.Core.Path.{◌≡◌, refl}
use mathlib.Core.Bool.{true, false, not, ◌&&◌}
use mathlib.Core.List.{List, [], ◌∷◌}
use mathlib.Core.Logic.{◌≢◌}
use native.Mathlib.Omega.{arith}
use lib.Dec.{leb, eqb}
use lib.ListN.{length, set}
use borrow.Author.Tests.{ne_eqb, eqb-true, not-true, not-false}
use Rattle.loops.proofs.Both.{both}
use Rattle.kapitsa_joint.specs.declared.kind.Kind.TheVariants as kinds
use Rattle.first_refusal.specs.declared.place.Place.{Place}
use Rattle.kapitsa_report_c.specs.Refusing.{kind_for, place_words, place_fits, place_told}

pub kind_velocity : {velocities : ℕ} → velocities ≡ 1 → kinds.Velocity ≡ kind_for velocities
unfolding kind_for
kind_velocity e = rw e

pub kind_position : {velocities : ℕ} → velocities ≢ 1 → kinds.Position ≡ kind_for velocities
unfolding kind_for
kind_position {velocities} n = rw (ne_eqb velocities 1 n)

pub two_set : (l : List ℕ) (a b : ℕ) → length l ≡ 2 → set (set l 0 a) 1 b ≡ a ∷ (b ∷ [])
two_set [] a b e = absurd (omega arith)
two_set (x ∷ []) a b e = absurd (omega arith)
two_set (x ∷ y ∷ []) a b e = refl
two_set (x ∷ y ∷ z ∷ l) a b e = absurd (omega arith)

pub words_of : {found found' : Place} {after : List ℕ} → found ≡ found' → after ≡ place_words found' → after ≡ place_words found
words_of e h = rw e h

module _ (velocities : ℕ) (place : List ℕ) (found : Place) where
  pub told_3 : not (leb velocities 1 && eqb (length place) 2) ≡ true → record { number = 3; place = place } ≡ place_told (place_fits velocities place) found place
  unfolding place_fits place_told
  told_3 h = rw (not-true (leb velocities 1 && eqb (length place) 2) h)

  pub two_long : not (leb velocities 1 && eqb (length place) 2) ≡ false → length place ≡ 2
  two_long h = eqb-true (length place) 2 (both (leb velocities 1) (eqb (length place) 2) (not-false (leb velocities 1 && eqb (length place) 2) h)).1

  pub told_on : not (leb velocities 1 && eqb (length place) 2) ≡ false → {given : Place} {after : List ℕ} → given ≡ found → after ≡ place_words given → record { number = 0; place = after } ≡ place_told (place_fits velocities place) found place
  unfolding place_fits place_told
  told_on h e w = rw (not-false (leb velocities 1 && eqb (length place) 2) h, w, e)
