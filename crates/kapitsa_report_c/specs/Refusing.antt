-- What C is told of where a solve was turned back: 0 with the place in two words, or 3, and then nothing else.
use Rattle.std.specs.Prelude.{ℕ, Bool, true, false, ◌&&◌, cond, List, [], ◌∷◌, leb, eqb, length}
use Rattle.kapitsa_joint.specs.declared.kind.Kind.{Kind}
use Rattle.kapitsa_joint.specs.declared.kind.Kind.TheVariants as kinds
use Rattle.first_refusal.specs.declared.place.Place.{Place}
use Rattle.first_refusal.specs.declared.place.Place.TheVariants as places

pub record PlaceTold : Type 0 where
  pub number : ℕ
  pub place : List ℕ  -- what, and which

unfoldable pub kind_for : ℕ → Kind
kind_for velocities = cond (eqb velocities 1) kinds.Velocity kinds.Position

abbrev pub place_words : Place → List ℕ
place_words (places.Row i) = 1 ∷ (i ∷ [])
place_words (places.Body b) = 2 ∷ (b ∷ [])
place_words (places.Rule r) = 3 ∷ (r ∷ [])
place_words places.Limit = 4 ∷ (0 ∷ [])
place_words places.None = 0 ∷ (0 ∷ [])

-- refusal 3, of the slice that takes the place, and of the kind: true where it does not apply
unfoldable pub place_fits : ℕ → List ℕ → Bool
place_fits velocities place = leb velocities 1 && eqb (length place) 2

unfoldable pub place_told : Bool → Place → List ℕ → PlaceTold
place_told true found place = record { number = 0; place = place_words found }
place_told false found place = record { number = 3; place = place }
