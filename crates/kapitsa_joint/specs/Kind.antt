-- The two kinds of a solve and of a check: positions and, document 02, a, velocities.
use Rattle.std.specs.Prelude.{ℕ, Bool, true, false}
use Rattle.kapitsa_joint.specs.declared.kind.Kind.{Kind}
use Rattle.kapitsa_joint.specs.declared.kind.Kind.TheVariants as kinds

abbrev pub by_kind : {X : Type 0} → Kind → X → X → X
by_kind kinds.Position x y = x
by_kind kinds.Velocity x y = y

-- whether 7 is judged of all rows first, and the factor before the count 0 test
abbrev pub is_velocity : Kind → Bool
is_velocity kind = by_kind kind false true

-- the place of a row's number that grows: accumulated_multiplier is 24 of its 27, accumulated_impulse 25
abbrev pub place_of : Kind → ℕ
place_of kind = by_kind kind 24 25

-- how many bodies have a centre: "Velocity solves give no centres"
abbrev pub placed_of : Kind → ℕ → ℕ
placed_of kind bodies = by_kind kind bodies 0
