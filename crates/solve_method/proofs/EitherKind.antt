-- The solve of a kind, over lent lists, is that of positions or of velocities. Assumes nothing.
use Prim.Native.Nat.{ℕ}
use mathlib.Core.List.{List}
use mathlib.Core.Path.{◌≡◌, refl}
use lib.Ieee.{Float}
use Rattle.rules.specs.Rules.{Rules}
use Rattle.kapitsa_joint.specs.declared.kind.Kind.TheVariants as kinds
use Rattle.solve_method.specs.Position.{position_of, solve_for, velocity_of}

module _ (rows bodies : ℕ) (numbers : List Float) (words : List ℕ) (masses centres residual : List Float) (rules : Rules) (shift : Float) where
  pub position_solve : solve_for kinds.Position rows bodies numbers words masses centres residual rules shift ≡ position_of rows bodies numbers words masses centres rules shift
  position_solve = refl

  pub velocity_solve : solve_for kinds.Velocity rows bodies numbers words masses centres residual rules shift ≡ velocity_of rows bodies numbers words masses residual rules shift
  velocity_solve = refl
