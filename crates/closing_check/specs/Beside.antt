-- What is lent beside the table and its list: of positions the centres, document 02, d, and of velocities the residual, document 02, a.
use Rattle.std.specs.Prelude.{ℕ, ◌*◌, ◌≤◌, ◌≡◌, Bool, true, List, Float}
use Rattle.kapitsa_joint.specs.Table.{table_of}
use Rattle.kapitsa_joint.specs.Centre.{centres_in}
use Rattle.kapitsa_joint.specs.Kind.{by_kind}
use Rattle.kapitsa_joint.specs.declared.kind.Kind.{Kind}
use Rattle.kapitsa_joint.specs.declared.kind.Kind.TheVariants as kinds
use Rattle.joint_refusals.specs.Refusals.{centres_finite}
use Rattle.mass_operator.specs.Flat.{coefficients}
use Rattle.rules.specs.Rules.{Rules}
use Rattle.check_range.specs.Closing.{Closing, closing_for}

-- the centres are finite; velocities have none
abbrev pub placed_in : Kind → ℕ → List Float → Bool
placed_in kind bodies beside = by_kind kind (centres_finite (centres_in bodies beside)) true

-- of positions `closing_of`, of velocities `speeds_of`
abbrev pub closing_in : Kind → ℕ → ℕ → List Float → List ℕ → List Float → List Float → List Float → Rules → Closing
closing_in kind rows bodies numbers words masses beside multipliers rules = closing_for kind (table_of rows bodies numbers words masses) (coefficients multipliers) rules (coefficients beside) (placed_in kind bodies beside)

-- centres of so many bodies are lent, where they are looked at
pub record PlacedFrom (kind : Kind) (beside bodies : ℕ) : Type 0 where
  pub long : kind ≡ kinds.Position → 3 * bodies ≤ beside
