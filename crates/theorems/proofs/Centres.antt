-- Centres that agree on the bodies there are: they are judged, lent and moved alike. Assumes nothing.
use Prim.Native.Nat.{ℕ, ◌<◌}
use mathlib.Core.Path.{◌≡◌, sym, ap}
use Rattle.loops.proofs.Every.{every_same}
use Rattle.kapitsa_math.specs.Vector.{is_finite_of}
use Rattle.kapitsa_math.specs.declared.vector.Vec3.{Vec3}
use Rattle.kapitsa_joint.specs.Table.{Table}
use Rattle.kapitsa_joint.specs.Centre.{Centres, flat_centres}
use Rattle.kapitsa_joint.specs.declared.impulse.GeneralizedImpulse.{GeneralizedImpulse}
use Rattle.kapitsa_joint.specs.declared.mass.SolverMass.{SolverMass}
use Rattle.kapitsa_joint.proofs.Centres.{flat_centres_same}
use Rattle.joint_refusals.specs.Refusals.{centres_finite}
use Rattle.position.specs.Centres.{moved_at, moved_by}
use Rattle.theorems.specs.Below.{CentresAlike}

-- a centre for every body of a table
abbrev pub centres_of : Table → (ℕ → Vec3) → Centres
centres_of t centre = record { bodies = t.bodies; at = centre }

module _ (c d : Centres) (w : CentresAlike c d) where
  pub finite_same : centres_finite d ≡ centres_finite c
  unfolding centres_finite
  finite_same = rw w.bodies (every_same _ _ c.bodies (λ b h. ap is_finite_of (w.at b h)))

  pub flat_same : flat_centres d ≡ flat_centres c
  flat_same = sym (flat_centres_same c d (sym w.bodies) (λ b h. sym (w.at b h)))

  -- by masses and impulses that agree on them too
  pub moved_alike : (m n : ℕ → SolverMass) (f g : ℕ → GeneralizedImpulse) → ((b : ℕ) → b < c.bodies → n b ≡ m b) → ((b : ℕ) → b < c.bodies → g b ≡ f b) → CentresAlike (moved_by m f c) (moved_by n g d)
  unfolding moved_at
  moved_alike m n f g masses impulses = record { bodies = w.bodies; at = λ b h. rw (masses b h, impulses b h, w.at b h) }
