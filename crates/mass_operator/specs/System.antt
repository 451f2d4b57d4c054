-- What the mass operator works on: the Jacobian of each row and the mass of each body. A Table gives one; so does its table of sizes, or another kind of rows.
use Rattle.std.specs.Prelude.{ℕ, List, Float}
use Rattle.kapitsa_joint.specs.Row.{jacobian_of}
use Rattle.kapitsa_joint.specs.Mass.{mass_of}
use Rattle.kapitsa_joint.specs.Table.{Table}
use Rattle.kapitsa_joint.specs.declared.row.RowJacobian.{RowJacobian}
use Rattle.kapitsa_joint.specs.declared.mass.SolverMass.{SolverMass}
use Rattle.compact_table.specs.Compact.{compact_of}

pub record System : Type 0 where
  pub rows : ℕ
  pub bodies : ℕ
  pub jacobian : ℕ → RowJacobian
  pub mass : ℕ → SolverMass

abbrev pub system_of : Table → System
system_of t = record { rows = t.rows; bodies = t.bodies; jacobian = λ i. jacobian_of (t.row i); mass = t.mass }

-- the system that the compact table and the masses hold
abbrev pub compact_system : ℕ → ℕ → List Float → List ℕ → List Float → System
compact_system rows bodies jacobians links masses = record { rows = rows; bodies = bodies; jacobian = compact_of jacobians links; mass = mass_of masses }
