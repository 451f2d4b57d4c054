-- What is judged of a table alone, 4, 6 and 7, is the same of tables that agree below their counts. Assumes nothing.
use Prim.Native.Nat.{ℕ, ◌<◌}
use mathlib.Core.Path.{◌≡◌, ap}
use mathlib.Core.Bool.{true}
use Rattle.loops.proofs.Every.{every_same}
use Rattle.kapitsa_joint.specs.Row.{jacobian_of}
use Rattle.kapitsa_joint.specs.Table.{Table}
use Rattle.kapitsa_joint.specs.declared.row.ConstraintRow.{ConstraintRow}
use Rattle.joint_refusals.specs.Refusals.{passes4, mass_finite_of, passes6, passes7, is_valid_of}
use Rattle.joint_refusals.proofs.Valid.{valid_bodies}
use Rattle.mass_operator.specs.System.{system_of}
use Rattle.theorems.specs.Below.{TablesAlike}
use Rattle.theorems.proofs.Systems.{SystemsAgree}

-- ---- refusal 7: a row that passes it has its bodies below the body count
pub valid_below : (n : ℕ) (r : ConstraintRow) → is_valid_of n r ≡ true → (r.words.body_a < n) × (r.words.body_b < n)
valid_below n r h = let v = valid_bodies n r h in (v.a, v.b)

-- both bodies of row i have a mass
abbrev pub BodiesBelow : Table → ℕ → Type 0
BodiesBelow t i = ((t.row i).words.body_a < t.bodies) × ((t.row i).words.body_b < t.bodies)

-- the counts of t, the rows and masses of u
abbrev pub table_with : Table → Table → Table
table_with t u = record { rows = t.rows; bodies = t.bodies; row = u.row; mass = u.mass }

module _ (t u : Table) (w : TablesAlike t u) where
  pub fours : passes4 (table_with t u) ≡ passes4 t
  unfolding passes4
  fours = every_same _ _ t.rows (λ i h. (w.row i h).fit)

  pub sixes : passes6 (table_with t u) ≡ passes6 t
  unfolding passes6
  sixes = every_same _ _ t.bodies (λ b h. ap mass_finite_of (w.mass b h))

  pub valid_same : (i : ℕ) → i < t.rows → is_valid_of t.bodies (u.row i) ≡ is_valid_of t.bodies (t.row i)
  valid_same i h = (w.row i h).valid

  pub sevens : passes7 (table_with t u) ≡ passes7 t
  unfolding passes7
  sevens = every_same _ _ t.rows valid_same

  -- where 7 has passed
  pub systems_agree : ((i : ℕ) → i < t.rows → BodiesBelow t i) → SystemsAgree (system_of t) (λ i. jacobian_of (u.row i)) u.mass
  unfolding jacobian_of
  systems_agree inside = record {
    jacobians = λ i h. (w.row i h).jacobian;
    masses = w.mass;
    a_below = λ i h. (inside i h).0;
    b_below = λ i h. (inside i h).1;
  }
