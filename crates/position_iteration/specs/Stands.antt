-- What stands in lent memory after the step that is counted.
use Rattle.std.specs.Prelude.{ℕ, ◌≡◌, List, Float, Result, Ok, Option, Some, None}
use Rattle.kapitsa_joint.specs.Table.{Table}
use Rattle.compact_table.specs.Compact.{Linked}
use Rattle.mass_operator.specs.System.{system_of, compact_system}
use Rattle.refusals.specs.declared.Refusal.{Refusal}

-- what stands in the compact table: it is the system of the table
pub record Stands (t : Table) (masses jacobians : List Float) (links : List ℕ) : Type 0 where
  pub system : compact_system t.rows t.bodies jacobians links masses ≡ system_of t
  pub linked : Linked links t.rows t.bodies

-- of an answer that is not refused the compact table stands
pub record StandsAfter (t : Table) (masses : List Float) (answer : Result (Option ℕ) Refusal) (jacobians : List Float) (links : List ℕ) : Type 0 where
  pub met : (count : ℕ) → answer ≡ Ok (Some count) → Stands t masses jacobians links
  pub spent : answer ≡ Ok None → Stands t masses jacobians links
