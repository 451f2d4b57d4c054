-- Document 02, n: "Cataloguers number the same links in another order. With every body number in range ... renumbering bodies throughout a job, masses moved along". "The order of rows stays fixed."
use Rattle.std.specs.Prelude.{ℕ, ◌<◌, ◌≡◌}
use Rattle.kapitsa_joint.specs.Table.{Table}
use Rattle.kapitsa_joint.specs.Centre.{Centres}
use Rattle.kapitsa_joint.specs.declared.row.ConstraintRow.{ConstraintRow}
use Rattle.kapitsa_joint.specs.declared.row.RowWords.{RowWords}

-- p has the new number of each body and q its old one: below n they are inverse to each other
pub record Renumbering (n : ℕ) (p q : ℕ → ℕ) : Type 0 where
  pub new_below : (b : ℕ) → b < n → p b < n
  pub old_below : (b : ℕ) → b < n → q b < n
  pub back : (b : ℕ) → b < n → q (p b) ≡ b
  pub forth : (b : ℕ) → b < n → p (q b) ≡ b

-- "With every body number in range"; a row's two bodies need not differ, such a row is 7 on both sides
pub record InRange (t : Table) : Type 0 where
  pub a_below : (i : ℕ) → i < t.rows → (t.row i).words.body_a < t.bodies
  pub b_below : (i : ℕ) → i < t.rows → (t.row i).words.body_b < t.bodies

-- ---- a row with the new numbers, of which all else stays
unfoldable pub bodies_by : (ℕ → ℕ) → RowWords → RowWords
bodies_by p w = record {
  key = w.key;
  dimension = w.dimension;
  body_a = p w.body_a;
  body_b = p w.body_b;
  force_driven = w.force_driven;
  position_enabled = w.position_enabled;
  owner = w.owner;
  spare = w.spare;
}

unfoldable pub renumbered_row : (ℕ → ℕ) → ConstraintRow → ConstraintRow
renumbered_row p r = record {
  linear_a = r.linear_a;
  angular_a = r.angular_a;
  position_angular_a = r.position_angular_a;
  linear_b = r.linear_b;
  angular_b = r.angular_b;
  scalars = r.scalars;
  words = bodies_by p r.words;
}

-- ---- a table with the new numbers, "masses moved along": body b has the mass of its old number
abbrev pub renumber : (ℕ → ℕ) → (ℕ → ℕ) → Table → Table
renumber p q t = record {
  rows = t.rows;
  bodies = t.bodies;
  row = λ i. renumbered_row p (t.row i);
  mass = λ b. t.mass (q b);
}

-- and so its centre
abbrev pub renumbered_centres : (ℕ → ℕ) → Centres → Centres
renumbered_centres q c = record { bodies = c.bodies; at = λ b. c.at (q b) }
