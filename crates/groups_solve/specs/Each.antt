-- The groups below g are solved, one after the other: what the loop over them has made of the table.
use Rattle.std.specs.Prelude.{ℕ, ◌+◌, ◌*◌, ◌<◌, ◌≤◌, ◌≡◌, List, get_or, Float}
use Rattle.std.specs.Float.{nan}
use Rattle.kapitsa_joint.specs.Kind.{placed_of}
use Rattle.group_table.specs.Pick.{rows_of, pick_rows}
use Rattle.group_step.specs.Bench.{Bench, Lending}
use Rattle.group_step.specs.Group.{GroupSolved}

-- the rows of the groups from g on are as they were
pub record LaterRows {X : Type 0} (d : X) (width : ℕ) (groups : List ℕ) (g n : ℕ) (before after : List X) : Type 0 where
  pub same : (h : ℕ) → g ≤ h → pick_rows d width (rows_of groups h n) after ≡ pick_rows d width (rows_of groups h n) before

-- so are the bodies of none of the groups below g
pub record LaterBodies (width : ℕ) (marks : List ℕ) (g n : ℕ) (before after : List Float) : Type 0 where
  pub same : (body c : ℕ) → body < n → c < width → ((h : ℕ) → h < g → get_or marks body 0 ≡ h + 1 → ⊥) → get_or after (width * body + c) nan ≡ get_or before (width * body + c) nan

-- and what is told of the groups from g on
pub record LaterGroups {X : Type 0} (d : X) (width g : ℕ) (before after : List X) : Type 0 where
  pub same : (k : ℕ) → width * g ≤ k → get_or after k d ≡ get_or before k d

-- `marks` has the group of each body
pub record EachSolved (b : Bench) (marks : List ℕ) (g : ℕ) (before after : Lending) : Type 0 where
  pub each : (h : ℕ) → h < g → GroupSolved (λ body. get_or marks body 0 ≡ h + 1) b h (rows_of before.groups h b.rows) before after
  pub numbers : LaterRows nan 27 before.groups g b.rows before.table.numbers after.table.numbers
  pub solution : LaterRows nan 1 before.groups g b.rows before.table.solution after.table.solution
  pub rules : LaterRows 0 1 before.groups g b.rows before.rules after.rules
  pub impulses : LaterBodies 6 marks g b.bodies before.table.impulses after.table.impulses
  pub centres : LaterBodies 3 marks g (placed_of b.kind b.bodies) before.table.centres after.table.centres
  pub answers : LaterGroups 0 3 g before.answers after.answers
  pub maxima : LaterGroups nan 2 g before.maxima after.maxima
