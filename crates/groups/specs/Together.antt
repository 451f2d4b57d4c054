-- Document 02, g: "rows sharing a body, directly or through further rows, belong together and no others do, except that a body whose ten mass numbers are all zero joins nothing. Groups come by lowest row".
use Rattle.std.specs.Prelude.{ℕ, ◌+◌, ◌*◌, ◌<◌, ◌≡◌, Bool, true, false, not, ◌&&◌, List, ◌⊎◌, ◌↔◌, get_or, Float}
use Rattle.std.specs.Float.Ieee.{eq}
use Rattle.loops.specs.Cleared.{plus_zero}
use Rattle.kapitsa_joint.specs.Mass.{mass_of}
use Rattle.kapitsa_joint.specs.Table.{Table}
use Rattle.kapitsa_joint.specs.declared.mass.SolverMass.{SolverMass}
use Rattle.position.specs.Centres.{zero_of}

-- "a body whose ten mass numbers are all zero"; both zeros equal +0.0, and nothing else does
unfoldable pub massless : SolverMass → Bool
massless m = eq m.inverse_mass plus_zero && ((zero_of m.inverse_inertia.x && zero_of m.inverse_inertia.y) && zero_of m.inverse_inertia.z)

-- the two bodies of each row
pub record Links : Type 0 where
  pub a : ℕ → ℕ
  pub b : ℕ → ℕ

-- of a table: its rows' bodies, and the bodies that join
abbrev pub links_of : Table → Links
links_of t = record { a = λ i. (t.row i).words.body_a; b = λ i. (t.row i).words.body_b }

abbrev pub joins_of : Table → ℕ → Bool
joins_of t b = not (massless (t.mass b))

-- the same over lent lists: eight words a row, its bodies at 2 and 3
abbrev pub links_in : List ℕ → Links
links_in words = record { a = λ i. get_or words (8 * i + 2) 0; b = λ i. get_or words (8 * i + 3) 0 }

abbrev pub joins_in : List Float → ℕ → Bool
joins_in masses b = not (massless (mass_of masses b))

abbrev pub body_a : Links → ℕ → ℕ
body_a links i = links.a i

abbrev pub body_b : Links → ℕ → ℕ
body_b links i = links.b i

-- row i has body b
abbrev pub Has : Links → ℕ → ℕ → Type 0
Has links i b = (body_a links i ≡ b) ⊎ (body_b links i ≡ b)

-- the body numbers of the first `rows` rows are below the body count
pub record Linked (links : Links) (rows bodies : ℕ) : Type 0 where
  pub a : (i : ℕ) → i < rows → body_a links i < bodies
  pub b : (i : ℕ) → i < rows → body_b links i < bodies

-- rows i and j belong together: the least relation of the first `rows` rows that has the rows sharing a joining body, and goes through further rows
pub data Together (links : Links) (joining : ℕ → Bool) (rows : ℕ) : ℕ → ℕ → Type 0 where
  itself : (i : ℕ) → Together links joining rows i i
  shared : (i j b : ℕ) → i < rows → j < rows → Has links i b → Has links j b → joining b ≡ true → Together links joining rows i j
  through : (i j k : ℕ) → Together links joining rows i j → Together links joining rows j k → Together links joining rows i k

-- row i is the first of group g
pub record First (groups : List ℕ) (rows g i : ℕ) : Type 0 where
  pub within : i < rows
  pub here : get_or groups i 0 ≡ g
  pub none : (j : ℕ) → j < i → get_or groups j 0 ≡ g → ⊥

-- `groups` has a group number for each row: equal exactly for rows that belong together, from 0 to count - 1, each in use, by lowest row
pub record Grouped (links : Links) (joining : ℕ → Bool) (rows : ℕ) (groups : List ℕ) (count : ℕ) : Type 0 where
  pub together : (i j : ℕ) → i < rows → j < rows → (get_or groups i 0 ≡ get_or groups j 0) ↔ Together links joining rows i j
  pub below : (i : ℕ) → i < rows → get_or groups i 0 < count
  pub first : (g : ℕ) → g < count → (i : ℕ) × First groups rows g i
  pub ordered : (g h i j : ℕ) → g < h → First groups rows g i → First groups rows h j → i < j

-- ---- the bodies

-- a joining body in a row of group g: it is in no other group's (`body_group`)
pub record Member (links : Links) (joining : ℕ → Bool) (rows : ℕ) (groups : List ℕ) (g b : ℕ) : Type 0 where
  pub row : ℕ
  pub within : row < rows
  pub group : get_or groups row 0 ≡ g
  pub has : Has links row b
  pub joins : joining b ≡ true

-- "Such a zero-mass body, or one in no row"
abbrev pub Apart : Links → (ℕ → Bool) → ℕ → ℕ → Type 0
Apart links joining rows b = (joining b ≡ false) ⊎ ((i : ℕ) → i < rows → ¬ Has links i b)
