-- The problem of a kind is that of positions or of velocities, and the list that it starts from is its start. Assumes nothing.
use Prim.Native.Nat.{ℕ, ◌<◌}
use mathlib.Core.Path.{◌≡◌, refl, ap, ◌∙◌}
use mathlib.Core.List.{List}
use lib.ListN.{get_or}
use lib.Ieee.{Float, nan}
use Rattle.loops.specs.Tabulate.{tabulate}
use Rattle.loops.proofs.Tabulate.{get_d_tabulate, tabulate_same}
use Rattle.kapitsa_joint.specs.Row.{row_of, scalars_of}
use Rattle.kapitsa_joint.specs.Table.{Table, table_of}
use Rattle.mass_operator.specs.Flat.{coefficients}
use Rattle.position.specs.Problem.{position_problem, velocity_problem}
use Rattle.position.specs.Kinds.{kind_problem, start_in}
use Rattle.kapitsa_joint.specs.declared.kind.Kind.{Kind}
use Rattle.kapitsa_joint.specs.declared.kind.Kind.TheVariants as kinds

module _ (t : Table) (tolerance residual : ℕ → Float) where
  pub position_kind : kind_problem kinds.Position t tolerance residual ≡ position_problem t tolerance
  position_kind = refl

  pub velocity_kind : kind_problem kinds.Velocity t tolerance residual ≡ velocity_problem t tolerance residual
  velocity_kind = refl

-- ---- over the lent lists
module _ (kind : Kind) (rows bodies : ℕ) (numbers : List Float) (words : List ℕ) (masses given : List Float) (tolerance : ℕ → Float) where
  abbrev start : ℕ → Float
  start = (kind_problem kind (table_of rows bodies numbers words masses) tolerance (coefficients given)).start

  pub start_in_lem : (i : ℕ) → start_in kind numbers given i ≡ start i
  unfolding row_of scalars_of
  start_in_lem i = go kind
    where
      go : (k : Kind) → start_in k numbers given i ≡ (kind_problem k (table_of rows bodies numbers words masses) tolerance (coefficients given)).start i
      go kinds.Position = refl
      go kinds.Velocity = refl

  -- what `start_residual` leaves
  pub start_listed : (n : ℕ) → tabulate (start_in kind numbers given) n ≡ tabulate start n
  start_listed n = tabulate_same _ _ n (λ i _. start_in_lem i)

  pub start_at : (n : ℕ) (residual : List Float) → residual ≡ tabulate (start_in kind numbers given) n → (i : ℕ) → i < n → coefficients residual i ≡ start i
  start_at n residual e i h = ap (λ (l : List Float). get_or l i nan) e ∙ get_d_tabulate (start_in kind numbers given) n i nan h ∙ start_in_lem i
