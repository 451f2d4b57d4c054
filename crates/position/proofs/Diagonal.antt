-- The Rust tests each body's SolverMass::diagonal, then the residual and the sum. Of a row that 7 has passed, testing the sum refuses exactly what those refuse. Assumes nothing.
use Prim.Native.Nat.{ℕ}
use mathlib.Core.Path.{◌≡◌, refl}
use mathlib.Core.Bool.{Bool, true, false, ◌&&◌}
use lib.Dec.{T}
use lib.Ieee.{Float, binary64, neg}
use lib.Ieee.Scale.{finite}
use Rattle.rounding.proofs.Rounded.{add_finite}
use Rattle.kapitsa_joint.specs.Mass.{diagonal_of}
use Rattle.kapitsa_joint.specs.declared.row.ConstraintRow.{ConstraintRow}
use Rattle.kapitsa_joint.specs.declared.mass.SolverMass.{SolverMass}
use Rattle.joint_refusals.specs.Refusals.{is_valid_of}
use Rattle.position.specs.Prepare.{row_diagonal, passes8}
use Rattle.position.proofs.Valid.{start_finite}

module _ (mass : ℕ → SolverMass) (r : ConstraintRow) where
  abbrev diagonal_a : Float
  diagonal_a = diagonal_of (mass r.words.body_a) r.linear_a r.angular_a

  abbrev diagonal_b : Float
  diagonal_b = diagonal_of (mass r.words.body_b) r.linear_b r.angular_b

  pub both_finite : T (finite (row_diagonal mass r)) → T (finite diagonal_a) × T (finite diagonal_b)
  unfolding row_diagonal
  both_finite t = add_finite binary64 diagonal_a diagonal_b t

  -- pcg.rs, solve_position_pcg_prepared: mass_a.diagonal(..)?, mass_b.diagonal(..)?, then the residual and the sum
  pub diagonal_final : (bodies : ℕ) → is_valid_of bodies r ≡ true → ((finite diagonal_a && finite diagonal_b) && finite (neg r.scalars.error)) && finite (row_diagonal mass r) ≡ passes8 (row_diagonal mass r)
  unfolding passes8
  diagonal_final bodies h = go (finite diagonal_a) (finite diagonal_b) (finite (neg r.scalars.error)) (finite (row_diagonal mass r)) both_finite (start_finite bodies r h)
    where
      go : (a b s c : Bool) → (T c → T a × T b) → T s → ((a && b) && s) && c ≡ c
      go a b s true h e = rw (is a (h tt).0, is b (h tt).1, is s e)
        where
          is : (x : Bool) → T x → x ≡ true
          is true _ = refl
          is false e = absurd e
      go a b s false h e = last ((a && b) && s)
        where
          last : (x : Bool) → x && false ≡ false
          last true = refl
          last false = refl
