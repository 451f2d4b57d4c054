-- The mass operator of a system with its bodies under new numbers: the impulse and the response of a body stand under its new number, and every row has the same value. Assumes nothing.
use Prim.Native.Nat.{ℕ, zero, suc, ◌<◌, ◌≤◌}
use mathlib.Core.Path.{◌≡◌, refl, ap}
use native.Mathlib.Omega.{arith}
use lib.Dec.{eqb}
use lib.Ieee.{Float}
use Rattle.loops.proofs.Tabulate.{tabulate_same}
use Rattle.kapitsa_joint.specs.Row.{jacobian_of}
use Rattle.kapitsa_joint.specs.Table.{Table}
use Rattle.kapitsa_joint.specs.declared.row.RowJacobian.{RowJacobian}
use Rattle.mass_operator.specs.System.{System, system_of}
use Rattle.mass_operator.specs.Operator.{add_row_of, impulse_at, response_at, row_value_of, value_at}
use Rattle.mass_operator.specs.Flat.{product_of}
use Rattle.renumbered.specs.Renumber.{Renumbering, InRange, bodies_by, renumbered_row, renumber}
use Rattle.renumbered.proofs.Permuted.{one_to_one}

-- what the operator and the factors read of a row, with the new numbers
unfoldable pub renumbered_jacobian : (ℕ → ℕ) → RowJacobian → RowJacobian
renumbered_jacobian p j = record { linear_a = j.linear_a; angular_a = j.angular_a; linear_b = j.linear_b; angular_b = j.angular_b; body_a = p j.body_a; body_b = p j.body_b }

abbrev pub renumbered_system : (ℕ → ℕ) → (ℕ → ℕ) → System → System
renumbered_system p q s = record { rows = s.rows; bodies = s.bodies; jacobian = λ i. renumbered_jacobian p (s.jacobian i); mass = λ b. s.mass (q b) }

-- every body number of a system is in range
pub record Inside (s : System) : Type 0 where
  pub a_below : (i : ℕ) → i < s.rows → (s.jacobian i).body_a < s.bodies
  pub b_below : (i : ℕ) → i < s.rows → (s.jacobian i).body_b < s.bodies

-- ---- of a table
pub system_renumbered : (p q : ℕ → ℕ) (t : Table) → system_of (renumber p q t) ≡ renumbered_system p q (system_of t)
unfolding jacobian_of renumbered_row bodies_by renumbered_jacobian
system_renumbered p q t = refl

pub inside_table : (t : Table) → InRange t → Inside (system_of t)
unfolding jacobian_of
inside_table t r = record { a_below = r.a_below; b_below = r.b_below }

module _ (p q : ℕ → ℕ) (s : System) (r : Renumbering s.bodies p q) (w : Inside s) where
  pub mass_back : (b : ℕ) → b < s.bodies → (renumbered_system p q s).mass (p b) ≡ s.mass b
  mass_back b k = ap s.mass (r.back b k)

  -- two rows' bodies are one where they were
  module _ (i j : ℕ) (k : i < s.rows) (l : j < s.rows) where
    pub same_aa : eqb (p (s.jacobian i).body_a) (p (s.jacobian j).body_a) ≡ eqb (s.jacobian i).body_a (s.jacobian j).body_a
    same_aa = one_to_one s.bodies p q r (s.jacobian i).body_a (s.jacobian j).body_a (w.a_below i k) (w.a_below j l)

    pub same_ab : eqb (p (s.jacobian i).body_a) (p (s.jacobian j).body_b) ≡ eqb (s.jacobian i).body_a (s.jacobian j).body_b
    same_ab = one_to_one s.bodies p q r (s.jacobian i).body_a (s.jacobian j).body_b (w.a_below i k) (w.b_below j l)

    pub same_ba : eqb (p (s.jacobian i).body_b) (p (s.jacobian j).body_a) ≡ eqb (s.jacobian i).body_b (s.jacobian j).body_a
    same_ba = one_to_one s.bodies p q r (s.jacobian i).body_b (s.jacobian j).body_a (w.b_below i k) (w.a_below j l)

    pub same_bb : eqb (p (s.jacobian i).body_b) (p (s.jacobian j).body_b) ≡ eqb (s.jacobian i).body_b (s.jacobian j).body_b
    same_bb = one_to_one s.bodies p q r (s.jacobian i).body_b (s.jacobian j).body_b (w.b_below i k) (w.b_below j l)

  -- a row is on body b where it was
  module _ (i b : ℕ) (k : i < s.rows) (l : b < s.bodies) where
    pub same_a : eqb (p (s.jacobian i).body_a) (p b) ≡ eqb (s.jacobian i).body_a b
    same_a = one_to_one s.bodies p q r (s.jacobian i).body_a b (w.a_below i k) l

    pub same_b : eqb (p (s.jacobian i).body_b) (p b) ≡ eqb (s.jacobian i).body_b b
    same_b = one_to_one s.bodies p q r (s.jacobian i).body_b b (w.b_below i k) l

  pub impulse_moved : (x : ℕ → Float) (b n : ℕ) → b < s.bodies → n ≤ s.rows → impulse_at (renumbered_system p q s).jacobian x (p b) n ≡ impulse_at s.jacobian x b n
  unfolding impulse_at add_row_of renumbered_jacobian
  impulse_moved x b zero k l = refl
  impulse_moved x b (suc n) k l = rw (impulse_moved x b n k (omega arith), same_a n b (omega arith) k, same_b n b (omega arith) k)

  response_moved : (x : ℕ → Float) (b : ℕ) → b < s.bodies → response_at (renumbered_system p q s) x (p b) ≡ response_at s x b
  unfolding response_at
  response_moved x b k = rw (mass_back b k, impulse_moved x b s.rows k (omega arith))

  pub value_same : (x : ℕ → Float) (i : ℕ) → i < s.rows → value_at (renumbered_system p q s) x i ≡ value_at s x i
  unfolding value_at row_value_of renumbered_jacobian
  value_same x i k = rw (response_moved x (s.jacobian i).body_a (w.a_below i k), response_moved x (s.jacobian i).body_b (w.b_below i k))

  pub product_same : (x : ℕ → Float) → product_of (renumbered_system p q s) x ≡ product_of s x
  unfolding product_of
  product_same x = tabulate_same (value_at (renumbered_system p q s) x) (value_at s x) s.rows (value_same x)
