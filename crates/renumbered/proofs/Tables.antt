-- What is judged of a table alone, 4, 6 and 7, and the diagonal of each row: the same of the table with its bodies under new numbers. Assumes nothing.
use Prim.Native.Nat.{ℕ, ◌<◌}
use mathlib.Core.Path.{◌≡◌, refl, ap}
use lib.Ieee.{Float}
use borrow.Author.Tests.{lt-ltb}
use Rattle.loops.proofs.Every.{every_same}
use Rattle.loops.proofs.Tabulate.{tabulate_same}
use Rattle.kapitsa_joint.specs.Table.{Table}
use Rattle.kapitsa_joint.specs.declared.row.RowWords.{RowWords}
use Rattle.joint_refusals.specs.Refusals.{words_fit_of, passes4, mass_finite_of, passes6, bodies_below_of, jacobians_finite_of, is_valid_of, passes7}
use Rattle.position.specs.Prepare.{row_diagonal, prepared_diagonal, prepared_residual, diagonals, residuals}
use Rattle.renumbered.specs.Renumber.{Renumbering, InRange, bodies_by, renumbered_row, renumber}
use Rattle.renumbered.proofs.Permuted.{one_to_one, every_permuted}

-- 7 asks of the bodies that they differ and are below the count
below_same : (n : ℕ) (p q : ℕ → ℕ) → Renumbering n p q → (w : RowWords) → w.body_a < n → w.body_b < n → bodies_below_of n (bodies_by p w) ≡ bodies_below_of n w
unfolding bodies_below_of bodies_by
below_same n p q r w a b =
    rw (one_to_one n p q r w.body_a w.body_b a b, lt-ltb (p w.body_a) n (r.new_below w.body_a a), lt-ltb (p w.body_b) n (r.new_below w.body_b b), lt-ltb w.body_a n a, lt-ltb w.body_b n b)

module _ (p q : ℕ → ℕ) (t : Table) where
  pub fours : passes4 (renumber p q t) ≡ passes4 t
  unfolding passes4 words_fit_of renumbered_row bodies_by
  fours = refl

module _ (p q : ℕ → ℕ) (t : Table) (r : Renumbering t.bodies p q) where
  -- "masses moved along"
  mass_moved : (b : ℕ) → b < t.bodies → (renumber p q t).mass (p b) ≡ t.mass b
  mass_moved b h = ap t.mass (r.back b h)

  pub sixes : passes6 (renumber p q t) ≡ passes6 t
  unfolding passes6
  sixes = every_permuted t.bodies p q r (λ b. mass_finite_of (t.mass b)) (λ b. mass_finite_of ((renumber p q t).mass b)) (λ b h. ap mass_finite_of (mass_moved b h))

  module _ (inside : InRange t) where
    pub valid_same : (i : ℕ) → i < t.rows → is_valid_of t.bodies (renumbered_row p (t.row i)) ≡ is_valid_of t.bodies (t.row i)
    unfolding is_valid_of renumbered_row jacobians_finite_of
    valid_same i h = rw (below_same t.bodies p q r (t.row i).words (inside.a_below i h) (inside.b_below i h))

    pub sevens : passes7 (renumber p q t) ≡ passes7 t
    unfolding passes7
    sevens = every_same _ _ t.rows valid_same

    -- ---- "The diagonal is the rounded sum of both bodies' SolverMass::diagonal", a before b
    pub diagonal_same : (i : ℕ) → i < t.rows → row_diagonal (renumber p q t).mass (renumbered_row p (t.row i)) ≡ row_diagonal t.mass (t.row i)
    unfolding row_diagonal renumbered_row bodies_by
    diagonal_same i h = rw (mass_moved (t.row i).words.body_a (inside.a_below i h), mass_moved (t.row i).words.body_b (inside.b_below i h))

    pub diagonals_same : diagonals (renumber p q t) ≡ diagonals t
    unfolding diagonals prepared_diagonal
    diagonals_same = tabulate_same _ _ t.rows (λ i h. rw (diagonal_same i h))

    pub residuals_same : (start : ℕ → Float) → residuals (renumber p q t) start ≡ residuals t start
    unfolding residuals prepared_residual
    residuals_same start = tabulate_same _ _ t.rows (λ i h. rw (diagonal_same i h))
