-- What the three passes come to: the operator on the list, and on its sizes. Assumes nothing.
use Prim.Native.Nat.{ℕ, ◌<◌}
use mathlib.Core.Path.{◌≡◌, ap, ◌∙◌}
use mathlib.Core.List.{List, map}
use lib.ListN.{length}
use lib.Ieee.{Float}
use Rattle.loops.specs.Tabulate.{tabulate}
use Rattle.loops.proofs.Tabulate.{tabulate_same}
use Rattle.binary64.specs.Order.{absolute}
use Rattle.kapitsa_joint.specs.Impulse.{paired_of}
use Rattle.kapitsa_joint.specs.Mass.{mass_of}
use Rattle.kapitsa_joint.specs.Table.{table_of}
use Rattle.kapitsa_joint.specs.declared.mass.SolverMass.{SolverMass}
use Rattle.mass_operator.specs.System.{System, system_of}
use Rattle.mass_operator.specs.Operator.{response_of, response_at, value_at}
use Rattle.mass_operator.specs.Flat.{coefficients, product_of}
use Rattle.mass_operator.specs.Lent.{Paired, Summing, value_in}
use Rattle.check_measure.specs.Verdict.{size_of_mass, sizes_of}
use Rattle.check_measure.proofs.SizesOf.{mass_size}
use Rattle.check_work.specs.Rows.{rows_in, row_sizes_in, sizes_in, Valid, Measured}
use Rattle.check_work.proofs.Bodies.{below_a, below_b, size_below_a, size_below_b}

-- ---- of any system: impulses, responses in their place, values
module _ (s : System) (x : ℕ → Float) {impulses responses : List Float} (a : (i : ℕ) → i < s.rows → (s.jacobian i).body_a < s.bodies) (b : (i : ℕ) → i < s.rows → (s.jacobian i).body_b < s.bodies)
    (h : Summing s.jacobian x s.bodies s.rows impulses) (k : Paired (λ c. response_of (s.mass c) (paired_of impulses c)) s.bodies responses) where
  response : (c : ℕ) → c < s.bodies → paired_of responses c ≡ response_at s x c
  unfolding response_at
  response c t = k.at c t ∙ ap (response_of (s.mass c)) (h.at c t)

  value : (i : ℕ) → i < s.rows → value_in (s.jacobian i) responses ≡ value_at s x i
  unfolding value_in value_at
  value i t = rw (response (s.jacobian i).body_a (a i t), response (s.jacobian i).body_b (b i t))

  product : tabulate (λ i. value_in (s.jacobian i) responses) s.rows ≡ product_of s x
  unfolding product_of
  product = tabulate_same (λ i. value_in (s.jacobian i) responses) (value_at s x) s.rows value

-- ---- of the lent table
module _ {bodies : ℕ} {numbers : List Float} {words : List ℕ} (masses multipliers : List Float) (v : Valid (length multipliers) bodies numbers words) {impulses responses size_impulses sizeResponses : List Float}
    (h : Summing (rows_in numbers words) (coefficients multipliers) bodies (length multipliers) impulses) (k : Paired (λ b. response_of (mass_of masses b) (paired_of impulses b)) bodies responses)
    (hs : Summing (row_sizes_in numbers words) (sizes_in multipliers) bodies (length multipliers) size_impulses) (ks : Paired (λ b. response_of (mass_of (map absolute masses) b) (paired_of size_impulses b)) bodies sizeResponses) where
  -- a body's response on sizes, by the size of its mass
  by_size : Paired (λ b. response_of (size_of_mass (mass_of masses b)) (paired_of size_impulses b)) bodies sizeResponses
  by_size = record { long = ks.long; at = λ b t. ks.at b t ∙ ap (λ (p : SolverMass). response_of p (paired_of size_impulses b)) (mass_size masses b) }

  pub measured : {values sizes : List Float} {m : ℕ} → m ≡ length multipliers → values ≡ tabulate (λ i. value_in (rows_in numbers words i) responses) m → sizes ≡ tabulate (λ i. value_in (row_sizes_in numbers words i) sizeResponses) m
      → Measured bodies numbers words masses multipliers values sizes
  measured e p q =
      let s = system_of (table_of (length multipliers) bodies numbers words masses) in
      record {
        values = p ∙ ap (tabulate (λ i. value_in (rows_in numbers words i) responses)) e ∙ product s (coefficients multipliers) (below_a v) (below_b v) h k;
        sizes = q ∙ ap (tabulate (λ i. value_in (row_sizes_in numbers words i) sizeResponses)) e ∙ product (sizes_of s) (sizes_in multipliers) (size_below_a v) (size_below_b v) hs by_size;
      }
