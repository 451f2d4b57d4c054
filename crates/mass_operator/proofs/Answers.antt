-- What the functions of the operator come to together. Assumes nothing.
use Prim.Native.Nat.{ℕ, ◌<◌}
use mathlib.Core.Path.{◌≡◌, refl, ap, ◌∙◌}
use mathlib.Core.Bool.{Bool, true, false}
use mathlib.Core.List.{List}
use lib.ListN.{length}
use lib.Ieee.{Float}
use Rattle.std.specs.Prelude.{Result, Ok, Err}
use Rattle.loops.specs.Run.{check}
use Rattle.loops.specs.Judge.{test}
use Rattle.loops.specs.Tabulate.{tabulate}
use Rattle.loops.proofs.Tabulate.{tabulate_same}
use Rattle.kapitsa_joint.specs.Impulse.{paired_of}
use Rattle.kapitsa_joint.specs.Mass.{mass_of}
use Rattle.kapitsa_joint.specs.declared.row.RowJacobian.{RowJacobian}
use Rattle.kapitsa_joint.specs.declared.impulse.GeneralizedImpulse.{GeneralizedImpulse}
use Rattle.mass_operator.specs.Applied.{all_finite_of, applied_of, applied_out}
use Rattle.mass_operator.specs.declared.finite.NotFinite.{NotFinite}
use Rattle.compact_table.specs.Compact.{compact_of, Linked}
use Rattle.mass_operator.specs.Dot.{dot_product_of}
use Rattle.mass_operator.specs.System.{compact_system}
use Rattle.mass_operator.specs.Operator.{impulse_at, response_of, response_at, value_at}
use Rattle.mass_operator.specs.Flat.{coefficients, flat_impulses, impulses_of, product_of, Summed, Multiplied}
use Rattle.mass_operator.specs.Lent.{Paired, Summing, value_in}
use Rattle.mass_operator.proofs.Flat.{flat_holds}
use Rattle.mass_operator.proofs.Orders.{finite_alike}

-- the number of an answer, whatever the caller calls an overflow
told_by : (l : List Float) (b : Bool) → all_finite_of l ≡ b → (number : ℕ) → test (all_finite_of l) number ≡ applied_out number (applied_of l)
unfolding applied_of test check
told_by l true h number = rw h
told_by l false h number = rw h

pub applied_told : (l : List Float) {r : Result Unit NotFinite} → r ≡ applied_of l → (number : ℕ) → test (all_finite_of l) number ≡ applied_out number r
applied_told l e number = rw e (told_by l (all_finite_of l) refl number)

pub summed_is : (j : ℕ → RowJacobian) (x : ℕ → Float) (rows bodies : ℕ) (l : List Float) {r : Result Unit NotFinite} → Summing j x bodies rows l → r ≡ applied_of l → Summed j x rows bodies r l
unfolding impulses_of applied_of
summed_is j x rows bodies l h e =
    let g : ℕ → GeneralizedImpulse = λ b. impulse_at j x b rows in
    let q : all_finite_of l ≡ all_finite_of (flat_impulses g bodies) = finite_alike g bodies l (flat_impulses g bodies) (record { long = h.long; at = h.at }) (flat_holds g bodies) in
    let a = e ∙ ap (λ (b : Bool). check b (Ok tt) (Err record {})) q in
    record { summed = h; answered = a; told = applied_told _ a }

-- impulses, responses in their place, values: the list of impulses stands between two calls
module _ (jacobians : List Float) (links : List ℕ) (masses vector : List Float) (bodies : ℕ) (impulses responses product : List Float) where
  abbrev rows : ℕ
  rows = length vector

  abbrev j : ℕ → RowJacobian
  j = compact_of jacobians links

  abbrev x : ℕ → Float
  x = coefficients vector

  module _ (linked : Linked links rows bodies) (h : Summing j x bodies rows impulses) (k : Paired (λ b. response_of (mass_of masses b) (paired_of impulses b)) bodies responses) where
    response : (b : ℕ) → b < bodies → paired_of responses b ≡ response_at (compact_system rows bodies jacobians links masses) x b
    unfolding response_at
    response b t = k.at b t ∙ ap (response_of (mass_of masses b)) (h.at b t)

    responses_hold : Paired (response_at (compact_system rows bodies jacobians links masses) x) bodies responses
    responses_hold = record { long = k.long; at = response }

    value : (i : ℕ) → i < rows → value_in (j i) responses ≡ value_at (compact_system rows bodies jacobians links masses) x i
    unfolding value_in value_at
    value i t =
        let a : (j i).body_a < bodies = unfold compact_of in linked.a i t in
        let b : (j i).body_b < bodies = unfold compact_of in linked.b i t in
        rw (response (j i).body_a a, response (j i).body_b b)

    pub multiplied_is : {r : Float} {m : ℕ} → product ≡ tabulate (λ i. value_in (j i) responses) m → m ≡ rows → r ≡ dot_product_of vector product → Multiplied (compact_system rows bodies jacobians links masses) vector r responses product
    unfolding product_of
    multiplied_is {r} {m} e q a =
        let p : product ≡ tabulate (value_at (compact_system rows bodies jacobians links masses) x) rows = e ∙ ap (tabulate (λ i. value_in (j i) responses)) q ∙ same in
        record {
          responded = responses_hold;
          multiplied = p;
          answered = a ∙ ap (dot_product_of vector) p;
        }
      where
        same : tabulate (λ i. value_in (j i) responses) rows ≡ tabulate (value_at (compact_system rows bodies jacobians links masses) x) rows
        same = tabulate_same (λ i. value_in (j i) responses) (value_at (compact_system rows bodies jacobians links masses) x) rows value
