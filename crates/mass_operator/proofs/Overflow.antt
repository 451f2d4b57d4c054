-- What went not finite stays so, through the whole operator. Where every row's value is finite, so is every impulse after every row and every response:
-- so the test of the product refuses exactly what the Rust's tests after each addition, each response and each dot product refuse. Assumes nothing.
use Prim.Native.Nat.{ℕ, zero, suc, ◌+◌, ◌-◌, ◌<◌, ◌≤◌}
use mathlib.Core.Path.{◌≡◌, refl, ◌∙◌}
use mathlib.Core.Bool.{Bool, true, false, cond}
use mathlib.Core.Logic.{◌⊎◌, inl, inr}
use native.Mathlib.Omega.{arith}
use lib.Dec.{T, eqb}
use lib.Ieee.{Float, binary64, add, of_bits}
use lib.Ieee.Scale.{finite}
use borrow.Author.Tests.{eqb-true}
use Rattle.rounding.proofs.Rounded.{add_finite}
use Rattle.loops.specs.Cleared.{plus_zero}
use Rattle.kapitsa_math.specs.Vector.{dot_of, scale_of}
use Rattle.kapitsa_math.specs.declared.vector.Vec3.{Vec3}
use Rattle.kapitsa_math.proofs.Finite.{FiniteVector, dot_finite, sum_finite, scaled_finite, product_finite}
use Rattle.kapitsa_joint.specs.declared.row.RowJacobian.{RowJacobian}
use Rattle.kapitsa_joint.specs.declared.mass.SolverMass.{SolverMass}
use Rattle.kapitsa_joint.specs.declared.impulse.GeneralizedImpulse.{GeneralizedImpulse}
use Rattle.mass_operator.specs.System.{System}
use Rattle.mass_operator.specs.Operator.{add_impulse_of, add_row_of, no_impulse, impulse_at, response_of, response_at, row_value_of, value_at}

pub record FiniteImpulse (g : GeneralizedImpulse) : Type 0 where
  pub linear : FiniteVector g.linear
  pub angular : FiniteVector g.angular

-- ---- backwards through a row's value, a response and a sum
value_finite : (j : RowJacobian) (p q : GeneralizedImpulse) → T (finite (row_value_of j p q)) → FiniteImpulse p × FiniteImpulse q
unfolding row_value_of
value_finite j p q t =
    let la = dot_of j.linear_a p.linear in
    let aa = dot_of j.angular_a p.angular in
    let lb = dot_of j.linear_b q.linear in
    let ab = dot_of j.angular_b q.angular in
    let r = add_finite binary64 (add binary64 (add binary64 la aa) lb) ab t in
    let s = add_finite binary64 (add binary64 la aa) lb r.0 in
    let u = add_finite binary64 la aa s.0 in (
      record { linear = (dot_finite j.linear_a p.linear u.0).1; angular = (dot_finite j.angular_a p.angular u.1).1 },
      record { linear = (dot_finite j.linear_b q.linear s.1).1; angular = (dot_finite j.angular_b q.angular r.1).1 },
    )

response_finite : (m : SolverMass) (g : GeneralizedImpulse) → FiniteImpulse (response_of m g) → FiniteImpulse g
unfolding response_of
response_finite m g f = record { linear = (scaled_finite g.linear m.inverse_mass f.linear).0; angular = (product_finite m.inverse_inertia g.angular f.angular).1 }

term_finite : (g : GeneralizedImpulse) (u v : Vec3) (c : Float) → FiniteImpulse (add_impulse_of g u v c) → FiniteImpulse g
unfolding add_impulse_of
term_finite g u v c f = record { linear = (sum_finite g.linear (scale_of u c) f.linear).0; angular = (sum_finite g.angular (scale_of v c) f.angular).0 }

row_finite : (j : RowJacobian) (c : Float) (b : ℕ) (g : GeneralizedImpulse) → FiniteImpulse (add_row_of j c b g) → FiniteImpulse g
unfolding add_row_of
row_finite j c b g f = side (eqb j.body_a b) g j.linear_a j.angular_a (side (eqb j.body_b b) (cond (eqb j.body_a b) (add_impulse_of g j.linear_a j.angular_a c) g) j.linear_b j.angular_b f)
  where
    side : (t : Bool) (g : GeneralizedImpulse) (u v : Vec3) → FiniteImpulse (cond t (add_impulse_of g u v c) g) → FiniteImpulse g
    side true g u v f = term_finite g u v c f
    side false g u v f = f

-- ---- a body has a row, or its impulse is still +0.0
zero_finite : FiniteVector (record { x = plus_zero; y = plus_zero; z = plus_zero })
unfolding of_bits
zero_finite = record { x = tt; y = tt; z = tt }

none_finite : FiniteImpulse no_impulse
none_finite = record { linear = zero_finite; angular = zero_finite }

record Touches (j : ℕ → RowJacobian) (b k : ℕ) : Type 0 where
  row : ℕ
  below : row < k
  on : ((j row).body_a ≡ b) ⊎ ((j row).body_b ≡ b)

later : {j : ℕ → RowJacobian} {b k : ℕ} → Touches j b k → Touches j b (suc k)
later t = record { row = t.row; below = omega (arith, t.below); on = t.on }

untouched : (j : RowJacobian) (c : Float) (b : ℕ) (g : GeneralizedImpulse) → ((j.body_a ≡ b) ⊎ (j.body_b ≡ b)) ⊎ (add_row_of j c b g ≡ g)
unfolding add_row_of
untouched j c b g = go (eqb j.body_a b) (eqb-true j.body_a b) (eqb j.body_b b) (eqb-true j.body_b b)
  where
    go : (s : Bool) → (s ≡ true → j.body_a ≡ b) → (t : Bool) → (t ≡ true → j.body_b ≡ b)
        → ((j.body_a ≡ b) ⊎ (j.body_b ≡ b))
        ⊎ (cond t (add_impulse_of (cond s (add_impulse_of g j.linear_a j.angular_a c) g) j.linear_b j.angular_b c) (cond s (add_impulse_of g j.linear_a j.angular_a c) g) ≡ g)
    go true p t q = inl (inl (p refl))
    go false p true q = inl (inr (q refl))
    go false p false q = inr refl

touched_or_none : (j : ℕ → RowJacobian) (x : ℕ → Float) (b k : ℕ) → Touches j b k ⊎ (impulse_at j x b k ≡ no_impulse)
unfolding impulse_at
touched_or_none j x b zero = inr refl
touched_or_none j x b (suc k) = elim (touched_or_none j x b k) [
  | inl t ↦ inl (later t)
  | inr e ↦ elim (untouched (j k) (x k) b (impulse_at j x b k)) [
    | inl on ↦ inl (record { row = k; below = omega arith; on = on })
    | inr same ↦ inr (same ∙ e)
  ]
]

-- ---- the impulses
module _ (s : System) (x : ℕ → Float) (all : (i : ℕ) → i < s.rows → T (finite (value_at s x i))) where
  on_row : (i : ℕ) → i < s.rows → FiniteImpulse (impulse_at s.jacobian x (s.jacobian i).body_a s.rows) × FiniteImpulse (impulse_at s.jacobian x (s.jacobian i).body_b s.rows)
  unfolding value_at response_at
  on_row i h =
      let a = (s.jacobian i).body_a in
      let b = (s.jacobian i).body_b in
      let f = value_finite (s.jacobian i) (response_at s x a) (response_at s x b) (all i h) in
      (response_finite (s.mass a) (impulse_at s.jacobian x a s.rows) f.0, response_finite (s.mass b) (impulse_at s.jacobian x b s.rows) f.1)

  last_finite : (b : ℕ) → FiniteImpulse (impulse_at s.jacobian x b s.rows)
  last_finite b = elim (touched_or_none s.jacobian x b s.rows) [
    | inl t ↦ by t.on (on_row t.row t.below)
    | inr e ↦ rw e none_finite
  ]
    where
      by : {i : ℕ} → ((s.jacobian i).body_a ≡ b) ⊎ ((s.jacobian i).body_b ≡ b)
          → FiniteImpulse (impulse_at s.jacobian x (s.jacobian i).body_a s.rows) × FiniteImpulse (impulse_at s.jacobian x (s.jacobian i).body_b s.rows) → FiniteImpulse (impulse_at s.jacobian x b s.rows)
      by (inl e) f = rw e at f.0
      by (inr e) f = rw e at f.1

  -- after every row
  back : (b d k : ℕ) → k + d ≡ s.rows → FiniteImpulse (impulse_at s.jacobian x b k)
  unfolding impulse_at
  back b zero k e = let q : s.rows ≡ k = omega arith in rw q at (last_finite b)
  back b (suc d) k e = row_finite (s.jacobian k) (x k) b (impulse_at s.jacobian x b k) (back b d (suc k) (omega arith))

  pub impulses_finite : (b k : ℕ) → k ≤ s.rows → FiniteImpulse (impulse_at s.jacobian x b k)
  impulses_finite b k h = back b (s.rows - k) k (omega arith)

  -- the responses that a row reads
  pub responses_finite : (i : ℕ) → i < s.rows → FiniteImpulse (response_at s x (s.jacobian i).body_a) × FiniteImpulse (response_at s x (s.jacobian i).body_b)
  unfolding value_at
  responses_finite i h = value_finite (s.jacobian i) (response_at s x (s.jacobian i).body_a) (response_at s x (s.jacobian i).body_b) (all i h)
