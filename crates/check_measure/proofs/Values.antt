-- The operator as terms: the impulses of n rows are off by n + 1 steps, the responses by n + 4, a row's value by n + 10. Assumes nothing.
use Prim.Native.Nat.{ℕ, zero, suc, ◌+◌, ◌*◌, ◌<◌, ◌≤◌, zero-le}
use mathlib.Core.Path.{◌≡◌, refl, sym, ◌∙◌}
use mathlib.Core.Bool.{Bool, true, false, cond, true≢false}
use native.Mathlib.Nat.{le_refl}
use native.Mathlib.Omega.{arith}
use lib.Dec.{eqb, lit≤, lit<}
use lib.IntN.{pos}
use lib.Ieee.{Float}
use borrow.Author.Tests.{eqb-true, eq-eqb}
use Rattle.loops.specs.Cleared.{plus_zero}
use Rattle.binary64.specs.Order.{absolute}
use Rattle.kapitsa_math.specs.Vector.{abs_of}
use Rattle.kapitsa_math.specs.Matrix.{abs_columns_of}
use Rattle.kapitsa_math.specs.declared.vector.Vec3.{Vec3}
use Rattle.kapitsa_joint.specs.declared.row.RowJacobian.{RowJacobian}
use Rattle.kapitsa_joint.specs.declared.mass.SolverMass.{SolverMass}
use Rattle.kapitsa_joint.specs.declared.impulse.GeneralizedImpulse.{GeneralizedImpulse}
use Rattle.mass_operator.specs.System.{System}
use Rattle.mass_operator.specs.Operator.{add_impulse_of, add_row_of, impulse_at, response_of, response_at, row_value_of, value_at}
use Rattle.check_measure.specs.Verdict.{size_of_row, size_of_mass, sizes_of}
use Rattle.check_measure.specs.Gap.{exact, exact_vec, ExactImpulse, add_impulse_z, add_row_z, impulse_z, response_z, row_value_z, value_z}
use Rattle.check_measure.proofs.Term.{Level, one, two, three, four, one_two, two_three, three_four, Term, term_add, term_weaken, term_zero}
use Rattle.check_measure.proofs.Vectors.{TermVec, vec_weaken, vec_add, vec_right, dot_term, mat_term}

-- ---- listed numbers: a number with its size is a term without error
pub record ListedVec (v : Vec3) : Type 0 where
  pub term : TermVec one 0 1 v (abs_of v) (exact_vec v)

abbrev pub Listed : Float → Type 0
Listed c = Term one 0 1 c (absolute c) (exact c)

pub record ListedRow (j : RowJacobian) : Type 0 where
  pub linear_a : ListedVec j.linear_a
  pub angular_a : ListedVec j.angular_a
  pub linear_b : ListedVec j.linear_b
  pub angular_b : ListedVec j.angular_b
  pub apart : eqb j.body_a j.body_b ≡ false

pub record ListedMass (m : SolverMass) : Type 0 where
  pub mass : Listed m.inverse_mass
  pub x : ListedVec m.inverse_inertia.x
  pub y : ListedVec m.inverse_inertia.y
  pub z : ListedVec m.inverse_inertia.z

-- ---- impulses
record TermImpulse (L : Level) (k A : ℕ) (g w : GeneralizedImpulse) (Z : ExactImpulse) : Type 0 where
  linear : TermVec L k A g.linear w.linear Z.linear
  angular : TermVec L k A g.angular w.angular Z.angular

impulse_weaken : (L : Level) (k h A B : ℕ) {g w : GeneralizedImpulse} {Z : ExactImpulse} → k ≤ h → A ≤ B → TermImpulse L k A g w Z → TermImpulse L h B g w Z
impulse_weaken L k h A B p q t = record { linear = vec_weaken L k h A B p q t.linear; angular = vec_weaken L k h A B p q t.angular }

-- one more term of degree 2
impulse_add : (k : ℕ) → k ≤ 600 → {g w : GeneralizedImpulse} {Z : ExactImpulse} (u v : Vec3) (c : Float) → ListedVec u → ListedVec v → Listed c → TermImpulse two (suc k) k g w Z
    → TermImpulse two (suc (suc k)) (suc k) (add_impulse_of g u v c) (add_impulse_of w (abs_of u) (abs_of v) (absolute c)) (add_impulse_z Z u v c)
unfolding add_impulse_of add_impulse_z
impulse_add k few u v c lu lv lc t =
    impulse_weaken two (suc (suc k)) (suc (suc k)) (k + 1) (suc k) (le_refl (suc (suc k))) (omega arith)
    (record {
      linear = vec_add two (lit≤ tt) (suc k) 1 (suc k) k 1 (le_refl (suc k)) (omega arith) (omega arith) (omega arith) t.linear (vec_right one two one_two 0 1 zero-le (lit< tt) lu.term lc);
      angular = vec_add two (lit≤ tt) (suc k) 1 (suc k) k 1 (le_refl (suc k)) (omega arith) (omega arith) (omega arith) t.angular (vec_right one two one_two 0 1 zero-le (lit< tt) lv.term lc);
    })

-- a row adds to a body at most once, since its two bodies differ
row_add : (k : ℕ) → k ≤ 600 → (j : RowJacobian) (c : Float) (b : ℕ) {g w : GeneralizedImpulse} {Z : ExactImpulse} → ListedRow j → Listed c → TermImpulse two (suc k) k g w Z
    → TermImpulse two (suc (suc k)) (suc k) (add_row_of j c b g) (add_row_of (size_of_row j) (absolute c) b w) (add_row_z j c b Z)
unfolding add_row_of add_row_z size_of_row
row_add k few j c b {g} {w} {Z} l lc t = go (eqb j.body_a b) (eqb-true j.body_a b) (eqb j.body_b b) (eqb-true j.body_b b)
  where
    same : (a d e : ℕ) → a ≡ e → d ≡ e → eqb a d ≡ true
    same a d e p q = rw (p, q) (eq-eqb e e refl)

    go : (s : Bool) → (s ≡ true → j.body_a ≡ b) → (r : Bool) → (r ≡ true → j.body_b ≡ b)
        → TermImpulse two (suc (suc k)) (suc k)
        (cond r (add_impulse_of (cond s (add_impulse_of g j.linear_a j.angular_a c) g) j.linear_b j.angular_b c) (cond s (add_impulse_of g j.linear_a j.angular_a c) g))
        (cond r (add_impulse_of (cond s (add_impulse_of w (abs_of j.linear_a) (abs_of j.angular_a) (absolute c)) w) (abs_of j.linear_b) (abs_of j.angular_b) (absolute c)) (cond s (add_impulse_of w (abs_of j.linear_a) (abs_of j.angular_a) (absolute c)) w))
        (cond r (add_impulse_z (cond s (add_impulse_z Z j.linear_a j.angular_a c) Z) j.linear_b j.angular_b c) (cond s (add_impulse_z Z j.linear_a j.angular_a c) Z))
    go true p true q = absurd (true≢false (sym (same j.body_a j.body_b b (p refl) (q refl)) ∙ l.apart))
    go true p false q = impulse_add k few j.linear_a j.angular_a c l.linear_a l.angular_a lc t
    go false p true q = impulse_add k few j.linear_b j.angular_b c l.linear_b l.angular_b lc t
    go false p false q = impulse_weaken two (suc k) (suc (suc k)) k (suc k) (omega arith) (omega arith) t

zero_vec : (k : ℕ) → TermVec two (suc k) k (record { x = plus_zero; y = plus_zero; z = plus_zero }) (record { x = plus_zero; y = plus_zero; z = plus_zero }) (record { x = pos 0; y = pos 0; z = pos 0 })
zero_vec k = record { x = term_zero two (suc k) k; y = term_zero two (suc k) k; z = term_zero two (suc k) k }

module _ (s : System) (x : ℕ → Float) (rows : (i : ℕ) → i < s.rows → ListedRow (s.jacobian i)) (list : (i : ℕ) → i < s.rows → Listed (x i)) (masses : (b : ℕ) → b < s.bodies → ListedMass (s.mass b)) (few : s.rows ≤ 512) where
  impulse_term : (b k : ℕ) → k ≤ s.rows → TermImpulse two (suc k) k (impulse_at s.jacobian x b k) (impulse_at (sizes_of s).jacobian (λ i. absolute (x i)) b k) (impulse_z s.jacobian x b k)
  unfolding impulse_at impulse_z
  impulse_term b zero h = record { linear = zero_vec 0; angular = zero_vec 0 }
  impulse_term b (suc k) h = row_add k (omega arith) (s.jacobian k) (x k) b (rows k (omega arith)) (list k (omega arith)) (impulse_term b k (omega arith))

  -- ---- responses
  abbrev n : ℕ
  n = s.rows

  response_term : (b : ℕ) → b < s.bodies
      → TermImpulse three (n + 4) (n + n + n) (response_at s x b) (response_at (sizes_of s) (λ i. absolute (x i)) b) (response_z (s.mass b) (impulse_z s.jacobian x b n))
  unfolding response_at response_of response_z size_of_mass abs_columns_of
  response_term b h =
      let m = masses b h in
      let t = impulse_term b n (le_refl n) in
      record {
        linear = vec_weaken three (suc (suc n)) (n + 4) n (n + n + n) (omega arith) (omega arith) (vec_right two three two_three (suc n) n (omega arith) (omega arith) t.linear m.mass);
        angular = vec_weaken three (suc n + 3) (n + 4) (n + n + n) (n + n + n) (omega arith) (le_refl (n + n + n)) (mat_term two three two_three (suc n) n (omega arith) (omega arith) (omega arith) (omega arith) m.x.term m.y.term m.z.term t.angular);
      }

  -- ---- a row's value
  pub value_term : (i : ℕ) → i < s.rows → (s.jacobian i).body_a < s.bodies → (s.jacobian i).body_b < s.bodies
      → Term four (n + 10) (36 * n) (value_at s x i) (value_at (sizes_of s) (λ k. absolute (x k)) i) (value_z s x i)
  unfolding value_at value_z row_value_of row_value_z size_of_row
  value_term i h p q =
      let j = s.jacobian i in
      let l = rows i h in
      let a = response_term j.body_a p in
      let b = response_term j.body_b q in
      let A = n + n + n in
      let D = A + A + A in
      let la = dot_term three four three_four (n + 4) A (omega arith) (omega arith) (omega arith) (omega arith) l.linear_a.term a.linear in
      let aa = dot_term three four three_four (n + 4) A (omega arith) (omega arith) (omega arith) (omega arith) l.angular_a.term a.angular in
      let lb = dot_term three four three_four (n + 4) A (omega arith) (omega arith) (omega arith) (omega arith) l.linear_b.term b.linear in
      let ab = dot_term three four three_four (n + 4) A (omega arith) (omega arith) (omega arith) (omega arith) l.angular_b.term b.angular in
      let r = term_add four (lit≤ tt) (n + 4 + 3) (n + 4 + 3) (n + 4 + 3) D D (le_refl (n + 4 + 3)) (le_refl (n + 4 + 3)) (omega arith) (omega arith) la aa in
      let t = term_add four (lit≤ tt) (suc (n + 4 + 3)) (n + 4 + 3) (suc (n + 4 + 3)) (D + D) D (le_refl (suc (n + 4 + 3))) (omega arith) (omega arith) (omega arith) r lb in
      term_weaken four (suc (suc (suc (n + 4 + 3)))) (n + 10) (D + D + D + D) (36 * n) (omega arith) (omega arith)
      (term_add four (lit≤ tt) (suc (suc (n + 4 + 3))) (n + 4 + 3) (suc (suc (n + 4 + 3))) (D + D + D) D (le_refl (suc (suc (n + 4 + 3)))) (omega arith) (omega arith) (omega arith) t ab)
