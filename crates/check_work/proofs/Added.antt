-- Impulses in a slice while they are summed, row by row. Assumes nothing.
use Prim.Native.Nat.{ℕ, ◌+◌, ◌*◌, ◌<◌, ◌≤◌}
use mathlib.Core.Path.{◌≡◌, refl, ap, ◌∙◌}
use mathlib.Core.Bool.{Bool, true, false, cond}
use mathlib.Core.List.{List}
use native.Mathlib.Numerals.{add-one}
use native.Mathlib.Omega.{arith}
use lib.Dec.{eqb}
use lib.ListN.{length}
use lib.Ieee.{Float}
use borrow.Author.Tests.{eqb-true}
use Rattle.kapitsa_math.specs.declared.vector.Vec3.{Vec3}
use Rattle.kapitsa_joint.specs.Impulse.{paired_of}
use Rattle.kapitsa_joint.specs.declared.row.RowJacobian.{RowJacobian}
use Rattle.kapitsa_joint.specs.declared.impulse.GeneralizedImpulse.{GeneralizedImpulse}
use Rattle.kapitsa_joint.proofs.Stored.{put_paired_length}
use Rattle.mass_operator.specs.Operator.{add_impulse_of, add_row_of, impulse_at}
use Rattle.mass_operator.specs.Lent.{Summing}
use Rattle.mass_operator.proofs.Sums.{put_at}
use Rattle.check_work.specs.Rows.{added_at, added_row}

added_length : (l : List Float) (b : ℕ) (u v : Vec3) (c : Float) → length (added_at l b u v c) ≡ length l
unfolding added_at
added_length l b u v c = put_paired_length l b (add_impulse_of (paired_of l b) u v c)

added_row_length : (l : List Float) (j : RowJacobian) (c : Float) → length (added_row l j c) ≡ length l
unfolding added_row
added_row_length l j c =
    added_length (added_at l j.body_a j.linear_a j.angular_a c) j.body_b j.linear_b j.angular_b c ∙ added_length l j.body_a j.linear_a j.angular_a c

added_at_lem : (l : List Float) (a : ℕ) (u v : Vec3) (c : Float) (b : ℕ) → 6 * a + 6 ≤ length l → paired_of (added_at l a u v c) b ≡ cond (eqb a b) (add_impulse_of (paired_of l b) u v c) (paired_of l b)
unfolding added_at
added_at_lem l a u v c b h = put_at l a (add_impulse_of (paired_of l a) u v c) b h ∙ go (eqb a b) (eqb-true a b)
  where
    go : (t : Bool) → (t ≡ true → a ≡ b) → cond t (add_impulse_of (paired_of l a) u v c) (paired_of l b) ≡ cond t (add_impulse_of (paired_of l b) u v c) (paired_of l b)
    go true y = let e : a ≡ b = y refl in rw e
    go false y = refl

added_row_lem : (l : List Float) (j : RowJacobian) (c : Float) (b : ℕ) → 6 * j.body_a + 6 ≤ length l → 6 * j.body_b + 6 ≤ length l → paired_of (added_row l j c) b ≡ add_row_of j c b (paired_of l b)
unfolding added_row add_row_of
added_row_lem l j c b p q =
    let m = added_at l j.body_a j.linear_a j.angular_a c in
    let e = added_length l j.body_a j.linear_a j.angular_a c in
    let r : paired_of m b ≡ cond (eqb j.body_a b) (add_impulse_of (paired_of l b) j.linear_a j.angular_a c) (paired_of l b) = added_at_lem l j.body_a j.linear_a j.angular_a c b p in
    added_at_lem m j.body_b j.linear_b j.angular_b c b (omega arith) ∙ ap (λ (h : GeneralizedImpulse). cond (eqb j.body_b b) (add_impulse_of h j.linear_b j.angular_b c) h) r

pub one_more : {j : ℕ → RowJacobian} {x : ℕ → Float} {bodies i : ℕ} {l l' : List Float} → Summing j x bodies i l
    → (j i).body_a < bodies → (j i).body_b < bodies → l' ≡ added_row l (j i) (x i) → Summing j x bodies (i + 1) l'
unfolding impulse_at
one_more {j} {x} {bodies} {i} {l} h p q e = rw (e, add-one i) (record {
  long = added_row_length l (j i) (x i) ∙ h.long;
  at = λ b t. added_row_lem l (j i) (x i) b (omega (arith, h.long)) (omega (arith, h.long)) ∙ ap (add_row_of (j i) (x i) b) (h.at b t);
})
