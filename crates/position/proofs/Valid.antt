-- What refusal 7 tells of a row that it passes: its bodies have masses, and its residual starts finite. Assumes nothing.
use Prim.Native.Nat.{ℕ, ◌+◌, ◌*◌, ◌≤◌}
use mathlib.Core.Path.{◌≡◌, sym, subst}
use mathlib.Core.Bool.{Bool, true, false, not}
use mathlib.Core.List.{List}
use native.Mathlib.Omega.{arith}
use borrow.Author.Tests.{not-false}
use lib.Dec.{T}
use lib.ListN.{length}
use lib.Ieee.{Float, neg}
use lib.Ieee.Scale.{finite}
use Rattle.rounding.proofs.Parts.{neg_finite}
use Rattle.kapitsa_joint.specs.declared.row.ConstraintRow.{ConstraintRow}
use Rattle.joint_refusals.specs.Refusals.{is_valid_of}
use Rattle.joint_refusals.proofs.Valid.{Bodies, valid_bodies, valid_error}

pub start_finite : (bodies : ℕ) (r : ConstraintRow) → is_valid_of bodies r ≡ true → T (finite (neg r.scalars.error))
start_finite bodies r h = neg_finite r.scalars.error (subst T (sym (valid_error bodies r h)) tt)

-- `is_valid_at` passed the row q in the slices, and r was read from there: its masses can be read
module _ (masses : List Float) (bodies : ℕ) (r q : ConstraintRow) (v : Bool) (er : r ≡ q) (ev : v ≡ is_valid_of bodies q) (h : not v ≡ false) (room : 10 * bodies ≤ length masses) where
  below : Bodies bodies r.words
  below = valid_bodies bodies r (rw (er, ← ev) (not-false v h))

  pub mass_a : 10 * r.words.body_a + 10 ≤ length masses
  mass_a = omega (arith, below.a)

  pub mass_b : 10 * r.words.body_b + 10 ≤ length masses
  mass_b = omega (arith, below.b)
