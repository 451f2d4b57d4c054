-- What refusal 7 tells of a row that it passes: its two bodies differ and are below the count, and its error is finite. Assumes nothing.
use Prim.Native.Nat.{ℕ, ◌<◌}
use mathlib.Core.Path.{◌≡◌}
use mathlib.Core.Bool.{true, false, not, ◌&&◌}
use lib.Dec.{eqb, ltb}
use lib.Ieee.Scale.{finite}
use borrow.Author.Tests.{ltb-true, not-true}
use Rattle.loops.proofs.Both.{both}
use Rattle.kapitsa_joint.specs.declared.row.RowScalars.{RowScalars}
use Rattle.kapitsa_joint.specs.declared.row.RowWords.{RowWords}
use Rattle.kapitsa_joint.specs.declared.row.ConstraintRow.{ConstraintRow}
use Rattle.joint_refusals.specs.Refusals.{is_valid_of, bodies_below_of, jacobians_finite_of, scalars_finite_of, scalars_in_range_of}

pub record Bodies (bodies : ℕ) (w : RowWords) : Type 0 where
  pub apart : eqb w.body_a w.body_b ≡ false
  pub a : w.body_a < bodies
  pub b : w.body_b < bodies

module _ (bodies : ℕ) (r : ConstraintRow) (h : is_valid_of bodies r ≡ true) where
  valid_parts : (bodies_below_of bodies r.words ≡ true) × (scalars_finite_of r.scalars ≡ true)
  unfolding is_valid_of
  valid_parts =
      let (p, _) = both ((bodies_below_of bodies r.words && jacobians_finite_of r) && scalars_finite_of r.scalars) (scalars_in_range_of r.scalars) h in
      let (q, s) = both (bodies_below_of bodies r.words && jacobians_finite_of r) (scalars_finite_of r.scalars) p in
      ((both (bodies_below_of bodies r.words) (jacobians_finite_of r) q).0, s)

  pub valid_bodies : Bodies bodies r.words
  unfolding bodies_below_of
  valid_bodies =
      let w = r.words in
      let differ = not (eqb w.body_a w.body_b) in
      let (p, b) = both (differ && ltb w.body_a bodies) (ltb w.body_b bodies) valid_parts.0 in
      let (n, a) = both differ (ltb w.body_a bodies) p in
      record { apart = not-true (eqb w.body_a w.body_b) n; a = ltb-true w.body_a bodies a; b = ltb-true w.body_b bodies b }

  pub valid_error : finite r.scalars.error ≡ true
  unfolding scalars_finite_of
  valid_error = first r.scalars valid_parts.1
    where
      first : (s : RowScalars) → scalars_finite_of s ≡ true → finite s.error ≡ true
      first s e =
          let (a, _) = both ((((((finite s.error && finite s.target_velocity) && finite s.force_bias) && finite s.compliance) && finite s.damping) && finite s.accumulated_multiplier) && finite s.accumulated_impulse) (finite s.cached_velocity_effective_mass) e in
          let (b, _) = both (((((finite s.error && finite s.target_velocity) && finite s.force_bias) && finite s.compliance) && finite s.damping) && finite s.accumulated_multiplier) (finite s.accumulated_impulse) a in
          let (c, _) = both ((((finite s.error && finite s.target_velocity) && finite s.force_bias) && finite s.compliance) && finite s.damping) (finite s.accumulated_multiplier) b in
          let (d, _) = both (((finite s.error && finite s.target_velocity) && finite s.force_bias) && finite s.compliance) (finite s.damping) c in
          let (f, _) = both ((finite s.error && finite s.target_velocity) && finite s.force_bias) (finite s.compliance) d in
          let (g, _) = both (finite s.error && finite s.target_velocity) (finite s.force_bias) f in
          (both (finite s.error) (finite s.target_velocity) g).0
