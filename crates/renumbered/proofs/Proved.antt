-- Document 02, n, of a table. Assumes nothing.
use Prim.Native.Nat.{ℕ, ◌*◌}
use mathlib.Core.Path.{◌≡◌, refl, ap, ◌∙◌}
use mathlib.Core.Bool.{Bool}
use native.Mathlib.Omega.{arith}
use lib.Ieee.{Float}
use Rattle.kapitsa_math.specs.Vector.{is_finite_of}
use Rattle.kapitsa_math.specs.declared.vector.Vec3.{Vec3}
use Rattle.kapitsa_math.specs.Lent.{vec_of}
use Rattle.kapitsa_joint.specs.Table.{Table}
use Rattle.kapitsa_joint.specs.Impulse.{impulse_of}
use Rattle.kapitsa_joint.specs.Centre.{Centres}
use Rattle.kapitsa_joint.specs.declared.kind.Kind.{Kind}
use Rattle.joint_refusals.specs.Refusals.{centres_finite, opens_of, velocity_opens_of}
use Rattle.rules.specs.Rules.{Rules, ruled_by, passes28}
use Rattle.preconditioner.specs.declared.mode.Mode.{Mode}
use Rattle.steps.specs.Alike.{delivering}
use Rattle.steps.specs.Solve.{solve}
use Rattle.position.specs.Problem.{Problem}
use Rattle.solve_method.specs.Method.{method_of}
use Rattle.solve_method.specs.Position.{placed_problem, shifted_problem, moving_problem}
use Rattle.check_range.specs.Closing.{Closing, closing_for}
use Rattle.renumbered.specs.Renumber.{Renumbering, InRange, bodies_by, renumbered_row, renumber, renumbered_centres}
use Rattle.renumbered.specs.Moved.{moved}
use Rattle.renumbered.specs.Claims.{CheckedAlike, Renumbers, ReadBack}
use Rattle.renumbered.proofs.Permuted.{every_old, no_bodies}
use Rattle.renumbered.proofs.Along.{impulse_along, centre_along}
use Rattle.renumbered.proofs.Solves.{renumbered_problem, solve_moved}
use Rattle.renumbered.proofs.Checks.{renumbered_closing, check_same, reach_same, gap_same, radius_same}
use Rattle.renumbered.proofs.Margins.{list_same}

-- ---- what is read of a row beside its bodies stays
module _ (p q : ℕ → ℕ) (t : Table) where
  ruled_same : (s : Rules) → ruled_by s (renumber p q t) ≡ ruled_by s t
  unfolding passes28 renumbered_row bodies_by
  ruled_same s = refl

  closing_renumbered : (kind : Kind) (s : Rules) (listed residual : ℕ → Float) (placed : Bool) → closing_for kind (renumber p q t) listed s residual placed ≡ renumbered_closing p q (closing_for kind t listed s residual placed)
  unfolding passes28 renumbered_row bodies_by
  closing_renumbered kind s listed residual placed = refl

  velocity_renumbered : (s : Rules) (shift : Float) (residual : ℕ → Float) → moving_problem (renumber p q t) (ruled_by s (renumber p q t)) shift residual ≡ renumbered_problem p q (moving_problem t (ruled_by s t) shift residual)
  unfolding passes28 renumbered_row bodies_by velocity_opens_of vec_of
  velocity_renumbered s shift residual = refl

  -- of positions beside their centres
  position_renumbered : (s : Rules) (shift : Float) (placed : Bool) (c : Centres) → placed_problem (renumber p q t) (ruled_by s (renumber p q t)) shift placed (renumbered_centres q c) ≡ renumbered_problem p q (placed_problem t (ruled_by s t) shift placed c)
  unfolding passes28 renumbered_row bodies_by opens_of
  position_renumbered s shift placed c = refl

checked_alike : (p q : ℕ → ℕ) (c : Closing) → Renumbering c.table.bodies p q → InRange c.table → CheckedAlike c (renumbered_closing p q c)
unfolding renumbered_row bodies_by
checked_alike p q c r inside = record {
  checks = check_same p q c r inside;
  rules = λ i h. refl;
  reaches = reach_same p q c r inside;
  margins = list_same c (renumbered_closing p q c) refl (λ i h. refl) (reach_same p q c r inside);
}

module _ (p q : ℕ → ℕ) (t : Table) (r : Renumbering t.bodies p q) (inside : InRange t) where
  abbrev placed_by : (ℕ → Vec3) → Centres
  placed_by centre = record { bodies = t.bodies; at = centre }

  centres_same : (centre : ℕ → Vec3) → centres_finite (renumbered_centres q (placed_by centre)) ≡ centres_finite (placed_by centre)
  unfolding centres_finite
  centres_same centre = every_old t.bodies p q r (λ b. is_finite_of (centre b))

  positions : (s : Rules) (shift : Float) (centre : ℕ → Vec3) (fits : Bool) (mode : Mode) (limit : ℕ)
      → solve (method_of fits (shifted_problem (renumber p q t) (ruled_by s (renumber p q t)) shift (λ b. centre (q b))) mode) limit ≡ delivering (moved q) (solve (method_of fits (shifted_problem t (ruled_by s t) shift centre) mode) limit)
  positions s shift centre fits mode limit =
      ap (λ (b : Bool). solve (method_of fits (placed_problem (renumber p q t) (ruled_by s (renumber p q t)) shift b (renumbered_centres q (placed_by centre))) mode) limit) (centres_same centre)
      ∙ ap (λ (x : Problem). solve (method_of fits x mode) limit) (position_renumbered p q t s shift (centres_finite (placed_by centre)) (placed_by centre))
      ∙ solve_moved p q (shifted_problem t (ruled_by s t) shift centre) r inside (omega arith) r fits mode limit

  velocities : (s : Rules) (shift : Float) (residual : ℕ → Float) (fits : Bool) (mode : Mode) (limit : ℕ)
      → solve (method_of fits (moving_problem (renumber p q t) (ruled_by s (renumber p q t)) shift residual) mode) limit ≡ delivering (moved q) (solve (method_of fits (moving_problem t (ruled_by s t) shift residual) mode) limit)
  velocities s shift residual fits mode limit =
      ap (λ (x : Problem). solve (method_of fits x mode) limit) (velocity_renumbered p q t s shift residual)
      ∙ solve_moved p q (moving_problem t (ruled_by s t) shift residual) r inside (omega arith) (no_bodies p q) fits mode limit

  pub renumbers : Renumbers p q t
  renumbers = record {
    rules = ruled_same p q t;
    positions = positions;
    velocities = velocities;
    closings = λ kind s listed residual placed. rw (closing_renumbered p q t kind s listed residual placed) (checked_alike p q (closing_for kind t listed s residual placed) r inside);
    gaps = λ kind s listed residual placed i h. let c = closing_for kind t listed s residual placed in rw (closing_renumbered p q t kind s listed residual placed) (gap_same p q c r inside i h, radius_same p q c r inside i h);
  }

pub read_back : (n : ℕ) (p q : ℕ → ℕ) → Renumbering n p q → ReadBack n p q
read_back n p q r = record {
  impulses = λ l e b h. impulse_along q n l e (p b) (r.new_below b h) ∙ ap (impulse_of l) (r.back b h);
  centres = λ l e b h. centre_along q n l e (p b) (r.new_below b h) ∙ ap (λ (a : ℕ). vec_of l (3 * a)) (r.back b h);
}
