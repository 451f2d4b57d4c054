-- The centres after the impulses: the ways of `moved_at`, the loops over the bodies, and impulses that agree. Assumes nothing.
use Prim.Native.Nat.{ℕ, ◌+◌, ◌*◌, ◌<◌, ◌≤◌}
use mathlib.Core.Path.{◌≡◌, refl, ap, ◌∙◌}
use mathlib.Core.Bool.{Bool, true, false, ◌&&◌}
use mathlib.Core.List.{List}
use mathlib.Core.Logic.{inl}
use native.Mathlib.Omega.{arith}
use borrow.Author.Count.{below_none, below_more}
use lib.ListN.{length}
use lib.Ieee.{Float, eq}
use Rattle.loops.specs.Cleared.{plus_zero}
use Rattle.loops.proofs.Every.{every_same}
use Rattle.kapitsa_math.specs.declared.vector.Vec3.{Vec3}
use Rattle.kapitsa_math.specs.Vector.{is_finite_of, add_of, scale_of}
use Rattle.kapitsa_math.specs.Lent.{vec_of, put_vec_of}
use Rattle.kapitsa_math.proofs.Stored.{put_vec_length, put_vec_same, put_vec_other}
use Rattle.kapitsa_joint.specs.Centre.{Centres, flat_centres}
use Rattle.kapitsa_joint.specs.declared.impulse.GeneralizedImpulse.{GeneralizedImpulse}
use Rattle.kapitsa_joint.specs.declared.mass.SolverMass.{SolverMass}
use Rattle.kapitsa_joint.proofs.Centres.{centres_flat, flat_centres_same}
use Rattle.joint_refusals.specs.Refusals.{centres_finite}
use Rattle.position.specs.Centres.{zero_of, still_of, next_centre, moved_at, moved_by}

-- ---- `is_still`: six tests, by pairs or by threes
in_pairs : (a b c d e f : Bool) → (((a && d) && (b && e)) && (c && f)) ≡ (((a && b) && c) && ((d && e) && f))
in_pairs false b c d e f = refl
in_pairs true false c true e f = refl
in_pairs true false c false e f = refl
in_pairs true true false true true f = refl
in_pairs true true false true false f = refl
in_pairs true true false false e f = refl
in_pairs true true true true true f = refl
in_pairs true true true true false f = refl
in_pairs true true true false e f = refl

pub still_is : (g : GeneralizedImpulse)
    → (((eq g.linear.x plus_zero && eq g.angular.x plus_zero) && (eq g.linear.y plus_zero && eq g.angular.y plus_zero)) && (eq g.linear.z plus_zero && eq g.angular.z plus_zero)) ≡ still_of g
unfolding zero_of still_of
still_is g = in_pairs (eq g.linear.x plus_zero) (eq g.linear.y plus_zero) (eq g.linear.z plus_zero) (eq g.angular.x plus_zero) (eq g.angular.y plus_zero) (eq g.angular.z plus_zero)

-- ---- `next_center`
pub next_is : (m : SolverMass) (g : GeneralizedImpulse) (centre step r : Vec3) → step ≡ scale_of g.linear m.inverse_mass → r ≡ add_of centre step → r ≡ next_centre m g centre
unfolding next_centre
next_is m g centre step r es er = er ∙ ap (add_of centre) es

-- ---- `moved_at`
module _ (mass : ℕ → SolverMass) (impulse : ℕ → GeneralizedImpulse) (centre : ℕ → Vec3) (b : ℕ) (g : GeneralizedImpulse) (v : Vec3) (still : Bool) (eg : g ≡ impulse b) (ev : v ≡ centre b) (es : still ≡ still_of g) where
  pub moved_still : still ≡ true → v ≡ moved_at mass impulse centre b
  unfolding moved_at
  moved_still t = rw (← eg, ← es, t) ev

  pub moved_next : (m : SolverMass) (r : Vec3) → still ≡ false → m ≡ mass b → r ≡ next_centre m g v → r ≡ moved_at mass impulse centre b
  unfolding moved_at
  moved_next m r t em er = rw (← eg, ← es, t, ← em, ← ev) er

-- ---- a turn of `moved_finite`
pub moved_tested : (v w : Vec3) (r : Bool) → v ≡ w → r ≡ is_finite_of v → r ≡ is_finite_of w
moved_tested v w r ev er = er ∙ ap is_finite_of ev

-- ---- `move_centres`: of all bodies, those below i have their new centre
pub record Moves (c : Centres) (i : ℕ) (now : List Float) : Type 0 where
  pub within : i ≤ c.bodies
  pub long : length now ≡ 3 * c.bodies
  pub there : (b : ℕ) → b < i → vec_of now (3 * b) ≡ c.at b

module _ {c : Centres} where
  pub moves_none : (now : List Float) → length now ≡ 3 * c.bodies → Moves c 0 now
  moves_none now e = record { within = omega arith; long = e; there = below_none _ }

  pub moves_more : {i : ℕ} {now after : List Float} {v : Vec3} → Moves c i now → i < c.bodies → v ≡ c.at i → after ≡ put_vec_of now (3 * i) v → Moves c (i + 1) after
  moves_more {i} {now} {after} {v} h l ev e =
      let room : 3 * i + 3 ≤ length now = omega (arith, h.long) in
      rw e (record {
        within = omega arith;
        long = put_vec_length now (3 * i) v ∙ h.long;
        there = below_more _ _ (λ b p. put_vec_other now (3 * i) v (3 * b) (inl (omega arith)) ∙ h.there b p) (put_vec_same now (3 * i) v room ∙ ev);
      })

  pub moves_end : {i : ℕ} {now : List Float} → Moves c i now → c.bodies ≤ i → now ≡ flat_centres c
  moves_end {i} {now} h l = centres_flat c now h.long (λ b p. h.there b (omega arith))

-- ---- impulses that agree on the bodies there are move them alike
module _ (mass : ℕ → SolverMass) (f g : ℕ → GeneralizedImpulse) (c : Centres) (same : (b : ℕ) → b < c.bodies → f b ≡ g b) where
  alike : (b : ℕ) → b < c.bodies → moved_at mass f c.at b ≡ moved_at mass g c.at b
  unfolding moved_at
  alike b h = rw (same b h)

  pub moved_finite_same : centres_finite (moved_by mass f c) ≡ centres_finite (moved_by mass g c)
  unfolding centres_finite
  moved_finite_same = every_same _ _ c.bodies (λ b h. ap is_finite_of (alike b h))

  pub moved_flat_same : flat_centres (moved_by mass f c) ≡ flat_centres (moved_by mass g c)
  moved_flat_same = flat_centres_same (moved_by mass f c) (moved_by mass g c) refl alike
