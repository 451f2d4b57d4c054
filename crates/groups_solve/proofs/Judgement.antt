-- The tests of the whole table, one by one. Assumes nothing.
use Prim.Native.Nat.{ℕ, ◌*◌, ◌≤◌}
use mathlib.Core.Path.{◌≡◌, refl, sym, ap, ◌∙◌}
use mathlib.Core.Bool.{Bool, true, false, not, ◌&&◌, true≢false}
use mathlib.Core.List.{List, [], ◌++◌}
use native.Mathlib.Omega.{arith}
use lib.ListN.{length}
use lib.Ieee.{Float}
use Rattle.loops.specs.Run.{Run, ended}
use Rattle.loops.specs.Every.{every}
use Rattle.loops.specs.Judge.{judge}
use Rattle.loops.proofs.Judge.{judge_fail, judge_pass}
use Rattle.kapitsa_joint.specs.Mass.{mass_of}
use Rattle.kapitsa_joint.specs.Table.{table_of}
use Rattle.kapitsa_joint.specs.Centre.{centres_in}
use Rattle.kapitsa_joint.specs.Kind.{by_kind, placed_of}
use Rattle.kapitsa_joint.specs.declared.kind.Kind.{Kind}
use Rattle.kapitsa_joint.specs.declared.kind.Kind.TheVariants as kinds
use Rattle.joint_refusals.specs.Refusals.{mass_finite_of, passes6, passes20, centres_finite}
use Rattle.mass_operator.specs.Flat.{coefficients}
use Rattle.position.specs.Kinds.{GivenRoom}
use Rattle.position.specs.Problem.{residual_tests}
use Rattle.position_steps.specs.Opening.{given_fits}
use Rattle.groups_solve.specs.Judged.{centres_pass}

-- ---- 6, of masses and centres
pub masses_centres : (kind : Kind) (rows bodies : ℕ) (numbers : List Float) (words : List ℕ) (masses centres : List Float) (r p : Bool) → r ≡ every (λ b. mass_finite_of (mass_of masses b)) bodies → p ≡ centres_pass kind bodies centres → (r && p) ≡ (passes6 (table_of rows bodies numbers words masses) && centres_pass kind bodies centres)
unfolding passes6
masses_centres kind rows bodies numbers words masses centres r p e d = rw (e, d)

module _ (kind : Kind) (bodies : ℕ) (centres : List Float) where
  pub centres_judged : (r : Bool) → kind ≡ kinds.Position → r ≡ centres_finite (centres_in bodies centres) → r ≡ centres_pass kind bodies centres
  centres_judged r k e = rw k e

  pub no_centres_lem : kind ≡ kinds.Velocity → true ≡ centres_pass kind bodies centres
  no_centres_lem k = rw k refl

  pub centres_room : (m : ℕ) → 3 * placed_of kind bodies ≤ m → kind ≡ kinds.Position → 3 * bodies ≤ m
  centres_room m h k = rw k at h

-- ---- 20: of velocities a test, of positions none
module _ (kind : Kind) (given : List Float) (rows : ℕ) where
  pub none_given : kind ≡ kinds.Position → true ≡ given_fits kind given rows
  none_given k = rw k refl

  pub given_judged : (r : Bool) → kind ≡ kinds.Velocity → r ≡ passes20 (coefficients given) rows → r ≡ given_fits kind given rows
  given_judged r k e = rw k e

  pub given_there : GivenRoom kind (length given) rows → kind ≡ kinds.Velocity → rows ≤ length given
  given_there h k = omega (arith, h.long k)

  module _ (r : Bool) (l : List (ℕ × Bool)) (e : r ≡ given_fits kind given rows) where
    pub given_fail : not r ≡ true → judge (by_kind kind [] (residual_tests (coefficients given) rows) ++ l) ≡ ended 20
    given_fail h = go kind e
      where
        go : (k : Kind) → r ≡ given_fits k given rows → judge (by_kind k [] (residual_tests (coefficients given) rows) ++ l) ≡ ended 20
        go kinds.Position q = absurd (true≢false (sym h ∙ ap not q))
        go kinds.Velocity q = judge_fail 20 (passes20 (coefficients given) rows) l q h

    pub given_pass : {o : Run Unit ℕ} → not r ≡ false → judge l ≡ o → judge (by_kind kind [] (residual_tests (coefficients given) rows) ++ l) ≡ o
    given_pass {o} h q = go kind e
      where
        go : (k : Kind) → r ≡ given_fits k given rows → judge (by_kind k [] (residual_tests (coefficients given) rows) ++ l) ≡ o
        go kinds.Position d = q
        go kinds.Velocity d = judge_pass 20 (passes20 (coefficients given) rows) l d h q
