-- What an accepted group delivers, and that nothing else is written. Assumes nothing.
use Prim.Native.Nat.{ℕ, ◌+◌, ◌≤◌}
use mathlib.Core.Path.{◌≡◌, refl}
use mathlib.Core.List.{List}
use native.Mathlib.Omega.{arith}
use lib.Ieee.{Float, nan}
use Rattle.kapitsa_joint.specs.Kind.{placed_of}
use Rattle.kapitsa_joint.specs.declared.kind.Kind.{Kind}
use Rattle.kapitsa_joint.specs.declared.kind.Kind.TheVariants as kinds
use Rattle.position_delivery.specs.Outcome.{Lent}
use Rattle.position_delivery.specs.declared.answer.PositionPcgResult.{PositionPcgResult}
use Rattle.group_table.specs.Pick.{Put, Marked}
use Rattle.loops.specs.Run.{Run, going, ended}
use Rattle.group_step.specs.Step.{RowsPut, BodiesPut, OtherRows, OtherBodies, Delivered, TableKept}

pub placed_few : (kind : Kind) (bodies : ℕ) → placed_of kind bodies ≤ bodies
placed_few kinds.Position bodies = omega arith
placed_few kinds.Velocity bodies = omega arith

other_rows : {X : Type 0} {d : X} {width : ℕ} {groups : List ℕ} {g n : ℕ} {from to₀ to : List X} → Put d width groups g n from to₀ to → OtherRows d width groups g n to₀ to
other_rows h = record { same = h.others }

other_bodies : {width : ℕ} {marks : List ℕ} {mark n : ℕ} {from to₀ to : List Float} → Marked nan width marks mark n from to₀ to → OtherBodies width marks mark n to₀ to
other_bodies h = record { same = λ body c l m q. h.others body c m (λ _. q) }

-- ---- the two ways of `deliver_group`
module _ (kind : Kind) (bodies n : ℕ) (groups marks : List ℕ) (g : ℕ) (ownNumbers ownSolution ownImpulses ownCentres : List Float) (named : List ℕ) (before after : Lent) (rules₀ rules : List ℕ) (placed : ℕ) (ep : placed ≡ placed_of kind bodies)
    (p : RowsPut groups g n ownNumbers ownSolution named before.numbers before.solution rules₀ after.numbers after.solution rules) (q₀ : BodiesPut marks (g + 1) bodies placed ownImpulses ownCentres before.impulses before.centres after.impulses after.centres) where
  bodies_there : BodiesPut marks (g + 1) bodies (placed_of kind bodies) ownImpulses ownCentres before.impulses before.centres after.impulses after.centres
  bodies_there = rw ep at q₀

  pub accepted_there : (answer : Run PositionPcgResult ℕ) (r : PositionPcgResult) → answer ≡ going r → Delivered kind bodies n groups marks g answer (record { numbers = ownNumbers; solution = ownSolution; impulses = ownImpulses; centres = ownCentres }) named before after rules₀ rules
  accepted_there answer r e = rw e (record {
    numbers_are = p.numbers_put.here;
    solution_are = p.solution_put.here;
    rules_are = p.rules_put.here;
    impulses_are = bodies_there.impulses_put_lem.at;
    centres_are = bodies_there.centres_put_lem.at;
  })

  pub accepted_else : TableKept kind bodies n groups marks g before after rules₀ rules
  accepted_else = record {
    numbers_else = other_rows p.numbers_put;
    solution_else = other_rows p.solution_put;
    rules_else = other_rows p.rules_put;
    impulses_else = other_bodies bodies_there.impulses_put_lem;
    centres_else = other_bodies bodies_there.centres_put_lem;
  }

pub refused_there : (kind : Kind) (bodies n : ℕ) (groups marks : List ℕ) (g : ℕ) (answer : Run PositionPcgResult ℕ) (own : Lent) (named : List ℕ) (before : Lent) (rules₀ : List ℕ) (number : ℕ) → answer ≡ ended number → Delivered kind bodies n groups marks g answer own named before before rules₀ rules₀
refused_there kind bodies n groups marks g answer own named before rules₀ number e = rw e (record { numbers_are = refl; solution_are = refl; rules_are = refl; impulses_are = λ body c l m q. refl; centres_are = λ body c l m q. refl })

pub refused_else : (kind : Kind) (bodies n : ℕ) (groups marks : List ℕ) (g : ℕ) (before : Lent) (rules₀ : List ℕ) → TableKept kind bodies n groups marks g before before rules₀ rules₀
refused_else kind bodies n groups marks g before rules₀ = record { numbers_else = record { same = λ h q. refl }; solution_else = record { same = λ h q. refl }; rules_else = record { same = λ h q. refl }; impulses_else = record { same = λ body c l m q. refl }; centres_else = record { same = λ body c l m q. refl } }
