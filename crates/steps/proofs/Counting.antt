-- The four ways through `counting`: step 0 is refused, it meets, what follows from it is refused, or the loop is run. Assumes nothing.
use Prim.Native.Nat.{ℕ}
use mathlib.Core.Bool.{false, true}
use mathlib.Core.Path.{◌∙◌, ◌≡◌}
use Rattle.loops.proofs.Inverse.{check_false, check_true}
use Rattle.loops.proofs.Loop.{on_ended, on_going}
use Rattle.loops.specs.Run.{ended, going, turns}
use Rattle.steps.specs.Method.{Method}
use Rattle.steps.specs.Solve.{after_loop, counting, turn}

module _ {S C F : Type 0} (m : Method S C F) (limit : ℕ) where
  pub begun_ended : (n : ℕ) → m.begin ≡ ended n → counting m limit ≡ ended n
  unfolding counting
  begun_ended n b = on_ended _ _ _ b

  pub begun_met : (v : S) → m.begin ≡ going v → m.steps.meets v ≡ true → counting m limit ≡ going (true, 0, v)
  unfolding counting
  begun_met v b f = on_going _ _ _ b ∙ check_true _ _ _ f

  pub first_ended : (v : S) (n : ℕ) → m.begin ≡ going v → m.steps.meets v ≡ false → m.first v ≡ ended n → counting m limit ≡ ended n
  unfolding counting
  first_ended v n b f d = on_going _ _ _ b ∙ (check_false _ _ _ f ∙ on_ended _ _ _ d)

  pub looped : (v : S) (c : C) → m.begin ≡ going v → m.steps.meets v ≡ false → m.first v ≡ going c → counting m limit ≡ after_loop limit (turns (turn m.steps) (v, c) limit)
  unfolding counting
  looped v c b f d = on_going _ _ _ b ∙ (check_false _ _ _ f ∙ on_going _ _ _ d)
