-- What is told of a group. Assumes nothing.
use Prim.Native.Nat.{ℕ, ◌+◌, ◌*◌, ◌≤◌}
use mathlib.Core.Path.{◌≡◌, refl, ◌∙◌}
use mathlib.Core.Bool.{Bool, true, false, cond}
use mathlib.Core.List.{List}
use native.Mathlib.Omega.{arith}
use lib.ListN.{length, get_or, set, length-set}
use lib.Seq.{get_or-set_same, get_or-set_other}
use lib.Ieee.{Float, nan}
use Rattle.position_delivery.specs.declared.answer.PositionPcgResult.{PositionPcgResult}
use Rattle.loops.specs.Run.{Run, going, ended}
use Rattle.group_step.specs.Step.{WordsPut, MaximaPut, OtherGroups, TellsGroup}

-- two and three places, one behind the other
module _ {X : Type 0} (d : X) (l : List X) (at : ℕ) (x y : X) (h : at + 2 ≤ length l) where
  abbrev two : List X
  two = set (set l at x) (at + 1) y

  pub two_long : length two ≡ length l
  two_long = length-set (set l at x) (at + 1) y ∙ length-set l at x

  pub two_first : get_or two at d ≡ x
  two_first = get_or-set_other (set l at x) (at + 1) at y d (λ q. omega arith) ∙ get_or-set_same l at x d (omega arith)

  pub two_second : get_or two (at + 1) d ≡ y
  two_second = get_or-set_same (set l at x) (at + 1) y d (omega (arith, length-set l at x))

  pub two_else : (k : ℕ) → (k ≡ at → ⊥) → (k ≡ at + 1 → ⊥) → get_or two k d ≡ get_or l k d
  two_else k p q = get_or-set_other (set l at x) (at + 1) k y d q ∙ get_or-set_other l at k x d p

pub maxima_put : (l : List Float) (at : ℕ) (linear angular : Float) → at + 2 ≤ length l → MaximaPut at linear angular l (set (set l at linear) (at + 1) angular)
maxima_put l at x y h = record {
  first = two_first nan l at x y h;
  second = two_second nan l at x y h;
  below = λ k p. two_else nan l at x y h k (λ q. omega arith) (λ q. omega arith);
  above = λ k p. two_else nan l at x y h k (λ q. omega arith) (λ q. omega arith);
}

pub words_put : (l : List ℕ) (at refusal count flag : ℕ) → at + 3 ≤ length l → WordsPut at refusal count flag l (set (set (set l at refusal) (at + 1) count) (at + 2) flag)
words_put l at x y z h =
    let e : at + 2 ≤ length l = omega arith in
    let m = set (set l at x) (at + 1) y in
    record {
      first = get_or-set_other m (at + 2) at z 0 (λ q. omega arith) ∙ two_first 0 l at x y e;
      second = get_or-set_other m (at + 2) (at + 1) z 0 (λ q. omega arith) ∙ two_second 0 l at x y e;
      third = get_or-set_same m (at + 2) z 0 (omega (arith, two_long 0 l at x y e));
      below = λ k p. get_or-set_other m (at + 2) k z 0 (λ q. omega arith) ∙ two_else 0 l at x y e k (λ q. omega arith) (λ q. omega arith);
      above = λ k p. get_or-set_other m (at + 2) k z 0 (λ q. omega arith) ∙ two_else 0 l at x y e k (λ q. omega arith) (λ q. omega arith);
    }

words_else : {g refusal count flag : ℕ} {w₀ w : List ℕ} → WordsPut (3 * g) refusal count flag w₀ w → OtherGroups 0 3 g w₀ w
words_else h = record { below = h.below; above = h.above }

-- ---- the flag as a word
pub flag_on : (flag : Bool) → flag ≡ true → ◌≡◌ {A = ℕ} 1 (cond flag 1 0)
flag_on flag e = rw e

pub flag_off : (flag : Bool) → flag ≡ false → ◌≡◌ {A = ℕ} 0 (cond flag 1 0)
flag_off flag e = rw e

-- ---- the two ways of `tell_group`
pub tell_accepted : {answer : Run PositionPcgResult ℕ} (r : PositionPcgResult) (g at flag : ℕ) {w₀ w : List ℕ} {m₀ m : List Float} → answer ≡ going r → at ≡ g → flag ≡ cond r.converged 1 0 → WordsPut (3 * at) 0 r.iterations flag w₀ w → MaximaPut (2 * at) r.linear_residual_m r.angular_residual_rad m₀ m
    → TellsGroup g answer w₀ w m₀ m
tell_accepted r g at flag e q f h k = rw (e, ← q) (record {
  told = record { refusal = h.first; count = h.second; flag = h.third ∙ f; linear = k.first; angular = k.second };
  words_else = words_else h;
  maxima_else = record { below = k.below; above = k.above };
})

pub tell_refused : {answer : Run PositionPcgResult ℕ} (number g at : ℕ) {w₀ w : List ℕ} (m : List Float) → answer ≡ ended number → at ≡ g → WordsPut (3 * at) number 0 0 w₀ w → TellsGroup g answer w₀ w m m
tell_refused number g at m e q h = rw (e, ← q) (record {
  told = record { refusal = h.first; count = h.second; flag = h.third; linear = refl; angular = refl };
  words_else = words_else h;
  maxima_else = record { below = λ k p. refl; above = λ k p. refl };
})
