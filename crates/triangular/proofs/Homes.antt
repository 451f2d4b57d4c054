-- The rows of an index as a list of their own, for the laws of a loop over a stretch of a list. Assumes nothing.
use Prim.Native.Nat.{ℕ, zero, suc, ◌+◌, ◌*◌}
use mathlib.Core.Path.{◌≡◌, refl, ◌∙◌}
use mathlib.Core.List.{List, [], ◌∷◌}
use native.Mathlib.Omega.{arith}
use lib.ListN.{get_or, drop}
use lib.Seq.{get_or-drop}
use Rattle.triangular.specs.Column.{home_at}

-- every second word
unfoldable pub seconds : List ℕ → List ℕ
seconds [] = []
seconds (x ∷ []) = []
seconds (x ∷ (y ∷ l)) = y ∷ seconds l

unfoldable pub homes : List ℕ → ℕ → List ℕ
homes order n = seconds (drop n order)

second : (l : List ℕ) (q : ℕ) → get_or (seconds l) q 0 ≡ get_or l (2 * q + 1) 0
unfolding seconds
second [] q = refl
second (x ∷ []) q = let e : 2 * q + 1 ≡ suc (2 * q) = omega arith in rw e
second (x ∷ (y ∷ l)) zero = refl
second (x ∷ (y ∷ l)) (suc q) = let e : 2 * suc q + 1 ≡ suc (suc (2 * q + 1)) = omega arith in rw e (second l q)

pub home_at_lem : (order : List ℕ) (n q : ℕ) → get_or (homes order n) q 0 ≡ home_at order n q
unfolding homes
home_at_lem order n q = second (drop n order) q ∙ get_or-drop n order (2 * q + 1) 0 ∙ (let e : n + (2 * q + 1) ≡ n + 2 * q + 1 = omega arith in rw e)
