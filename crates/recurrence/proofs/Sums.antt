-- The loops of the updates make x + a y and x - a y. Assumes nothing.
use Prim.Native.Nat.{ℕ, ◌≤◌}
use mathlib.Core.Path.{◌≡◌, sym, ap, ◌∙◌}
use mathlib.Core.Bool.{Bool}
use mathlib.Core.List.{List}
use lib.ListN.{length, get_or}
use lib.Ieee.{Float, nan, binary64, add, sub, mul}
use Rattle.loops.specs.Tabulate.{tabulate}
use Rattle.recurrence.specs.Vectors.{plus_scaled, less_scaled}
use Rattle.preconditioner.proofs.InPlace.{Changes, changes_end}
use Rattle.recurrence.proofs.Tested.{Tested}

-- ---- the updates: what a turn makes of the number that stands at k
abbrev pub gains : Float → List Float → ℕ → Float → Float
gains a y k v = add binary64 v (mul binary64 a (get_or y k nan))

abbrev pub loses : Float → List Float → ℕ → Float → Float
loses a y k v = sub binary64 v (mul binary64 a (get_or y k nan))

abbrev pub becomes : List Float → Float → ℕ → Float → Float
becomes x a k v = add binary64 (get_or x k nan) (mul binary64 a v)

pub gained : (x y l : List Float) (a : Float) (i : ℕ) (all : Bool) → Tested (gains a y) x i l all → length x ≤ i → l ≡ plus_scaled x a y
unfolding plus_scaled
gained x y l a i all t b = changes_end t.changed b

pub lost : (x y l : List Float) (a : Float) (i : ℕ) → Changes nan (loses a y) x i l → length x ≤ i → l ≡ less_scaled x a y
unfolding less_scaled
lost x y l a i c b = changes_end c b

pub turned : (x y l : List Float) (a : Float) (i : ℕ) (all : Bool) → length x ≡ length y → Tested (becomes x a) y i l all → length y ≤ i → l ≡ plus_scaled x a y
unfolding plus_scaled
turned x y l a i all e t b = changes_end t.changed b ∙ ap (tabulate (λ k. becomes x a k (get_or y k nan))) (sym e)
