-- What is noted of an answer. Assumes nothing.
use Prim.Native.Nat.{ℕ}
use mathlib.Core.Path.{◌≡◌, refl}
use mathlib.Core.Bool.{Bool, true, false, cond}
use mathlib.Core.List.{List, [], ◌∷◌}
use native.Mathlib.Omega.{arith}
use mir.Val.{bool_byte}
use lib.ListN.{length, set}
use lib.Ieee.{Float}
use Rattle.loops.specs.Tabulate.{tabulate}
use Rattle.position.specs.Multipliers.{accumulated_in}
use Rattle.position_delivery.specs.declared.answer.PositionPcgResult.{PositionPcgResult}
use Rattle.loops.specs.Run.{Run, going, ended}
use Rattle.proposals.specs.Proposal.{words_by, started_by}

-- ---- `note_accepted`
four_set : {X : Type 0} (xs : List X) (a b c d : X) → length xs ≡ 4 → set (set (set (set xs 0 a) 1 b) 2 c) 3 d ≡ a ∷ b ∷ c ∷ d ∷ []
four_set [] a b c d e = absurd (omega arith)
four_set (x ∷ []) a b c d e = absurd (omega arith)
four_set (x ∷ y ∷ []) a b c d e = absurd (omega arith)
four_set (x ∷ y ∷ z ∷ []) a b c d e = absurd (omega arith)
four_set (x ∷ y ∷ z ∷ w ∷ []) a b c d e = refl
four_set (x ∷ y ∷ z ∷ w ∷ v ∷ vs) a b c d e = absurd (omega arith)

flag_byte : (b : Bool) → bool_byte b ≡ cond b 1 0
flag_byte true = refl
flag_byte false = refl

module _ (answer : Run PositionPcgResult ℕ) (rows : ℕ) (words : List ℕ) where
  pub words_noted : (r : PositionPcgResult) → answer ≡ going r → length words ≡ 4 → set (set (set (set words 0 rows) 1 (bool_byte r.converged)) 2 r.iterations) 3 0 ≡ words_by answer rows words
  unfolding words_by
  words_noted r e l = rw (e, flag_byte r.converged) (four_set words rows (cond r.converged 1 0) r.iterations 0 l)

  pub words_left : (k : ℕ) → answer ≡ ended k → words ≡ words_by answer rows words
  unfolding words_by
  words_left k e = rw e

module _ (answer : Run PositionPcgResult ℕ) (numbers : List Float) (n : ℕ) (started : List Float) where
  pub started_noted : (r : PositionPcgResult) (l : List Float) → answer ≡ going r → l ≡ tabulate (accumulated_in 24 numbers) n → l ≡ started_by answer numbers n started
  unfolding started_by
  started_noted r l e h = rw e h

  pub started_left : (k : ℕ) → answer ≡ ended k → started ≡ started_by answer numbers n started
  unfolding started_by
  started_left k e = rw e
