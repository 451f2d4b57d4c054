-- A check that gives a verdict has numbers for a list: each is finite and at least +0.0, a tolerance that 26 lets pass. Assumes nothing.
use Prim.Native.Nat.{ℕ, ◌<◌}
use mathlib.Core.Path.{◌≡◌, refl, subst}
use mathlib.Core.Bool.{Bool, true, false, false≢true}
use lib.Dec.{T}
use lib.IntN.{pos}
use lib.Ieee.{Float, nan, inf, fin, lt, eq, le}
use lib.Ieee.Scale.{finite}
use Rattle.loops.specs.Cleared.{plus_zero}
use Rattle.joint_refusals.specs.Tolerances.{tolerance_fits}
use Rattle.check_range.specs.Closing.{Closing}
use Rattle.check_measure.specs.Verdict.{reach}
use Rattle.check_answer.specs.Answer.{CheckMeaning, CheckAnswer}
use Rattle.margins_list.specs.Margins.{Sized, AllSized}
use Rattle.margins_list.proofs.Fractions.{nought_is}
use Rattle.loops.specs.Run.{ended}

pub all_sized : {fits : Bool} {c : Closing} {answer : CheckAnswer} → CheckMeaning fits c answer → ((n : ℕ) → answer ≡ ended n → ⊥) → AllSized (reach c) c.table.rows
all_sized m v = record { sized = m.reaches v }

-- the same numbers in lent memory
pub sized_same : {x y : ℕ → Float} {n : ℕ} → ((i : ℕ) → i < n → x i ≡ y i) → AllSized y n → AllSized x n
sized_same e a = record { sized = λ i p. rw (e i p) (a.sized i p) }

sized_fits : (x : Float) → Sized x → tolerance_fits x ≡ true
unfolding tolerance_fits
sized_fits x (t, h) = rw h (holds (finite x) t)
  where
    holds : (b : Bool) → T b → b ≡ true
    holds true t = refl
    holds false t = absurd t

-- from 0 but below a finite number
below_sized : (x y : Float) → T (finite y) → le plus_zero x ≡ true → lt x y ≡ true → Sized x
unfolding le lt eq
below_sized x y t h l = (go x y t (subst (λ (z : Float). le z x ≡ true) nought_is h) l, h)
  where
    go : (x y : Float) → T (finite y) → le (fin false 0 (pos 0)) x ≡ true → lt x y ≡ true → T (finite x)
    go nan y t h l = absurd (false≢true l)
    go (inf true) y t h l = absurd (false≢true h)
    go (inf false) nan t h l = absurd t
    go (inf false) (inf s) t h l = absurd t
    go (inf false) (fin s m e) t h l = absurd (false≢true l)
    go (fin s m e) y t h l = tt

-- ---- what is judged of tolerances lets row i's number pass, and any from 0 but below it
module _ {fits : Bool} {c : Closing} {answer : CheckAnswer} (m : CheckMeaning fits c answer) (v : (n : ℕ) → answer ≡ ended n → ⊥) (i : ℕ) (l : i < c.table.rows) where
  pub number_fits : tolerance_fits (reach c i) ≡ true
  number_fits = sized_fits (reach c i) (m.reaches v i l)

  pub alone_fits : (x : Float) → le plus_zero x ≡ true → lt x (reach c i) ≡ true → tolerance_fits x ≡ true
  alone_fits x h b = sized_fits x (below_sized x (reach c i) (m.reaches v i l).0 h b)
