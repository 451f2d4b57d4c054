-- What a closing check tells C: 0 with the verdict and the measured gap, or the refusal's number, and then nothing else.
use Rattle.std.specs.Prelude.{ℕ, ◌≡◌, Bool, ◌&&◌, List, [], ◌∷◌, ◌↔◌, eqb, length, Float}
use Rattle.kapitsa_joint.specs.declared.maxima.Maxima.{Maxima}
use Rattle.rules.specs.Rules.{Rules, Ruled}
use Rattle.check_range.specs.Closing.{Closing}
use Rattle.check_answer.specs.Answer.{check_of, named_by, CheckMeaning, CheckAnswer}
use Rattle.check_work.specs.Work.{CheckMemory, After}
use Rattle.check_answer.specs.declared.Verdict.TheVariants.{Closed, Open}
use Rattle.loops.specs.Run.{going, ended}

pub record VerdictTold : Type 0 where
  pub number : ℕ
  pub verdict : List ℕ  -- one word: 1 closed, 0 open
  pub gap : List Float  -- linear, angular

abbrev pub both : Maxima → List Float
both m = m.linear ∷ (m.angular ∷ [])

unfoldable pub verdict_told : CheckAnswer → List ℕ → List Float → VerdictTold
verdict_told (going (Closed m)) verdict gap = record { number = 0; verdict = 1 ∷ []; gap = both m }
verdict_told (going (Open m)) verdict gap = record { number = 0; verdict = 0 ∷ []; gap = both m }
verdict_told (ended number) verdict gap = record { number = number; verdict = verdict; gap = gap }

-- "3. … a lent slice has not the length the counts call for", of the slices that take the verdict and the gap
unfoldable pub verdict_fits : List ℕ → List Float → Bool
verdict_fits verdict gap = eqb (length verdict) 1 && eqb (length gap) 2

-- The answer is the definition's and means what demand 3 says, 0 is told for a verdict alone, then each row's rule is named, and the work memory is cleared. `fits` is whether refusal 3 passes.
pub record CheckTold (fits : Bool) (s : Rules) (c : Closing) (verdict : List ℕ) (gap : List Float) (told : VerdictTold) (numbers numbersAfter : List ℕ) (before after : CheckMemory) : Type 0 where
  pub answered : told ≡ verdict_told (check_of fits c) verdict gap
  pub means : CheckMeaning fits c (check_of fits c)
  pub zero : (told.number ≡ 0) ↔ ((n : ℕ) → check_of fits c ≡ ended n → ⊥)
  pub named : numbersAfter ≡ named_by (check_of fits c) c numbers  -- the number of each row's rule
  pub ruled : told.number ≡ 0 → Ruled s c.table  -- which is the one that it falls under
  pub memory : After fits before after
