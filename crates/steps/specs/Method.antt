-- The parts of a solve, made from what it is given. A part that is refused ends with document 01's number.
-- S is a step's solution and residual. C is what is carried from one step to the next: factor, direction and s. F is what is delivered: multipliers, impulses, maxima.
use Rattle.std.specs.Prelude.{ℕ, Bool}
use Rattle.loops.specs.Run.{Run}

-- Document 01, "What a step is"; Hestenes and Stiefel 1952, section 3.
pub record Recurrence (S C : Type 0) : Type 0 where
  pub advance : S → C → Run S ℕ  -- "solution gains alpha × direction and residual loses alpha × product": 15, 16
  pub meets : S → Bool  -- "A residual meets tolerance where each |residual| ≤ its row's tolerance"
  pub renew : S → C → Run C ℕ  -- "z and s are made anew, and direction becomes z + (new s / old s) × direction": 14, 16

-- The parts before the steps and after them: document 01, "Flag, count and residuals" and "Why a job was turned back".
pub record Method (S C F : Type 0) : Type 0 where
  pub opening : ℕ → Run Unit ℕ  -- what is judged before step 0: 3 to 6. Of all parts only this one reads the limit, for refusal 5
  pub begin : Run S ℕ  -- "Step 0 has the starting residual, replaced rows at 0.0", row by row: 7 to 9
  pub first : S → Run C ℕ  -- factor, z, s and "direction (z at first)" from step 0: 10 to 13, then 14, 16
  pub steps : Recurrence S C
  pub finish : ℕ → S → Run F ℕ  -- what is delivered of a count and the step it counts: 17
