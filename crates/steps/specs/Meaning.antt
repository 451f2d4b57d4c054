-- What an answer means, told by document 01's steps and not by the code: the last part of demand 3.
use Rattle.std.specs.Prelude.{ℕ, suc, ◌+◌, ◌<◌, ◌≤◌, ◌≡◌, Bool, false}
use Rattle.loops.specs.Run.{Run, going, ended, Goes}
use Rattle.steps.specs.Method.{Method}
use Rattle.steps.specs.Steps.{ready, step_at, AllMiss}

module _ {S C F : Type 0} (m : Method S C F) where
  -- Demand 3: "its count is the first step, from 0 to the limit, whose residual meets every row's tolerance, or the limit where none does; its flag is 1 exactly when there is such a step; its solution and residual maxima are those of the step it counts".
  pub record Counted (limit : ℕ) (flag : Bool) (count : ℕ) (v : S) : Type 0 where
    pub made : step_at m count ≡ going v  -- v is the step counted
    pub within : count ≤ limit
    pub earlier : AllMiss m count  -- every earlier step misses
    pub verdict : flag ≡ m.steps.meets v  -- the flag is 1 exactly when the step counted meets
    pub spent : flag ≡ false → count ≡ limit  -- where none meets, the count is the limit
    pub renewed : flag ≡ false → Goes (ready m count)  -- and 14 and 16 do not turn that last step back

  -- An accepted answer.
  pub record Accepted (limit : ℕ) (flag : Bool) (count : ℕ) (v : S) (f : F) : Type 0 where
    pub opened : m.opening limit ≡ going tt
    pub counted : Counted limit flag count v
    pub finished : m.finish count v ≡ going f

  -- ---- Demand 3: "none of these papers' refusals, each judged in its place, turns it back". The places, where n turns a job back:

  -- A step that misses, up to the limit and at it too, where its z, s or direction is refused; of step 0 its factor, z or s.
  pub record Renewing (limit n : ℕ) : Type 0 where
    pub step : ℕ
    pub within : step ≤ limit
    pub missed : AllMiss m (step + 1)
    pub refused : ready m step ≡ ended n

  -- A step that misses, below the limit, and is renewed, where the next step is refused.
  pub record Advancing (limit n : ℕ) : Type 0 where
    pub step : ℕ
    pub within : step < limit
    pub missed : AllMiss m (step + 1)
    pub renewed : Goes (ready m step)
    pub refused : step_at m (suc step) ≡ ended n

  -- The step counted, where what it would deliver is refused.
  pub record Finishing (limit n : ℕ) : Type 0 where
    pub flag : Bool
    pub count : ℕ
    pub step : S
    pub counted : Counted limit flag count step
    pub refused : m.finish count step ≡ ended n

  -- Refusal n turns the job back.
  pub data TurnsBack (limit n : ℕ) : Type 0 where
    in_opening : m.opening limit ≡ ended n → TurnsBack limit n
    in_beginning : m.opening limit ≡ going tt → step_at m 0 ≡ ended n → TurnsBack limit n
    in_renewing : m.opening limit ≡ going tt → Renewing limit n → TurnsBack limit n
    in_advancing : m.opening limit ≡ going tt → Advancing limit n → TurnsBack limit n
    in_finishing : m.opening limit ≡ going tt → Finishing limit n → TurnsBack limit n

  -- What any answer means: where it is accepted, what it says holds and nothing turns the job back; where it is refused, its number does.
  abbrev pub Meaning : ℕ → Run ((Bool × ℕ × S) × F) ℕ → Type 0
  Meaning limit (going r) = Accepted limit r.0.0 r.0.1 r.0.2 r.1 × ((n : ℕ) → ¬ TurnsBack limit n)
  Meaning limit (ended n) = TurnsBack limit n
