-- The answer with what is delivered: "An accepted answer carries the flag, the count and two residual maxima"; "A refusal returns its number and nothing else", and touches nothing.
use Rattle.std.specs.Prelude.{ℕ, zero, suc, ◌+◌, ◌*◌, ◌≡◌, Bool, List, get_or, set, Float}
use Rattle.std.specs.Float.{nan}
use Rattle.loops.specs.Run.{Run, going, ended}
use Rattle.recurrence.specs.Step.{Iterate, Carried}
use Rattle.solve_method.specs.Method.{Delivered}
use Rattle.steps.specs.Method.{Method}
use Rattle.steps.specs.Meaning.{Accepted, TurnsBack}
use Rattle.position_delivery.specs.declared.answer.PositionPcgResult.{PositionPcgResult}

-- the lent numbers that an accepted answer writes: the rows, for their accumulated multipliers, solution, impulses and the new centres
pub record Lent : Type 0 where
  pub numbers : List Float
  pub solution : List Float
  pub impulses : List Float
  pub centres : List Float

pub record Outcome : Type 0 where
  pub answer : Run PositionPcgResult ℕ
  pub lent : Lent

-- the rows' numbers with these at one place of the first k rows' 27: 24 for the accumulated multipliers, 25 for the accumulated impulses (document 02, a)
unfoldable pub with_accumulated : ℕ → List Float → List Float → ℕ → List Float
with_accumulated place numbers accumulated zero = numbers
with_accumulated place numbers accumulated (suc k) = set (with_accumulated place numbers accumulated k) (27 * k + place) (get_or accumulated k nan)

abbrev pub with_multipliers : List Float → List Float → ℕ → List Float
with_multipliers numbers multipliers k = with_accumulated 24 numbers multipliers k

abbrev pub Answer : Type 0
Answer = Run ((Bool × ℕ × Iterate) × Delivered) ℕ

-- flag, count and the two maxima
abbrev pub result_of : Bool → ℕ → Delivered → PositionPcgResult
result_of flag count f = record { converged = flag; iterations = count; linear_residual_m = f.maxima.linear; angular_residual_rad = f.maxima.angular }

-- The delivery in two halves. What is proposed, the rows left as they were: the answer, which 17 may turn back, solution, impulses and centres.
pub record Proposal : Type 0 where
  pub answer : Run PositionPcgResult ℕ
  pub solution : List Float
  pub impulses : List Float
  pub centres : List Float

unfoldable pub proposal_of : List Float → List Float → List Float → Answer → Proposal
proposal_of solution impulses centres (going ((flag, count, v), f)) = record { answer = going (result_of flag count f); solution = v.solution; impulses = f.impulses; centres = f.centres }
proposal_of solution impulses centres (ended number) = record { answer = ended number; solution = solution; impulses = impulses; centres = centres }

-- What is then written into the n rows: their accumulated numbers, at this place.
unfoldable pub committed_of : ℕ → ℕ → List Float → Answer → List Float
committed_of place n numbers (going (a, f)) = with_accumulated place numbers f.accumulated n
committed_of place n numbers (ended number) = numbers

-- The solve is both.
abbrev pub outcome_at : ℕ → ℕ → Lent → Answer → Outcome
outcome_at place n before a =
    let p = proposal_of before.solution before.impulses before.centres a in
    record { answer = p.answer; lent = record { numbers = committed_of place n before.numbers a; solution = p.solution; impulses = p.impulses; centres = p.centres } }

-- of positions
abbrev pub outcome_of : ℕ → Lent → Answer → Outcome
outcome_of n before a = outcome_at 24 n before a

abbrev pub lent_of : ℕ → ℕ → Lent → Iterate → Delivered → Lent
lent_of place n before v f = record { numbers = with_accumulated place before.numbers f.accumulated n; solution = v.solution; impulses = f.impulses; centres = f.centres }

-- ---- what an answer means, told by document 01's steps: demand 3
module _ (m : Method Iterate Carried Delivered) (limit place n : ℕ) (before : Lent) where
  -- Its count is the first step that meets, or the limit; its flag, solution and maxima are those of that step (`Accepted`, `Counted` in steps/specs/Meaning.antt); nothing turns the job back.
  pub record AcceptedAs (r : PositionPcgResult) (after : Lent) : Type 0 where
    pub step : Iterate
    pub delivered : Delivered
    pub accepted : Accepted m limit r.converged r.iterations step delivered
    pub result_is : r ≡ result_of r.converged r.iterations delivered
    pub lent_is : after ≡ lent_of place n before step delivered
    pub none_turns_back : (number : ℕ) → ¬ TurnsBack m limit number

  -- Its number turns the job back, in its place and none judged before it, and nothing lent is touched.
  pub record RefusedAs (number : ℕ) (after : Lent) : Type 0 where
    pub turned : TurnsBack m limit number
    pub kept : after ≡ before

  abbrev pub MeaningAt : Run PositionPcgResult ℕ → Lent → Type 0
  MeaningAt (going r) after = AcceptedAs r after
  MeaningAt (ended number) after = RefusedAs number after

-- of positions
abbrev pub SolveMeaning : Method Iterate Carried Delivered → ℕ → ℕ → Lent → Run PositionPcgResult ℕ → Lent → Type 0
SolveMeaning m limit n before answer after = MeaningAt m limit 24 n before answer after
