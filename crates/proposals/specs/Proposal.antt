-- Document 02, l: "a proposal carries the answer, solution, impulses, centres and the multipliers it started from"; "Refusal 17 comes with the proposal, and a refused solve makes none".
use Rattle.std.specs.Prelude.{ℕ, ◌*◌, ◌≤◌, ◌≡◌, cond, List, [], ◌∷◌, Float}
use Rattle.loops.specs.Tabulate.{tabulate}
use Rattle.position.specs.Multipliers.{accumulated_in}
use Rattle.position_delivery.specs.Outcome.{Answer, proposal_of}
use Rattle.loops.specs.Run.{Run, going, ended}
use Rattle.position_delivery.specs.declared.answer.PositionPcgResult.{PositionPcgResult}

-- the lent memory that a proposal stands in; its words are rows, flag, count and the mark
pub record ProposalMemory : Type 0 where
  pub words : List ℕ
  pub solution : List Float
  pub impulses : List Float
  pub centres : List Float
  pub started : List Float

-- the words of an accepted answer: no mark yet
unfoldable pub words_by : Run PositionPcgResult ℕ → ℕ → List ℕ → List ℕ
words_by (going r) rows before = rows ∷ cond r.converged 1 0 ∷ r.iterations ∷ 0 ∷ []
words_by (ended number) rows before = before

-- the accumulated multipliers of n rows
unfoldable pub started_by : Run PositionPcgResult ℕ → List Float → ℕ → List Float → List Float
started_by (going r) numbers n before = tabulate (accumulated_in 24 numbers) n
started_by (ended number) numbers n before = before

-- the room that these take, where the answer is accepted
pub record NotingRoom (answer : Run PositionPcgResult ℕ) (numbers words started : ℕ) : Type 0 where
  pub four : words ≡ 4
  pub room : (r : PositionPcgResult) → answer ≡ going r → 27 * started ≤ numbers

-- what is proposed of n rows with these numbers
pub record Proposing : Type 0 where
  pub answer : Run PositionPcgResult ℕ
  pub memory : ProposalMemory

abbrev pub proposing : ℕ → List Float → ProposalMemory → Answer → Proposing
proposing n numbers before a =
    let p = proposal_of before.solution before.impulses before.centres a in
    record { answer = p.answer; memory = record { words = words_by p.answer n before.words; solution = p.solution; impulses = p.impulses; centres = p.centres; started = started_by p.answer numbers n before.started } }
