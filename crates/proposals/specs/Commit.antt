-- Document 02, l: "a commit writes the new multipliers and marks the proposal"; "Errors: 29, the proposal bears the mark; 30, a multiplier or the row count is not what the proposal started from, bits compared; 29 first, and neither writes".
use Rattle.std.specs.Prelude.{ℕ, ◌*◌, ◌<◌, ◌≡◌, Bool, true, false, ◌&&◌, List, [], ◌∷◌, ◌⊎◌, ◌↔◌, eqb, leb, get_or, set, length, Float}
use Rattle.std.specs.Float.{nan, binary64}
use Rattle.std.specs.Float.Ieee.{to_bits}
use Rattle.loops.specs.Run.{Run, going, ended}
use Rattle.loops.specs.Every.{every}
use Rattle.loops.specs.Judge.{AllPass, judge}
use Rattle.position.specs.Multipliers.{accumulated_in}
use Rattle.position_delivery.specs.Delivery.{gained_after}

-- a proposal's words
abbrev pub rows_in : List ℕ → ℕ
rows_in words = get_or words 0 0

abbrev pub count_in : List ℕ → ℕ
count_in words = get_or words 2 0

abbrev pub mark_in : List ℕ → ℕ
mark_in words = get_or words 3 0

-- "3 before them where the lent slices do not fit together": the numbers are those of the rows, solution and started those of the proposal, by its own words
unfoldable pub commit_lent : ℕ → ℕ → List ℕ → ℕ → ℕ → Bool
commit_lent rows numbers words solution started = eqb (length words) 4 && (((leb rows 512 && eqb numbers (27 * rows)) && eqb solution (rows_in words)) && eqb started (rows_in words))

-- "bits compared": so +0.0 and −0.0 differ; `to_bits` gives every NaN one pattern
abbrev pub bits_now : List Float → ℕ → ℕ
bits_now numbers i = to_bits binary64 (accumulated_in 24 numbers i)

abbrev pub bits_then : List Float → ℕ → ℕ
bits_then started i = to_bits binary64 (get_or started i nan)

unfoldable pub same_multipliers : List Float → List Float → ℕ → Bool
same_multipliers numbers started n = every (λ i. eqb (bits_now numbers i) (bits_then started i)) n

-- the order of judging
unfoldable pub commit_tests : List Float → ℕ → List ℕ → List Float → List Float → List (ℕ × Bool)
commit_tests numbers rows words solution started =
    (3, commit_lent rows (length numbers) words (length solution) (length started))
    ∷ (29, eqb (mark_in words) 0)
    ∷ (30, eqb rows (rows_in words) && same_multipliers numbers started (length started))
    ∷ []

-- 0, or the number that a job is turned back with
abbrev pub number_in : Run Unit ℕ → ℕ
number_in (going _) = 0
number_in (ended number) = number

-- the answer, the rows' numbers and the proposal's words
pub record Committing : Type 0 where
  pub number : ℕ
  pub numbers : List Float
  pub words : List ℕ

-- the mark is 1; with count 0 the multipliers keep their bits (`gained_after`)
unfoldable pub committing_by : Run Unit ℕ → List Float → List ℕ → List Float → Committing
committing_by (going _) numbers words solution = record { number = 0; numbers = gained_after 24 (count_in words) numbers solution; words = set words 3 1 }
committing_by (ended number) numbers words solution = record { number = number; numbers = numbers; words = words }

abbrev pub committing : List Float → ℕ → List ℕ → List Float → List Float → Committing
committing numbers rows words solution started = committing_by (judge (commit_tests numbers rows words solution started)) numbers words solution

-- what the rows are not any more
abbrev pub Moved : List Float → ℕ → List ℕ → List Float → Type 0
Moved numbers rows words started = ¬ (rows ≡ rows_in words) ⊎ ((i : ℕ) × (i < length started) × ¬ (bits_now numbers i ≡ bits_then started i))

pub record Committed (numbers : List Float) (rows : ℕ) (words : List ℕ) (solution started : List Float) (after : Committing) : Type 0 where
  pub answered : committing numbers rows words solution started ≡ after  -- the answer and every lent number are the definition's
  pub done : (after.number ≡ 0) ↔ AllPass (commit_tests numbers rows words solution started)
  pub unfit : (after.number ≡ 3) ↔ (commit_lent rows (length numbers) words (length solution) (length started) ≡ false)
  pub twice : (after.number ≡ 29) ↔ ((commit_lent rows (length numbers) words (length solution) (length started) ≡ true) × ¬ (mark_in words ≡ 0))  -- 29 exactly where the proposal bears the mark, whatever else has changed
  pub moved : (after.number ≡ 30) ↔ ((commit_lent rows (length numbers) words (length solution) (length started) ≡ true) × (mark_in words ≡ 0) × Moved numbers rows words started)  -- 30 exactly where it bears none, and the row count or the bits of a multiplier differ
  pub kept : ¬ (after.number ≡ 0) → (after.numbers ≡ numbers) × (after.words ≡ words)  -- "neither writes"
