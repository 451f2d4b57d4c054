-- Document 01, "Sheets to try": what "the job program ... prints": "refusal, count, flag; residuals; verdict; row and multiplier; body and six impulses", with the measured gap before the residuals (document 02, h) and the new centre after the impulses (d), and of a refused job "its first line only, zeros after the number".
use Rattle.std.specs.Prelude.{ℕ, ◌+◌, ◌*◌, ◌<◌, Bool, cond, List, [], ◌++◌, leb, eqb, get_or, Float}
use Rattle.std.specs.Float.{nan}
use Rattle.std.specs.Float.Ieee.{le}
use Rattle.kapitsa_joint.specs.declared.maxima.Maxima.{Maxima}
use Rattle.listing.specs.Written.{pieces}
use Rattle.listing.specs.Lines.{solve_line, gap_line, no_gap_line, carried_line, close_line, row_line, body_line, margin_line, row_gap_line}

-- a line for each row, with its accumulated multiplier, which is number 24 of its 27
unfoldable pub row_lines : List Float → ℕ → List ℕ
row_lines numbers rows = pieces (λ i. row_line i (get_or numbers (27 * i + 24) nan)) rows

-- a line for each body, also where there are no rows
unfoldable pub body_lines : List Float → ℕ → List Float → ℕ → List ℕ
body_lines impulses spare centres bodies = pieces (λ b. body_line b impulses spare centres) bodies

-- the flag as it is printed
abbrev pub flag_of : Bool → ℕ
flag_of flag = cond flag 1 0

-- the measured gap, where there is a verdict: 0 or 1, and no refusal
unfoldable pub measured_line : ℕ → Maxima → List ℕ
measured_line verdict gap = cond (leb verdict 1) (gap_line gap) no_gap_line

-- the first four lines of an accepted job: count and flag, the measured gap, the carried residuals, the verdict
unfoldable pub head_lines : ℕ → Bool → Maxima → Maxima → ℕ → List ℕ
head_lines count flag gap carried verdict = solve_line 0 count (flag_of flag) ++ measured_line verdict gap ++ carried_line carried ++ close_line verdict

-- of an accepted job, from a file of this spare
unfoldable pub listing_of : ℕ → Bool → Maxima → Maxima → ℕ → ℕ → ℕ → List Float → List Float → ℕ → List Float → List ℕ
listing_of count flag gap carried verdict rows bodies numbers impulses spare centres =
    head_lines count flag gap carried verdict ++ row_lines numbers rows ++ body_lines impulses spare centres bodies

-- document 02, m: a line for each place of the list, its row and the number beside it
unfoldable pub margin_lines : List ℕ → List Float → ℕ → List ℕ
margin_lines margin_rows margins n = pieces (λ k. margin_line (get_or margin_rows k 0) (get_or margins k nan)) n

-- of an accepted job, what the margins program prints: "Where the check refuses or says open there is no list"
unfoldable pub margin_listing : ℕ → Bool → Maxima → Maxima → ℕ → ℕ → List ℕ → List Float → List ℕ
margin_listing count flag gap carried verdict rows margin_rows margins = head_lines count flag gap carried verdict ++ cond (eqb verdict 1) (margin_lines margin_rows margins rows) []

-- a line for each row, in row order: its owner, which is word 6 of its eight, its measured number, and the tolerance of its rule
abbrev pub row_gap : List ℕ → List Float → List ℕ → List Float → ℕ → List ℕ
row_gap words gaps rule_numbers tolerances i =
    let x = get_or gaps i nan in
    let tolerance = get_or tolerances (get_or rule_numbers i 0) nan in
    row_gap_line i (get_or words (8 * i + 6) 0) x tolerance (flag_of (le x tolerance))

unfoldable pub gap_lines : List ℕ → List Float → List ℕ → List Float → ℕ → List ℕ
gap_lines words gaps rule_numbers tolerances rows = pieces (row_gap words gaps rule_numbers tolerances) rows

-- of an accepted job, what the gaps program prints: where the check refuses there are no numbers
unfoldable pub gap_listing : ℕ → Bool → Maxima → Maxima → ℕ → ℕ → List ℕ → List Float → List ℕ → List Float → List ℕ
gap_listing count flag gap carried verdict rows words gaps rule_numbers tolerances = head_lines count flag gap carried verdict ++ cond (leb verdict 1) (gap_lines words gaps rule_numbers tolerances rows) []

-- each of the first rows has the number of a rule
pub record RulesBelow (rule_numbers : List ℕ) (rows rules : ℕ) : Type 0 where
  pub below : (i : ℕ) → i < rows → get_or rule_numbers i 0 < rules

-- of a refused one
unfoldable pub refused_listing : ℕ → List ℕ
refused_listing refusal = solve_line refusal 0 0
