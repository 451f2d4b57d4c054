-- What the programs print of a file: document 01, "Sheets to try": "the job program, reading standard input, prints", document 02, m: the margins program, and the gaps program.
use Rattle.std.specs.Prelude.{ℕ, ◌+◌, ◌*◌, true, cond, List, ◌++◌, eqb, get_or, Float}
use Rattle.loops.specs.Run.{going, ended, on, next}
use Rattle.loops.specs.Judge.{test}
use Rattle.loops.specs.Tabulate.{tabulate}
use Rattle.kapitsa_joint.specs.Table.{table_of}
use Rattle.kapitsa_joint.specs.Centre.{centres_in}
use Rattle.joint_refusals.specs.Refusals.{centres_finite}
use Rattle.kapitsa_joint.specs.declared.maxima.Maxima.{Maxima}
use Rattle.kapitsa_joint.specs.declared.kind.Kind.TheVariants.{Position}
use Rattle.joint_refusals.specs.Tolerances.{passes26}
use Rattle.rules.specs.Rules.{two_rules}
use Rattle.mass_operator.specs.Flat.{coefficients}
use Rattle.preconditioner.specs.Mode.{mode_of}
use Rattle.steps.specs.Solve.{solve}
use Rattle.loops.specs.Cleared.{plus_zero}
use Rattle.solve_method.specs.Position.{position_of}
use Rattle.solve_method.specs.Method.{method_of}
use Rattle.position_delivery.specs.Outcome.{Answer, result_of, with_multipliers}
use Rattle.position_delivery.specs.declared.answer.PositionPcgResult.{PositionPcgResult}
use Rattle.check_range.specs.Closing.{Closing, closing_of}
use Rattle.check_measure.specs.Verdict.{reach}
use Rattle.check_answer.specs.Answer.{number_of, gap_of, check_of, CheckAnswer}
use Rattle.margins_list.specs.Ranked.{margin_rows, margin_numbers}
use Rattle.first_refusal.specs.Room.{place_in}
use Rattle.first_refusal.specs.declared.place.Place.{Place}
use Rattle.first_refusal.specs.declared.place.Place.TheVariants as places
use Rattle.job_file.specs.File.{trailer_of}
use Rattle.job_file.specs.Job.{Job, job_with, job_of, file_numbers, file_words, file_masses, file_centres}
use Rattle.listing.specs.Lines.{refused_row_line, refused_body_line, refused_limit_line}
use Rattle.listing.specs.Listing.{listing_of, margin_listing, gap_listing, refused_listing}
use Rattle.job_sheet.specs.declared.which.Sheet.{Sheet}
use Rattle.job_sheet.specs.declared.which.Sheet.TheVariants as sheets

-- "The job program uses shift 0" (document 02, f). Refusal 3 has passed: a file's counts and mode are judged with it, and what is lent is as long as they call for.
-- Document 02, k: "The job file keeps its two tolerances; the program still judges them by 26, then takes them as two rules over keys 0 to 255."
unfoldable pub answer_to : Job → Answer
answer_to j = next (test (passes26 j.tolerance) 26) (λ _. solve (method_of true (position_of j.rows j.bodies j.numbers j.words j.masses j.centres (two_rules j.tolerance) plus_zero) (mode_of j.mode plus_zero)) j.limit)

-- "the gains since error was measured; the job program gives it the solution": the check of the rows as the solve leaves them
abbrev pub closing_by : Job → List Float → List Float → Closing
closing_by j numbers solution = closing_of (table_of j.rows j.bodies numbers j.words j.masses) (coefficients solution) (two_rules j.tolerance) (centres_finite (centres_in j.bodies j.centres))

-- the verdict with its gap, or the check's refusal
unfoldable pub check_in : Job → List Float → List Float → CheckAnswer
check_in j numbers solution = check_of true (closing_by j numbers solution)

-- the residuals that the solve carries along
abbrev pub carried_by : PositionPcgResult → Maxima
carried_by r = record { linear = r.linear_residual_m; angular = r.angular_residual_rad }

-- of an accepted job, from what the solve answers and delivers: the job program's
unfoldable pub printed_of : Job → PositionPcgResult → List Float → List Float → List Float → List Float → List ℕ
printed_of j r numbers solution impulses newCentres =
    let answer = check_in j numbers solution in
    listing_of r.iterations r.converged (gap_of answer) (carried_by r) (number_of answer) j.rows j.bodies numbers impulses j.spare newCentres

-- the margins program's: of a closed check each row with its number, "linear rows before angular, largest first within each dimension, lower row first among equals"
unfoldable pub margins_printed : Job → PositionPcgResult → List Float → List Float → List ℕ
margins_printed j r numbers solution =
    let answer = check_in j numbers solution in
    let c = closing_by j numbers solution in
    margin_listing r.iterations r.converged (gap_of answer) (carried_by r) (number_of answer) j.rows (margin_rows c) (margin_numbers c)

-- the gaps program's: of a check that gives a verdict, closed or open, each row's measured number and the tolerance of its rule
unfoldable pub gaps_printed : Job → PositionPcgResult → List Float → List Float → List ℕ
gaps_printed j r numbers solution =
    let answer = check_in j numbers solution in
    let c = closing_by j numbers solution in
    gap_listing r.iterations r.converged (gap_of answer) (carried_by r) (number_of answer) j.rows j.words (tabulate (reach c) j.rows) (tabulate c.rule j.rows) (two_rules j.tolerance).tolerances

unfoldable pub shown_of : Sheet → Job → PositionPcgResult → List Float → List Float → List Float → List Float → List ℕ
shown_of sheets.Job j r numbers solution impulses newCentres = printed_of j r numbers solution impulses newCentres
shown_of sheets.Margins j r numbers solution impulses newCentres = margins_printed j r numbers solution
shown_of sheets.Gaps j r numbers solution impulses newCentres = gaps_printed j r numbers solution

-- ---- of a refused job

-- the first row with its owner, the first body, or the limit; the two rules are no part of the file, so that none is named
unfoldable pub place_listing : ℕ → List ℕ → Place → List ℕ
place_listing number words (places.Row i) = refused_listing number ++ refused_row_line i (get_or words (8 * i + 6) 0)
place_listing number words (places.Body b) = refused_listing number ++ refused_body_line b
place_listing number words (places.Rule r) = refused_listing number
place_listing number words places.Limit = refused_listing number ++ refused_limit_line
place_listing number words places.None = refused_listing number

-- the gaps program's: where the number was met in what the solve was given
unfoldable pub gaps_turned : Job → ℕ → List ℕ
gaps_turned j number = place_listing number j.words (place_in Position j.rows j.bodies j.numbers j.words j.masses j.centres (two_rules j.tolerance) number j.limit)

-- "its first line only, zeros after the number", by the other two
unfoldable pub turned_of : Sheet → Job → ℕ → List ℕ
turned_of sheets.Job j number = refused_listing number
turned_of sheets.Margins j number = refused_listing number
turned_of sheets.Gaps j number = gaps_turned j number

-- ---- what the programs share
unfoldable pub answer_sheet : Sheet → Job → Answer → List ℕ
answer_sheet sheet j (going ((flag, count, v), f)) = shown_of sheet j (result_of flag count f) (with_multipliers j.numbers f.accumulated j.rows) v.solution f.impulses f.centres
answer_sheet sheet j (ended number) = turned_of sheet j number

unfoldable pub job_sheet : Sheet → Job → List ℕ
job_sheet sheet j = answer_sheet sheet j (answer_to j)

-- a file that is no job: 4 is met in rows that can be read, 1 to 3 before there is any
unfoldable pub file_turned : Sheet → List ℕ → ℕ → List ℕ
file_turned sheet file number = cond (eqb number 4) (turned_of sheet (job_with (trailer_of file) (file_numbers file) (file_words file) (file_masses file) (file_centres file)) 4) (refused_listing number)

-- of every file
unfoldable pub sheet_of : Sheet → List ℕ → List ℕ
sheet_of sheet file = on (job_of file) (job_sheet sheet) (file_turned sheet file)
