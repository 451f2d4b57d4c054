-- The ways from a file to its sheet: refused, read, solved, listed, whichever program prints it. Assumes nothing.
use Prim.Native.Nat.{ℕ, ◌+◌, ◌*◌, ◌<◌, ◌≤◌}
use mathlib.Core.Path.{◌≡◌, refl, sym, ap, ◌∙◌}
use mathlib.Core.Bool.{Bool, true, false, not, cond, ◌&&◌}
use mathlib.Core.List.{List, [], ◌∷◌, ◌++◌}
use native.Mathlib.Omega.{arith}
use lib.Dec.{leb, eqb}
use lib.ListN.{length, get_or}
use lib.Ieee.{Float}
use borrow.Author.Tests.{leb-true, le-leb, eq-eqb, ne_eqb, eqb-true, not-true, not-false}
use Rattle.loops.proofs.Both.{both}
use Rattle.loops.specs.Run.{going, ended, on, check, next, Run}
use Rattle.loops.specs.Judge.{judge, test}
use Rattle.loops.proofs.Loop.{on_going, on_ended}
use Rattle.position_delivery.specs.Outcome.{Lent, Outcome, Answer, proposal_of, committed_of, outcome_of}
use Rattle.position_delivery.specs.declared.answer.PositionPcgResult.{PositionPcgResult}
use Rattle.loops.specs.Cleared.{plus_zero}
use Rattle.solve_method.specs.Position.{position_of}
use Rattle.preconditioner.specs.Mode.{mode_of}
use Rattle.joint_refusals.specs.Counts.{table_counts_fit, counts_fit}
use Rattle.joint_refusals.specs.Tolerances.{passes26}
use Rattle.rules.specs.Rules.{rule_lengths_fit, two_rules}
use Rattle.solve_by_rules.specs.Ruled.{rules_lent, centres_lent}
use Rattle.work_memory.specs.Lengths as lengths
use Rattle.own_memory.specs.Job.{job_fits, JobSolved}
use Rattle.kapitsa_joint.specs.Table.{table_of}
use Rattle.kapitsa_joint.specs.Centre.{centres_in}
use Rattle.joint_refusals.specs.Refusals.{centres_finite}
use Rattle.mass_operator.specs.Flat.{coefficients}
use Rattle.kapitsa_joint.specs.declared.kind.Kind.TheVariants.{Position}
use Rattle.rules.proofs.Ruled.{rules_above}
use Rattle.check_range.specs.Closing.{Closing, closing_of}
use Rattle.check_refusals.specs.Refusals.{table_fits, given_fits, table_lengths}
use Rattle.kapitsa_joint.specs.declared.maxima.Maxima.{Maxima}
use Rattle.check_answer.specs.Answer.{number_of, gap_of, check_of, CheckAnswer}
use Rattle.check_answer.proofs.Meaning.{refusal_above}
use Rattle.closing_check.proofs.Held.{lent_above}
use Rattle.margins_list.specs.Ranked.{margin_rows, margin_numbers}
use Rattle.closing_margins.specs.Held.{margins_lent, MarginsAlone}
use Rattle.job_file.specs.Refusals as refusals
use Rattle.job_file.specs.Layout.{masses_end}
use Rattle.job_file.specs.File.{trailer_of, section_numbers, section_words, section_masses, section_centres}
use Rattle.job_file.specs.Job.{Job, job_with, file_numbers, file_words, file_masses, file_centres, answer_of, opened_of}
use Rattle.job_file.specs.declared.trailer.Trailer.{Trailer}
use Rattle.job_file.proofs.Judgement.{passed, rows_inside, masses_inside, judged_early, judged_4, judged_passed}
use Rattle.job_file.proofs.Meaning.{passed_job, refused_job}
use Rattle.listing.specs.Listing.{head_lines, listing_of, margin_lines, margin_listing, refused_listing}
use Rattle.job_sheet.specs.Sheet.{answer_to, check_in, carried_by, printed_of, margins_printed, gaps_printed, shown_of, turned_of, answer_sheet, job_sheet, file_turned, sheet_of}
use Rattle.job_sheet.specs.Room.{JobRoom, CheckRoom}
use Rattle.job_sheet.specs.declared.which.Sheet.{Sheet}
use Rattle.job_sheet.specs.declared.which.Sheet.TheVariants as sheets
use Rattle.check_answer.specs.declared.Verdict.TheVariants.{Closed, Open}

-- ---- the file

-- refused by 1 to 3, none of which is 4
refused_3 : (t : Trailer) (a b c : Bool) {n : ℕ} → answer_of t ((1, a) ∷ (2, b) ∷ (3, c) ∷ []) ≡ ended n → n ≤ 3
unfolding answer_of judge test check on
refused_3 t false b c {n} h = let z : 1 ≡ n = cc in omega arith
refused_3 t true false c {n} h = let z : 2 ≡ n = cc in omega arith
refused_3 t true true false {n} h = let z : 3 ≡ n = cc in omega arith
refused_3 t true true true h = cc

module _ (sheet : Sheet) (file : List ℕ) {n : ℕ} (e : ended n ≡ opened_of file) where
  few : n ≤ 3
  unfolding opened_of
  few = refused_3 _ _ _ _ (sym e)

  pub sheet_refused : refused_listing n ≡ sheet_of sheet file
  unfolding sheet_of file_turned
  sheet_refused = let l = few in sym (on_ended _ _ _ ((refused_job file n).0 (sym (judged_early file e refl))) ∙ rw (ne_eqb n 4 (λ q. omega arith)))

module _ (file : List ℕ) (t : Trailer) (opened : opened_of file ≡ going t) where
  same : t ≡ trailer_of file
  same = (passed file refl opened).same

  limits : (leb (trailer_of file).rows 128 && leb (trailer_of file).bodies 64) ≡ true
  unfolding refusals.passes2 refusals.sections_fit refusals.limits_fit
  limits =
      let (l, _) = both (refusals.limits_fit (trailer_of file) && refusals.apart (trailer_of file)) _ (passed file refl opened).two in
      let (m, _) = both (refusals.limits_fit (trailer_of file)) (refusals.apart (trailer_of file)) l in m

  -- the counts and the mode
  pub rows_few : t.rows ≤ 128
  rows_few = let (l, _) = both (leb (trailer_of file).rows 128) (leb (trailer_of file).bodies 64) limits in rw same (leb-true _ _ l)

  pub bodies_few : t.bodies ≤ 64
  bodies_few = let (_, r) = both (leb (trailer_of file).rows 128) (leb (trailer_of file).bodies 64) limits in rw same (leb-true _ _ r)

  pub mode_small : t.mode ≤ 2
  unfolding refusals.passes3 counts_fit
  mode_small = let (_, r) = both (table_counts_fit (trailer_of file).rows (trailer_of file).bodies) (leb (trailer_of file).mode 2) (passed file refl opened).three in rw same (leb-true _ _ r)

  -- the sections
  pub rows_held : t.row_offset + 248 * t.rows ≤ length file
  rows_held = rows_inside file refl opened

  pub masses_held : masses_end t.mass_offset t.spare t.bodies ≤ length file
  masses_held = masses_inside file refl opened

  module _ (sheet : Sheet) {fit : Bool} (four : fit ≡ refusals.keys_fit file t.row_offset t.rows) {numbers : List Float} {words : List ℕ} {masses centres : List Float}
      (p : numbers ≡ section_numbers file t.row_offset t.rows) (q : words ≡ section_words file t.row_offset t.rows)
      (r : masses ≡ section_masses file t.mass_offset t.spare t.bodies) (c : centres ≡ section_centres file t.mass_offset t.spare t.bodies) where
    read_is : job_with t numbers words masses centres ≡ job_with (trailer_of file) (file_numbers file) (file_words file) (file_masses file) (file_centres file)
    read_is =
        rw (p ∙ ap (λ (t : Trailer). section_numbers file t.row_offset t.rows) same, q ∙ ap (λ (t : Trailer). section_words file t.row_offset t.rows) same, r ∙ ap (λ (t : Trailer). section_masses file t.mass_offset t.spare t.bodies) same, c ∙ ap (λ (t : Trailer). section_centres file t.mass_offset t.spare t.bodies) same)
        (ap (λ (t : Trailer). job_with t (file_numbers file) (file_words file) (file_masses file) (file_centres file)) same)

    -- what is read is the job, where 4 passes it
    pub sheet_read : fit ≡ true → job_sheet sheet (job_with t numbers words masses centres) ≡ sheet_of sheet file
    unfolding sheet_of
    sheet_read n = ap (job_sheet sheet) (read_is ∙ ap (λ (t : Trailer). job_with t (file_numbers file) (file_words file) (file_masses file) (file_centres file)) (sym same)) ∙ sym (on_going _ _ _ (passed_job file (sym (judged_passed file refl opened four n))))

    -- and where it does not, the row is one of those read
    pub sheet_turned : fit ≡ false → turned_of sheet (job_with t numbers words masses centres) 4 ≡ sheet_of sheet file
    unfolding sheet_of file_turned
    sheet_turned n = ap (λ (j : Job). turned_of sheet j 4) read_is ∙ sym (on_ended _ _ _ ((refused_job file 4).0 (sym (judged_4 file refl opened four n))))

-- ---- the memory

module _ {t : Trailer} {numbers words masses centres solution impulses newCentres : ℕ} (r : JobRoom t numbers words masses centres solution impulses newCentres) where
  -- with two rules, and a number for the rule of each row
  pub solve_fits_lem : {k : ℕ} → k ≡ t.rows → job_fits Position t.rows t.bodies t.mode numbers words masses solution impulses centres newCentres 6 2 k 0 ≡ true
  unfolding job_fits counts_fit lengths.table_fits rules_lent rule_lengths_fit centres_lent
  solve_fits_lem e = let n = r.few_rows in let b = r.few_bodies in
      rw (le-leb t.rows 512 (omega arith), le-leb t.bodies 256 (omega arith), le-leb t.mode 2 r.mode_known, eq-eqb _ _ r.numbers_long, eq-eqb _ _ r.words_long, eq-eqb _ _ r.masses_long, eq-eqb _ _ r.solution_long, eq-eqb _ _ r.impulses_long, eq-eqb _ _ r.centres_long, eq-eqb _ _ r.new_centres_long, eq-eqb _ _ e)

  pub check_room : CheckRoom t numbers words masses centres solution
  check_room = record {
    few_rows = r.few_rows;
    few_bodies = r.few_bodies;
    numbers_long = r.numbers_long;
    words_long = r.words_long;
    masses_long = r.masses_long;
    centres_long = r.centres_long;
    solution_long = r.solution_long;
  }

check_fits_lem : {t : Trailer} {numbers words masses centres solution : ℕ} → CheckRoom t numbers words masses centres solution
    → {k : ℕ} → k ≡ t.rows → given_fits Position t.rows t.bodies (record { numbers = numbers; words = words; masses = masses; beside = centres; multipliers = solution; rule_words = 6; rule_tolerances = 2; rule_numbers = k }) ≡ true
unfolding given_fits table_fits rule_lengths_fit
check_fits_lem {t} r e = let n = r.few_rows in let b = r.few_bodies in
    rw (le-leb t.rows 512 (omega arith), le-leb t.bodies 256 (omega arith), eq-eqb _ _ r.numbers_long, eq-eqb _ _ r.words_long, eq-eqb _ _ r.masses_long, eq-eqb _ _ r.centres_long, eq-eqb _ _ r.solution_long, eq-eqb _ _ e)

-- the lent slices keep their lengths
pub room_after : {t : Trailer} {numbers words masses centres solution impulses newCentres numbers' words' masses' centres' solution' impulses' newCentres' : ℕ} → JobRoom t numbers words masses centres solution impulses newCentres
    → numbers' ≡ numbers → words' ≡ words → masses' ≡ masses → centres' ≡ centres → solution' ≡ solution → impulses' ≡ impulses → newCentres' ≡ newCentres → JobRoom t numbers' words' masses' centres' solution' impulses' newCentres'
room_after r a b c d e f g = rw (a, b, c, d, e, f, g) r

-- ---- the list

-- a place a row
pub lists_fit : {n rows margins : ℕ} → rows ≡ n → margins ≡ n → margins_lent n rows margins ≡ true
unfolding margins_lent
lists_fit e f = rw (eq-eqb _ _ e, eq-eqb _ _ f)

-- which lends as many as before
pub le_of : {n rows rows' : ℕ} → rows' ≡ rows → rows ≡ n → n ≤ rows'
le_of e f = omega arith

-- it matters where the verdict is 1
listing_same : (count : ℕ) (flag : Bool) (gap carried : Maxima) (number rows : ℕ) {a b : List ℕ} {x y : List Float} → (number ≡ 1 → (a ≡ b) × (x ≡ y)) → margin_listing count flag gap carried number rows a x ≡ margin_listing count flag gap carried number rows b y
unfolding margin_listing
listing_same count flag gap carried number rows {a} {b} {x} {y} h = go (eqb number 1) (eqb-true number 1)
  where
    go : (d : Bool) → (d ≡ true → number ≡ 1) → head_lines count flag gap carried number ++ cond d (margin_lines a x rows) [] ≡ head_lines count flag gap carried number ++ cond d (margin_lines b y rows) []
    go true e = let (p, q) = h (e refl) in rw (p, q)
    go false e = refl

-- ---- the check

-- by the two rules
abbrev pub closing_at : Trailer → List Float → List ℕ → List Float → List Float → List Float → Closing
closing_at t numbers words masses centres solution = closing_of (table_of t.rows t.bodies numbers words masses) (coefficients solution) (two_rules t.tolerance) (centres_finite (centres_in t.bodies centres))

abbrev pub fits_at : Trailer → List Float → List ℕ → List Float → List Float → List Float → List ℕ → Bool
fits_at t numbers words masses centres solution rule_numbers = let rules = two_rules t.tolerance in given_fits Position t.rows t.bodies (table_lengths numbers words masses centres solution rules.words rules.tolerances rule_numbers)

module _ (t : Trailer) (numbers : List Float) (words : List ℕ) (masses centres solution : List Float) (rule_numbers : List ℕ)
    (room : CheckRoom t (length numbers) (length words) (length masses) (length centres) (length solution)) (l : length rule_numbers ≡ t.rows) {answer : CheckAnswer} where
  module _ (e : answer ≡ check_of (fits_at t numbers words masses centres solution rule_numbers) (closing_at t numbers words masses centres solution)) where
    pub closing_is : answer ≡ check_in (job_with t numbers words masses centres) numbers solution
    unfolding check_in
    closing_is = rw (e, check_fits_lem room l)

    pub printed_is : (impulses newCentres : List Float) (r : PositionPcgResult) {gap : Maxima} {number : ℕ} → gap ≡ gap_of answer → number ≡ number_of answer
        → listing_of r.iterations r.converged gap (carried_by r) number t.rows t.bodies numbers impulses t.spare newCentres ≡ printed_of (job_with t numbers words masses centres) r numbers solution impulses newCentres
    unfolding printed_of
    printed_is impulses newCentres r g n = rw (g, n) (ap (λ (a : CheckAnswer). listing_of r.iterations r.converged (gap_of a) (carried_by r) (number_of a) t.rows t.bodies numbers impulses t.spare newCentres) closing_is)

  -- with room for the list, and what is told of it
  module _ {fits : Bool} (f : fits ≡ true) {listRows listRowsAfter : List ℕ} {listNumbers listNumbersAfter : List Float} {ruleNumbersAfter : List ℕ}
      (h : MarginsAlone (fits && fits_at t numbers words masses centres solution rule_numbers) (two_rules t.tolerance) (closing_at t numbers words masses centres solution) answer rule_numbers ruleNumbersAfter listRows listNumbers listRowsAfter listNumbersAfter) where
    answered_is : answer ≡ check_of (fits_at t numbers words masses centres solution rule_numbers) (closing_at t numbers words masses centres solution)
    answered_is = rw f at h.checked.answered

    -- no refusal has the number of a verdict
    closed_is : (a : CheckAnswer) → answer ≡ a → number_of a ≡ 1 → (g : Maxima) × (answer ≡ going (Closed g))
    closed_is (going (Closed g)) e n = (g, e)
    closed_is (going (Open g)) e n = absurd (let z : ◌≡◌ {A = ℕ} 0 1 = n in omega arith)
    closed_is (ended k) e n = absurd (let above = refusal_above (fits && fits_at t numbers words masses centres solution rule_numbers) (closing_at t numbers words masses centres solution) (rules_above _ _) (lent_above Position true) k ((h.checked.means.refused k).0 e) in omega arith)

    -- so that each row which is printed is one of the table
    pub rows_small : {number : ℕ} → number ≡ number_of answer → number ≡ 1 → (k : ℕ) → k < t.rows → get_or listRowsAfter k 0 < 4294967296
    rows_small m e k p =
        let (g, c) = closed_is answer refl (sym m ∙ e) in
        let below = (h.told.listed g c).listed.within k p in
        let few = room.few_rows in omega arith

    pub margins_printed_lem : (r : PositionPcgResult) {gap : Maxima} {number : ℕ} → gap ≡ gap_of answer → number ≡ number_of answer
        → margin_listing r.iterations r.converged gap (carried_by r) number t.rows listRowsAfter listNumbersAfter ≡ margins_printed (job_with t numbers words masses centres) r numbers solution
    unfolding margins_printed
    margins_printed_lem r g n = listing_same _ _ _ _ _ _ (λ e. let (m, c) = closed_is answer refl (sym n ∙ e) in h.told.answered m c)
        ∙ rw (g, n) (ap (λ (a : CheckAnswer). margin_listing r.iterations r.converged (gap_of a) (carried_by r) (number_of a) t.rows (margin_rows (closing_at t numbers words masses centres solution)) (margin_numbers (closing_at t numbers words masses centres solution))) (closing_is answered_is))

-- ---- the solve

accepted_same : {r s : PositionPcgResult} → ◌≡◌ {A = Run PositionPcgResult ℕ} (going r) (going s) → s ≡ r
accepted_same e = cc

refused_same : {n m : ℕ} → ◌≡◌ {A = Run PositionPcgResult ℕ} (ended n) (ended m) → m ≡ n
refused_same e = cc

-- the answer's case is that of the solve
never : {X : Type 0} {r : PositionPcgResult} {n : ℕ} → going r ≡ ended n → X
never e = absurd (let z : ◌≡◌ {A = ℕ} 0 1 = cc in omega arith)

module _ (sheet : Sheet) (j : Job) (solution impulses newCentres : List Float) where
  abbrev before : Lent
  before = record { numbers = j.numbers; solution = solution; impulses = impulses; centres = newCentres }

  accepted_in : (a : Answer) {r : PositionPcgResult} {after : Lent} → outcome_of j.rows before a ≡ record { answer = going r; lent = after } → shown_of sheet j r after.numbers after.solution after.impulses after.centres ≡ answer_sheet sheet j a
  unfolding proposal_of committed_of answer_sheet
  accepted_in (going ((flag, count, v), f)) e = let p = accepted_same (ap (λ (o : Outcome). o.answer) e) in let q = ap (λ (o : Outcome). o.lent) e in rw (p, ← q)
  accepted_in (ended n) e = never (sym (ap (λ (o : Outcome). o.answer) e))

  refused_in : (a : Answer) {n : ℕ} {after : Lent} → outcome_of j.rows before a ≡ record { answer = ended n; lent = after } → turned_of sheet j n ≡ answer_sheet sheet j a
  unfolding proposal_of committed_of answer_sheet
  refused_in (going ((flag, count, v), f)) e = never (ap (λ (o : Outcome). o.answer) e)
  refused_in (ended n) e = ap (turned_of sheet j) (refused_same (ap (λ (o : Outcome). o.answer) e))

  -- whose rows are as they were
  rows_kept : (a : Answer) {n : ℕ} {after : Lent} → outcome_of j.rows before a ≡ record { answer = ended n; lent = after } → after.numbers ≡ j.numbers
  unfolding proposal_of committed_of
  rows_kept (going ((flag, count, v), f)) e = never (ap (λ (o : Outcome). o.answer) e)
  rows_kept (ended n) e = sym (ap (λ (o : Outcome). o.lent.numbers) e)

-- the job's own numbers do not matter to what is printed
numbers_aside : (sheet : Sheet) (t : Trailer) (own other : List Float) (words : List ℕ) (masses centres : List Float) (r : PositionPcgResult) (numbers solution impulses newCentres : List Float)
    → shown_of sheet (job_with t own words masses centres) r numbers solution impulses newCentres ≡ shown_of sheet (job_with t other words masses centres) r numbers solution impulses newCentres
unfolding shown_of printed_of margins_printed gaps_printed check_in
numbers_aside sheets.Job t own other words masses centres r numbers solution impulses newCentres = refl
numbers_aside sheets.Margins t own other words masses centres r numbers solution impulses newCentres = refl
numbers_aside sheets.Gaps t own other words masses centres r numbers solution impulses newCentres = refl

-- 26, which the program judges
module _ (sheet : Sheet) (t : Trailer) (numbers : List Float) (words : List ℕ) (masses centres : List Float) {fit : Bool} (p : fit ≡ passes26 t.tolerance) where
  pub job_odd : not fit ≡ true → turned_of sheet (job_with t numbers words masses centres) 26 ≡ job_sheet sheet (job_with t numbers words masses centres)
  unfolding job_sheet answer_to answer_sheet test check on
  job_odd n = rw (← p, not-true fit n)

  module _ (n : not fit ≡ false) (solution impulses newCentres : List Float) {fits : Bool} (f : fits ≡ true) {answer : Run PositionPcgResult ℕ} {after : Lent} {rule_numbers ruleNumbers' : List ℕ}
      (s : JobSolved fits (two_rules t.tolerance) (position_of t.rows t.bodies numbers words masses centres (two_rules t.tolerance) plus_zero) (mode_of t.mode plus_zero) t.limit 24 t.rows (record { numbers = numbers; solution = solution; impulses = impulses; centres = newCentres }) after rule_numbers ruleNumbers' answer) where
    solved : outcome_of t.rows (record { numbers = numbers; solution = solution; impulses = impulses; centres = newCentres }) (answer_to (job_with t numbers words masses centres)) ≡ record { answer = answer; lent = after }
    unfolding answer_to test check on
    solved = rw (← p, not-false fit n, ← f) s.answered

    pub job_refused : {n : ℕ} → answer ≡ ended n → turned_of sheet (job_with t after.numbers words masses centres) n ≡ job_sheet sheet (job_with t numbers words masses centres)
    unfolding job_sheet
    job_refused {n} e =
        let o = solved ∙ ap (λ a. record { answer = a; lent = after }) e in
        let j = job_with t numbers words masses centres in
        ap (λ (l : List Float). turned_of sheet (job_with t l words masses centres) n) (rows_kept sheet j solution impulses newCentres (answer_to j) o) ∙ refused_in sheet j solution impulses newCentres (answer_to j) o

    pub job_accepted : {r : PositionPcgResult} (rows : List Float) → answer ≡ going r → shown_of sheet (job_with t rows words masses centres) r after.numbers after.solution after.impulses after.centres ≡ job_sheet sheet (job_with t numbers words masses centres)
    unfolding job_sheet
    job_accepted {r} rows e = numbers_aside sheet t rows numbers words masses centres r after.numbers after.solution after.impulses after.centres
        ∙ accepted_in sheet (job_with t numbers words masses centres) solution impulses newCentres (answer_to (job_with t numbers words masses centres)) (solved ∙ ap (λ a. record { answer = a; lent = after }) e)

-- ---- which program prints
module _ (j : Job) (r : PositionPcgResult) (numbers solution impulses newCentres : List Float) where
  pub job_shown : {sheet : Sheet} → sheet ≡ sheets.Job → printed_of j r numbers solution impulses newCentres ≡ shown_of sheet j r numbers solution impulses newCentres
  unfolding shown_of
  job_shown e = rw e

  pub margins_shown : {sheet : Sheet} → sheet ≡ sheets.Margins → margins_printed j r numbers solution ≡ shown_of sheet j r numbers solution impulses newCentres
  unfolding shown_of
  margins_shown e = rw e

  pub gaps_shown : {sheet : Sheet} → sheet ≡ sheets.Gaps → gaps_printed j r numbers solution ≡ shown_of sheet j r numbers solution impulses newCentres
  unfolding shown_of
  gaps_shown e = rw e
