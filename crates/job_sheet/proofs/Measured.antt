-- What the gaps program prints of an accepted job, from what the check tells of each row. Assumes nothing.
use Prim.Native.Nat.{ℕ, ◌≤◌}
use mathlib.Core.Path.{◌≡◌, refl, ap, ◌∙◌}
use mathlib.Core.Bool.{Bool, true, false, cond, ◌&&◌}
use mathlib.Core.List.{List, [], ◌++◌}
use native.Mathlib.Omega.{arith}
use lib.Dec.{leb}
use lib.ListN.{length}
use lib.Ieee.{Float}
use borrow.Author.Tests.{leb-true, eq-eqb}
use Rattle.loops.specs.Tabulate.{tabulate}
use Rattle.loops.proofs.Tabulate.{get_d_tabulate}
use Rattle.kapitsa_joint.specs.declared.kind.Kind.TheVariants.{Position}
use Rattle.kapitsa_joint.specs.declared.maxima.Maxima.{Maxima}
use Rattle.rules.specs.Rules.{two_rules}
use Rattle.rules.proofs.Ruled.{rules_above}
use Rattle.position_delivery.specs.declared.answer.PositionPcgResult.{PositionPcgResult}
use Rattle.check_range.specs.Closing.{Closing}
use Rattle.check_measure.specs.Verdict.{reach}
use Rattle.check_answer.specs.Answer.{number_of, gap_of, named_by, check_of, CheckAnswer}
use Rattle.check_answer.proofs.Meaning.{refusal_above}
use Rattle.closing_check.proofs.Held.{lent_above}
use Rattle.closing_gaps.specs.Gaps.{gaps_lent, gaps_by, GapsAlone}
use Rattle.job_file.specs.Job.{job_with}
use Rattle.job_file.specs.declared.trailer.Trailer.{Trailer}
use Rattle.listing.specs.Listing.{head_lines, gap_lines, gap_listing, RulesBelow}
use Rattle.job_sheet.specs.Sheet.{carried_by, gaps_printed}
use Rattle.job_sheet.specs.Room.{CheckRoom}
use Rattle.job_sheet.proofs.Ways.{closing_at, fits_at, closing_is}
use Rattle.check_answer.specs.declared.Verdict.TheVariants.{Closed, Open}
use Rattle.loops.specs.Run.{going, ended}

-- a place a row
pub gaps_fit : {n gaps : ℕ} → gaps ≡ n → gaps_lent n gaps ≡ true
unfolding gaps_lent
gaps_fit e = eq-eqb _ _ e

-- ---- the lists of a verdict
module _ (c : Closing) (gaps : List Float) (numbers : List ℕ) where
  gaps_made : (a : CheckAnswer) → ((n : ℕ) → a ≡ ended n → ⊥) → gaps_by a c gaps ≡ tabulate (reach c) c.table.rows
  gaps_made (going (Closed g)) v = refl
  gaps_made (going (Open g)) v = refl
  gaps_made (ended n) v = absurd (v n refl)

  named_made : (a : CheckAnswer) → ((n : ℕ) → a ≡ ended n → ⊥) → named_by a c numbers ≡ tabulate c.rule c.table.rows
  named_made (going (Closed g)) v = refl
  named_made (going (Open g)) v = refl
  named_made (ended n) v = absurd (v n refl)

-- they matter where there is a verdict
listing_same : (count : ℕ) (flag : Bool) (gap carried : Maxima) (number rows : ℕ) (words : List ℕ) (tolerances : List Float) {x y : List Float} {a b : List ℕ} → (number ≤ 1 → (x ≡ y) × (a ≡ b))
    → gap_listing count flag gap carried number rows words x a tolerances ≡ gap_listing count flag gap carried number rows words y b tolerances
unfolding gap_listing
listing_same count flag gap carried number rows words tolerances {x} {y} {a} {b} h = go (leb number 1) (leb-true number 1)
  where
    go : (d : Bool) → (d ≡ true → number ≤ 1) → head_lines count flag gap carried number ++ cond d (gap_lines words x a tolerances rows) [] ≡ head_lines count flag gap carried number ++ cond d (gap_lines words y b tolerances rows) []
    go true e = let (p, q) = h (e refl) in rw (p, q)
    go false e = refl

module _ (t : Trailer) (numbers : List Float) (words : List ℕ) (masses centres solution : List Float) (rule_numbers : List ℕ)
    (room : CheckRoom t (length numbers) (length words) (length masses) (length centres) (length solution)) (l : length rule_numbers ≡ t.rows) {answer : CheckAnswer} {fits : Bool} (f : fits ≡ true)
    {gaps gapsAfter : List Float} {ruleNumbersAfter : List ℕ}
    (h : GapsAlone (fits && fits_at t numbers words masses centres solution rule_numbers) (two_rules t.tolerance) (closing_at t numbers words masses centres solution) answer rule_numbers ruleNumbersAfter gaps gapsAfter) where
  abbrev c : Closing
  c = closing_at t numbers words masses centres solution

  answered_is : answer ≡ check_of (fits_at t numbers words masses centres solution rule_numbers) c
  answered_is = rw f at h.checked.answered

  -- no refusal has the number of a verdict
  verdict_is : number_of answer ≤ 1 → (n : ℕ) → answer ≡ ended n → ⊥
  verdict_is few n e =
      let above = refusal_above (fits && fits_at t numbers words masses centres solution rule_numbers) c (rules_above _ _) (lent_above Position true) n ((h.checked.means.refused n).0 e) in
      let same : number_of answer ≡ n = ap number_of e in
      omega arith

  -- so that each row that is printed has a rule
  pub rules_below : {number : ℕ} → number ≡ number_of answer → number ≤ 1 → RulesBelow ruleNumbersAfter t.rows 2
  rules_below m few =
      let v = verdict_is (rw m at few) in
      record { below = λ i p. rw (h.checked.named ∙ named_made c gaps rule_numbers answer v, get_d_tabulate c.rule t.rows i 0 p) ((h.checked.ruled v).under i p).below }

  pub gaps_printed_lem : (r : PositionPcgResult) {gap : Maxima} {number : ℕ} → gap ≡ gap_of answer → number ≡ number_of answer
      → gap_listing r.iterations r.converged gap (carried_by r) number t.rows words gapsAfter ruleNumbersAfter (two_rules t.tolerance).tolerances ≡ gaps_printed (job_with t numbers words masses centres) r numbers solution
  unfolding gaps_printed
  gaps_printed_lem r g n =
      listing_same _ _ _ _ _ _ words (two_rules t.tolerance).tolerances (λ e. let v = verdict_is (rw n at e) in (h.told.given ∙ gaps_made c gaps rule_numbers answer v, h.checked.named ∙ named_made c gaps rule_numbers answer v))
      ∙ rw (g, n) (ap (λ (a : CheckAnswer). gap_listing r.iterations r.converged (gap_of a) (carried_by r) (number_of a) t.rows words (tabulate (reach c) t.rows) (tabulate c.rule t.rows) (two_rules t.tolerance).tolerances) (closing_is t numbers words masses centres solution rule_numbers room l answered_is))
