-- The entries with memory of their own: refusal 3 judges both calls alike, and where it passes the lists are as long as the counts call for; so their contracts tell the same. Assumes nothing.
use Prim.Native.Nat.{ℕ, ◌*◌}
use mathlib.Core.Path.{◌≡◌, refl, sym, ◌∙◌, subst}
use mathlib.Core.Bool.{Bool, true, ◌&&◌}
use mathlib.Core.List.{List}
use native.Mathlib.Omega.{arith}
use lib.Dec.{eqb}
use lib.ListN.{length}
use lib.Ieee.{Float}
use borrow.Author.Tests.{eqb-true}
use Rattle.loops.proofs.Both.{both}
use Rattle.kapitsa_joint.specs.Kind.{by_kind}
use Rattle.kapitsa_joint.specs.declared.kind.Kind.{Kind}
use Rattle.kapitsa_joint.specs.declared.kind.Kind.TheVariants as kinds
use Rattle.joint_refusals.specs.Counts.{counts_fit}
use Rattle.preconditioner.specs.declared.mode.Mode.{Mode}
use Rattle.position_delivery.specs.Outcome.{Lent}
use Rattle.work_memory.specs.Lengths.{table_fits}
use Rattle.work_memory.proofs.Lengths.{table_lengths_lem}
use Rattle.solve_by_rules.specs.Ruled.{rules_lent, centres_lent, beside_lent}
use Rattle.own_memory.specs.Job.{job_fits, JobSolved}
use Rattle.check_refusals.specs.Refusals.{beside_of, table_lengths}
use Rattle.check_refusals.specs.declared.fit.TableLengths.{TableLengths}
use Rattle.check_refusals.proofs.Fitting.{given_of}
use Rattle.check_alone.specs.Checked.{AloneHeld}
use Rattle.closing_margins.specs.Held.{margins_lent, MarginsAlone}
use Rattle.renumbered.specs.Renumber.{Renumbering, InRange}
use Rattle.renumbered.specs.Moved.{moved_centres}
use Rattle.renumbered.specs.Lists.{LentJob, table_in, solve_in, check_in, Long, renumbered_job}
use Rattle.renumbered.specs.Calls.{solve_fits, check_fits, SolvedAlike, VerdictsAlike, MarginsAlike}
use Rattle.renumbered.proofs.Along.{along_long}
use Rattle.renumbered.proofs.Words.{words_kept}
use Rattle.renumbered.proofs.Calls.{jobs_alike}
use Rattle.loops.specs.Run.{Run}
use Rattle.position_delivery.specs.declared.answer.PositionPcgResult.{PositionPcgResult}
use Rattle.renumbered.proofs.CheckCalls.{alone_alike, margins_alone_alike}
use Rattle.check_answer.specs.Answer.{CheckAnswer}

-- ---- 3 of a solve
beside_long : (kind : Kind) (rows bodies centres newCentres residual : ℕ) → beside_lent kind rows bodies centres newCentres residual ≡ true → kind ≡ kinds.Position → centres ≡ 3 * bodies
unfolding centres_lent
beside_long kinds.Position rows bodies centres newCentres residual h e =
    let (_, c) = both true (eqb centres (3 * bodies) && eqb newCentres (3 * bodies)) h in
    eqb-true centres (3 * bodies) (both (eqb centres (3 * bodies)) (eqb newCentres (3 * bodies)) c).0
beside_long kinds.Velocity rows bodies centres newCentres residual h e = absurd (let z : ◌≡◌ {A = ℕ} 0 1 = cc in omega arith)

module _ (j : LentJob) (mode solution impulses newCentres named : ℕ) where
  solve_parts : solve_fits j mode solution impulses newCentres named ≡ true → (beside_lent j.kind j.rows j.bodies (length j.centres) newCentres (length j.residual) ≡ true) × (table_fits j.rows j.bodies (length j.numbers) (length j.words) (length j.masses) solution impulses ≡ true)
  unfolding job_fits
  solve_parts h =
      let rules = rules_lent j.rows (length j.rules.words) (length j.rules.tolerances) named in
      let beside = beside_lent j.kind j.rows j.bodies (length j.centres) newCentres (length j.residual) in
      let counts = counts_fit j.rows j.bodies mode in
      let table = table_fits j.rows j.bodies (length j.numbers) (length j.words) (length j.masses) solution impulses in
      let (a, b) = both (rules && beside) (counts && table) h in
      ((both rules beside a).1, (both counts table b).1)

  pub solve_long : Long (solve_fits j mode solution impulses newCentres named) j
  solve_long = record {
    words_long = λ h. (table_lengths_lem j.rows j.bodies (length j.numbers) (length j.words) (length j.masses) solution impulses (solve_parts h).1).1;
    masses_long = λ h. (table_lengths_lem j.rows j.bodies (length j.numbers) (length j.words) (length j.masses) solution impulses (solve_parts h).1).2;
    centres_long = λ h e. beside_long j.kind j.rows j.bodies (length j.centres) newCentres (length j.residual) (solve_parts h).0 e;
  }

  pub solve_fits_kept : (p q : ℕ → ℕ) → solve_fits (renumbered_job p q j) mode solution impulses newCentres named ≡ solve_fits j mode solution impulses newCentres named
  solve_fits_kept p q = rw (words_kept p j.words, along_long 10 q j.masses, along_long 3 q j.centres)

-- ---- 3 of a check
module _ (j : LentJob) (listed : List Float) (named : List ℕ) where
  beside_of_lem : (kind : Kind) (beside : ℕ) → beside ≡ beside_of kind j.rows j.bodies → beside ≡ length (by_kind kind j.centres j.residual) → kind ≡ kinds.Position → length j.centres ≡ 3 * j.bodies
  beside_of_lem kinds.Position beside h f e = sym f ∙ h
  beside_of_lem kinds.Velocity beside h f e = absurd (let z : ◌≡◌ {A = ℕ} 0 1 = cc in omega arith)

  abbrev lengths : TableLengths
  lengths = table_lengths j.numbers j.words j.masses (by_kind j.kind j.centres j.residual) listed j.rules.words j.rules.tolerances named

  pub check_long : Long (check_fits j listed named) j
  check_long = record {
    words_long = λ h. (given_of j.kind j.rows j.bodies lengths h).words;
    masses_long = λ h. (given_of j.kind j.rows j.bodies lengths h).masses;
    centres_long = λ h e. beside_of_lem j.kind lengths.beside (given_of j.kind j.rows j.bodies lengths h).beside refl e;
  }

  beside_kept : (q : ℕ → ℕ) (kind : Kind) → length (by_kind kind (moved_centres q j.centres) j.residual) ≡ length (by_kind kind j.centres j.residual)
  beside_kept q kinds.Position = along_long 3 q j.centres
  beside_kept q kinds.Velocity = refl

  check_fits_kept : (p q : ℕ → ℕ) → check_fits (renumbered_job p q j) listed named ≡ check_fits j listed named
  check_fits_kept p q = rw (words_kept p j.words, along_long 10 q j.masses, beside_kept q j.kind)

-- where 3 is of more slices
both_long : (b fits : Bool) (j : LentJob) → Long fits j → Long (b && fits) j
both_long b fits j l = record {
  words_long = λ h. l.words_long (both b fits h).1;
  masses_long = λ h. l.masses_long (both b fits h).1;
  centres_long = λ h e. l.centres_long (both b fits h).1 e;
}

-- ---- the calls. ' is that of the renumbered job; what takes the answer is as long in both
module _ (p q : ℕ → ℕ) (j : LentJob) (r : Renumbering j.bodies p q) (inside : InRange (table_in j)) where
  -- `solve_position`, `solve_small_position`, `solve_velocity`, in every mode
  pub solve_entries : (mode solution impulses newCentres names : ℕ) (shift : Float) (way : Mode) (limit place : ℕ) (before after before' after' : Lent) (named namedAfter named' namedAfter' : List ℕ) (answer answer' : Run PositionPcgResult ℕ)
      → JobSolved (solve_fits j mode solution impulses newCentres names) j.rules (solve_in j shift) way limit place j.rows before after named namedAfter answer
      → JobSolved (solve_fits (renumbered_job p q j) mode solution impulses newCentres names) j.rules (solve_in (renumbered_job p q j) shift) way limit place j.rows before' after' named' namedAfter' answer'
      → SolvedAlike q before after before' after' named namedAfter named' namedAfter' answer answer'
  solve_entries mode solution impulses newCentres names shift way limit place before after before' after' named namedAfter named' namedAfter' answer answer' x y =
      jobs_alike p q j r inside (solve_fits j mode solution impulses newCentres names) (solve_long j mode solution impulses newCentres names) shift way limit place before after before' after' named namedAfter named' namedAfter' answer answer' x
      (subst (λ (fits : Bool). JobSolved fits j.rules (solve_in (renumbered_job p q j) shift) way limit place j.rows before' after' named' namedAfter' answer') (solve_fits_kept j mode solution impulses newCentres names p q) y)

  module _ (listed : List Float) (named named' : List ℕ) (long : length named' ≡ length named) (namedAfter namedAfter' : List ℕ) (answer answer' : CheckAnswer) where
    fits_kept : check_fits (renumbered_job p q j) listed named' ≡ check_fits j listed named
    fits_kept = rw long (check_fits_kept j listed named p q)

    -- the checks of check_alone, of either kind
    pub check_entries : AloneHeld (check_fits j listed named) j.rules (check_in j listed) answer named namedAfter → AloneHeld (check_fits (renumbered_job p q j) listed named') j.rules (check_in (renumbered_job p q j) listed) answer' named' namedAfter' → VerdictsAlike named namedAfter named' namedAfter' answer answer'
    check_entries x y =
        alone_alike p q j r inside (check_fits j listed named) (check_long j listed named) listed named namedAfter named' namedAfter' answer answer' x
        (subst (λ (fits : Bool). AloneHeld fits j.rules (check_in (renumbered_job p q j) listed) answer' named' namedAfter') fits_kept y)

    -- and the one that lists its margins
    pub margins_entries : (rows rowsAfter rows' rowsAfter' : List ℕ) (margins marginsAfter margins' marginsAfter' : List Float) → length rows' ≡ length rows → length margins' ≡ length margins
        → MarginsAlone (margins_lent j.rows (length rows) (length margins) && check_fits j listed named) j.rules (check_in j listed) answer named namedAfter rows margins rowsAfter marginsAfter
        → MarginsAlone (margins_lent j.rows (length rows') (length margins') && check_fits (renumbered_job p q j) listed named') j.rules (check_in (renumbered_job p q j) listed) answer' named' namedAfter' rows' margins' rowsAfter' marginsAfter'
        → VerdictsAlike named namedAfter named' namedAfter' answer answer' × MarginsAlike answer rowsAfter rowsAfter' marginsAfter marginsAfter'
    margins_entries rows rowsAfter rows' rowsAfter' margins marginsAfter margins' marginsAfter' e f x y =
        margins_alone_alike p q j r inside (lent && check_fits j listed named) (both_long lent (check_fits j listed named) j (check_long j listed named)) listed answer answer' rows rowsAfter rows' rowsAfter' margins marginsAfter margins' marginsAfter' named namedAfter named' namedAfter' x
        (subst (λ (fits : Bool). MarginsAlone fits j.rules (check_in (renumbered_job p q j) listed) answer' named' namedAfter' rows' margins' rowsAfter' marginsAfter') kept y)
      where
        lent : Bool
        lent = margins_lent j.rows (length rows) (length margins)

        kept : (margins_lent j.rows (length rows') (length margins') && check_fits (renumbered_job p q j) listed named') ≡ (margins_lent j.rows (length rows) (length margins) && check_fits j listed named)
        kept = rw (e, f, fits_kept)
