-- Two calls of a closing check, one of a job and one of the job with its bodies under new numbers, tell the same by their contracts. Assumes nothing.
use Prim.Native.Nat.{ℕ, ◌<◌}
use mathlib.Core.Path.{◌≡◌, refl, sym, ap, ◌∙◌}
use mathlib.Core.Bool.{Bool, true, false}
use mathlib.Core.List.{List}
use native.Mathlib.Omega.{arith}
use lib.Ieee.{Float}
use Rattle.loops.proofs.Tabulate.{tabulate_same}
use Rattle.kapitsa_joint.specs.declared.maxima.Maxima.{Maxima}
use Rattle.check_range.specs.Closing.{Closing}
use Rattle.check_answer.specs.Answer.{check_of, named_by, CheckMeaning, CheckAnswer}
use Rattle.check_work.specs.Work.{CheckMemory}
use Rattle.closing_check.specs.Checked.{Checked}
use Rattle.check_alone.specs.Checked.{AloneHeld}
use Rattle.closing_margins.specs.Held.{MarginsTold, MarginsHeld, MarginsAlone}
use Rattle.closing_margins.proofs.Sizes.{all_sized}
use Rattle.renumbered.specs.Renumber.{Renumbering, InRange}
use Rattle.renumbered.specs.Lists.{LentJob, table_in, check_in, Long, renumbered_job}
use Rattle.renumbered.specs.Calls.{VerdictsAlike, MarginsAlike}
use Rattle.renumbered.proofs.Lists.{check_three, renumbers_job}
use Rattle.check_answer.specs.declared.Verdict.TheVariants.{Closed, Open}
use Rattle.loops.specs.Run.{going, ended}

-- ---- the rule of each row, where there is a verdict
named_alike : (c d : Closing) (named named' : List ℕ) (answer : CheckAnswer) → ((n : ℕ) → answer ≡ ended n → ⊥) → d.table.rows ≡ c.table.rows → ((i : ℕ) → i < c.table.rows → d.rule i ≡ c.rule i) → named_by answer d named' ≡ named_by answer c named
named_alike c d named named' (going (Closed g)) v e h = rw e (tabulate_same d.rule c.rule c.table.rows h)
named_alike c d named named' (going (Open g)) v e h = rw e (tabulate_same d.rule c.rule c.table.rows h)
named_alike c d named named' (ended n) v e h = absurd (v n refl)

named_kept : (c : Closing) (named : List ℕ) (answer : CheckAnswer) (n : ℕ) → answer ≡ ended n → named_by answer c named ≡ named
named_kept c named (going (Closed g)) n e = absurd (let z : ◌≡◌ {A = ℕ} 0 1 = cc in omega arith)
named_kept c named (going (Open g)) n e = absurd (let z : ◌≡◌ {A = ℕ} 0 1 = cc in omega arith)
named_kept c named (ended m) n e = refl

-- a verdict is given only where 3 passes
fitted : (fits : Bool) (c : Closing) (answer : CheckAnswer) → answer ≡ check_of fits c → ((n : ℕ) → answer ≡ ended n → ⊥) → fits ≡ true
fitted true c answer e v = refl
fitted false c answer e v = absurd (v 3 (e ∙ check_three c))

module _ (p q : ℕ → ℕ) (j : LentJob) (r : Renumbering j.bodies p q) (inside : InRange (table_in j)) (fits : Bool) (long : Long fits j) (listed : List Float) where
  -- the check of the job, and of the renumbered one
  abbrev old : Closing
  old = check_in j listed

  abbrev new : Closing
  new = check_in (renumbered_job p q j) listed

  module _ (named namedAfter named' namedAfter' : List ℕ) (answer answer' : CheckAnswer) where
    verdicts_alike : answer ≡ check_of fits old → answer' ≡ check_of fits new → namedAfter ≡ named_by answer old named → namedAfter' ≡ named_by answer' new named' → VerdictsAlike named namedAfter named' namedAfter' answer answer'
    verdicts_alike x y m m' =
        let job = renumbers_job p q j r inside fits long in
        let same : answer' ≡ answer = y ∙ job.checks listed ∙ sym x in
        record {
          answered = same;
          given = λ v. m' ∙ ap (λ (a : CheckAnswer). named_by a new named') same ∙ named_alike old new named named' answer v refl (job.measures (fitted fits old answer x v) listed).rules ∙ sym m;
          refused = λ n e. (m ∙ named_kept old named answer n e, m' ∙ named_kept new named' answer' n (same ∙ e));
        }

    -- by the contract of a check whose work memory is lent, of either kind
    pub checks_alike : (before after before' after' : CheckMemory) → Checked fits j.rules old answer named namedAfter before after → Checked fits j.rules new answer' named' namedAfter' before' after' → VerdictsAlike named namedAfter named' namedAfter' answer answer'
    checks_alike before after before' after' x y = verdicts_alike x.answered y.answered x.named y.named

    -- and by that of a check with memory of its own
    pub alone_alike : AloneHeld fits j.rules old answer named namedAfter → AloneHeld fits j.rules new answer' named' namedAfter' → VerdictsAlike named namedAfter named' namedAfter' answer answer'
    alone_alike x y = verdicts_alike x.answered y.answered x.named y.named

  -- ---- the margins of a closed check
  module _ (answer answer' : CheckAnswer) (rows rowsAfter rows' rowsAfter' : List ℕ) (margins marginsAfter margins' marginsAfter' : List Float) where
    told_alike : answer ≡ check_of fits old → answer' ≡ check_of fits new → CheckMeaning fits old answer → MarginsTold fits old answer rows margins rowsAfter marginsAfter → MarginsTold fits new answer' rows' margins' rowsAfter' marginsAfter' → MarginsAlike answer rowsAfter rowsAfter' marginsAfter marginsAfter'
    told_alike x y means t t' = record { listed = listing }
      where
        listing : (g : Maxima) → answer ≡ going (Closed g) → (rowsAfter' ≡ rowsAfter) × (marginsAfter' ≡ marginsAfter)
        listing g e =
            let job = renumbers_job p q j r inside fits long in
            let v : (n : ℕ) → answer ≡ ended n → ⊥ = λ n f. let z : ◌≡◌ {A = ℕ} 0 1 = cc in omega arith in
            let (a, b) = t.answered g e in
            let (a', b') = t'.answered g (y ∙ job.checks listed ∙ sym x ∙ e) in
            let (c, d) = (job.measures (fitted fits old answer x v) listed).margins (all_sized means v) in
            (a' ∙ c ∙ sym a, b' ∙ d ∙ sym b)

    module _ (named namedAfter named' namedAfter' : List ℕ) where
      pub margins_alike : (before after before' after' : CheckMemory) → MarginsHeld fits j.rules old answer named namedAfter before after rows margins rowsAfter marginsAfter → MarginsHeld fits j.rules new answer' named' namedAfter' before' after' rows' margins' rowsAfter' marginsAfter'
          → VerdictsAlike named namedAfter named' namedAfter' answer answer' × MarginsAlike answer rowsAfter rowsAfter' marginsAfter marginsAfter'
      margins_alike before after before' after' x y = (checks_alike named namedAfter named' namedAfter' answer answer' before after before' after' x.checked y.checked, told_alike x.checked.answered y.checked.answered x.checked.means x.told y.told)

      pub margins_alone_alike : MarginsAlone fits j.rules old answer named namedAfter rows margins rowsAfter marginsAfter → MarginsAlone fits j.rules new answer' named' namedAfter' rows' margins' rowsAfter' marginsAfter'
          → VerdictsAlike named namedAfter named' namedAfter' answer answer' × MarginsAlike answer rowsAfter rowsAfter' marginsAfter marginsAfter'
      margins_alone_alike x y = (alone_alike named namedAfter named' namedAfter' answer answer' x.checked y.checked, told_alike x.checked.answered y.checked.answered x.checked.means x.told y.told)
