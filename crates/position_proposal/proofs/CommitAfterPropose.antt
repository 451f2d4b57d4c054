-- Document 02, l: "A proposal dropped changes nothing, and one committed leaves what the undivided solve in its place would have left, if nobody wrote to it or the rows since." Assumes nothing.
-- That a dropped one changes nothing of the job is the type's promise: `propose_position` is lent the rows, masses, centres and rules by `&`.
use Prim.Native.Nat.{ℕ, ◌*◌, ◌<◌, ◌≤◌}
use mathlib.Core.Path.{◌≡◌, refl, sym, ap, ◌∙◌}
use mathlib.Core.Bool.{Bool, true, ◌&&◌, cond}
use mathlib.Core.List.{List, [], ◌∷◌}
use mathlib.Core.Logic.{inl, inr}
use native.Mathlib.Omega.{arith}
use lib.Dec.{leb}
use lib.ListN.{length, get_or}
use lib.Ieee.{Float, nan, binary64, to_bits}
use borrow.Author.Tests.{leb-true, le-leb, eq-eqb}
use Rattle.loops.specs.Run.{Run, going}
use Rattle.loops.specs.Judge.{judge, AllPass}
use Rattle.loops.specs.Tabulate.{tabulate}
use Rattle.loops.proofs.Both.{both}
use Rattle.loops.proofs.Every.{every_iff}
use Rattle.loops.proofs.Judge.{judge_going}
use Rattle.loops.proofs.Tabulate.{get_d_tabulate, length_tabulate}
use Rattle.joint_refusals.specs.Counts.{counts_fit}
use Rattle.rules.specs.Rules.{Rules}
use Rattle.preconditioner.specs.declared.mode.Mode.{Mode}
use Rattle.position.specs.Problem.{Problem}
use Rattle.position.specs.Multipliers.{accumulated_in}
use Rattle.steps.specs.Solve.{solve}
use Rattle.solve_method.specs.Method.{method_of}
use Rattle.position_delivery.specs.Delivery.{committed_by}
use Rattle.position_delivery.specs.Outcome.{Answer, Lent, Outcome, proposal_of, outcome_of}
use Rattle.position_delivery.specs.declared.answer.PositionPcgResult.{PositionPcgResult}
use Rattle.work_memory.specs.Work.{WorkMemory}
use Rattle.work_memory.specs.Lengths.{table_fits, vectors_fit, factor_fits, passes3}
use Rattle.work_memory.proofs.Lengths.{rows_room, lent_room}
use Rattle.solve_by_rules.specs.Ruled.{SolveRuled, named_by}
use Rattle.solve_by_rules.proofs.Naming.{accepted_tests}
use Rattle.proposals.specs.Proposal.{ProposalMemory, Proposing, words_by, started_by}
use Rattle.proposals.specs.Commit.{commit_lent, bits_now, bits_then, same_multipliers, commit_tests, Committing, committing_by, committing}
use Rattle.proposals.proofs.Judging.{committed_of_lem}
use Rattle.position_proposal.specs.Proposed.{lent_by, Proposed}

-- the words of a proposal of these rows
abbrev pub words_of : ℕ → PositionPcgResult → ℕ → List ℕ
words_of rows r mark = rows ∷ cond r.converged 1 0 ∷ r.iterations ∷ mark ∷ []

-- ---- the slices of a proposal fit together, with any rows' numbers that fit theirs
fit_together : (rows proposed : ℕ) (f count mark : ℕ) (numbers solution started : List Float) → rows ≤ 512 → length numbers ≡ 27 * rows → length solution ≡ proposed → length started ≡ proposed
    → commit_lent rows (length numbers) (proposed ∷ f ∷ count ∷ mark ∷ []) (length solution) (length started) ≡ true
unfolding commit_lent
fit_together rows proposed f count mark numbers solution started l en es et = rw (le-leb rows 512 l, eq-eqb (length numbers) (27 * rows) en, eq-eqb (length solution) proposed es, eq-eqb (length started) proposed et)

-- the multipliers that it started from are those of its own rows
same_start : (numbers : List Float) (rows : ℕ) → same_multipliers numbers (tabulate (accumulated_in 24 numbers) rows) rows ≡ true
unfolding same_multipliers
same_start numbers rows = (every_iff _ rows).1 (λ i l. eq-eqb _ _ (ap (to_bits binary64) (sym (get_d_tabulate (accumulated_in 24 numbers) rows i nan l))))

-- nothing refuses the commit of such rows
none_refuses : (rows f count : ℕ) (numbers solution : List Float) → rows ≤ 512 → length numbers ≡ 27 * rows → length solution ≡ rows → judge (commit_tests numbers rows (rows ∷ f ∷ count ∷ 0 ∷ []) solution (tabulate (accumulated_in 24 numbers) rows)) ≡ going tt
unfolding commit_tests AllPass
none_refuses rows f count numbers solution l en es =
    let started = tabulate (accumulated_in 24 numbers) rows in
    let long = length_tabulate (accumulated_in 24 numbers) rows in
    (judge_going _).1 (fit_together rows rows f count 0 numbers solution started l en es long, (refl, (rw (eq-eqb rows rows refl, long) (same_start numbers rows), tt)))

within_counts : (rows bodies mode : ℕ) (numbers : List Float) (words : List ℕ) (masses solution impulses : List Float) (w : WorkMemory) → passes3 rows bodies mode numbers words masses solution impulses w ≡ true → rows ≤ 512
unfolding passes3 counts_fit
within_counts rows bodies mode numbers words masses solution impulses w h =
    let (p, _) = both _ (factor_fits _ rows _ _ _ _) h in
    let (q, _) = both _ (vectors_fit rows bodies _ _ _ _ _ _ _ _) p in
    let (c, _) = both _ (table_fits rows bodies _ _ _ _ _) q in
    let (t, _) = both _ (leb mode 2) c in
    leb-true rows 512 (both (leb rows 512) (leb bodies 256) t).0

joined : {a₀ a : Run PositionPcgResult ℕ} {n₀ n x₀ x i₀ i c₀ c : List Float} → a₀ ≡ a → n₀ ≡ n → x₀ ≡ x → i₀ ≡ i → c₀ ≡ c → ◌≡◌ {A = Outcome} (record { answer = a₀; lent = record { numbers = n₀; solution = x₀; impulses = i₀; centres = c₀ } }) (record { answer = a; lent = record { numbers = n; solution = x; impulses = i; centres = c } })
joined ea en ex ei ec = rw (ea, en, ex, ei, ec)

-- ---- an accepted proposal: `lent` is what refusal 3 tests of its words and of the multipliers it started from, `beside` what it tests of rules and centres in the undivided solve too
module _ (lent beside : Bool) (rows bodies mode : ℕ) (numbers : List Float) (words : List ℕ) (masses : List Float) (s : Rules) (p : Problem) (m : Mode) (limit : ℕ) (before after : ProposalMemory) (named namedAfter : List ℕ) (r : PositionPcgResult) (work workAfter : WorkMemory)
    (proposed : Proposed ((lent && beside) && passes3 rows bodies mode numbers words masses before.solution before.impulses work) s p m limit rows numbers before after named namedAfter (going r) work workAfter) where
  abbrev passes : Bool
  passes = passes3 rows bodies mode numbers words masses before.solution before.impulses work

  abbrev found : Answer
  found = solve (method_of ((lent && beside) && passes) p m) limit

  -- what the undivided solve leaves, by its definition
  undivided_is : outcome_of rows (lent_by numbers before) found ≡ record { answer = going r; lent = lent_by (committed_by 24 (going r) numbers after.solution) after }
  undivided_is =
      let told = proposed.answered in
      joined (ap (λ (x : Proposing). x.answer) told) proposed.commits (ap (λ (x : Proposing). x.memory.solution) told) (ap (λ (x : Proposing). x.memory.impulses) told) (ap (λ (x : Proposing). x.memory.centres) told)

  fits : ((lent && beside) && passes) ≡ true
  unfolding AllPass
  fits = (accepted_tests ((lent && beside) && passes) p m limit 24 rows (lent_by numbers before) (lent_by (committed_by 24 (going r) numbers after.solution) after) undivided_is r refl).0

  passed : passes ≡ true
  passed = (both (lent && beside) passes fits).1

  beside_fits : beside ≡ true
  beside_fits = (both lent beside (both (lent && beside) passes fits).0).1

  pub few : rows ≤ 512
  few = within_counts rows bodies mode numbers words masses before.solution before.impulses work passed

  numbers_long : length numbers ≡ 27 * rows
  numbers_long = (rows_room rows bodies mode numbers words masses before.solution before.impulses work passed).numbers_long

  solution_long : length after.solution ≡ rows
  solution_long = proposed.long ∙ (lent_room rows bodies mode numbers words masses before.solution before.impulses work passed).0

  answer_is : (proposal_of before.solution before.impulses before.centres found).answer ≡ going r
  answer_is = ap (λ (x : Proposing). x.answer) proposed.answered

  pub words_are : after.words ≡ words_of rows r 0
  unfolding words_by
  words_are = sym (ap (λ (x : Proposing). x.memory.words) proposed.answered) ∙ ap (λ (a : Run PositionPcgResult ℕ). words_by a rows before.words) answer_is

  pub started_are : after.started ≡ tabulate (accumulated_in 24 numbers) rows
  unfolding started_by
  started_are = sym (ap (λ (x : Proposing). x.memory.started) proposed.answered) ∙ ap (λ (a : Run PositionPcgResult ℕ). started_by a numbers rows before.started) answer_is

  started_long : length after.started ≡ rows
  started_long = ap length started_are ∙ length_tabulate (accumulated_in 24 numbers) rows

  -- The commit right after it is done: the rows get what the undivided solve gives them, and the proposal its mark.
  pub commit_after_propose : committing numbers rows after.words after.solution after.started ≡ record { number = 0; numbers = (outcome_of rows (lent_by numbers before) found).lent.numbers; words = words_of rows r 1 }
  unfolding committing_by committed_by
  commit_after_propose =
      let goes = none_refuses rows (cond r.converged 1 0) r.iterations numbers after.solution few numbers_long solution_long in
      rw (words_are, started_are) (ap (λ (x : Run Unit ℕ). committing_by x numbers (words_of rows r 0) after.solution) goes ∙ ap (λ (l : List Float). record { number = 0; numbers = l; words = words_of rows r 1 }) (sym proposed.commits))

  -- The undivided solve on the same lent values, by its own promise: its answer is the proposal's, and every lent number is as propose and commit leave it.
  module _ {lent_after : Lent} {named₁ : List ℕ} {answer : Run PositionPcgResult ℕ} {work₁ : WorkMemory} (undivided : SolveRuled (beside && passes) s p m limit 24 rows (lent_by numbers before) lent_after named named₁ answer work work₁) where
    same_solve : ◌≡◌ {A = Outcome} (record { answer = going r; lent = lent_by (committed_by 24 (going r) numbers after.solution) after }) (record { answer = answer; lent = lent_after })
    same_solve =
        let both-fit : ((lent && beside) && passes) ≡ (beside && passes) = fits ∙ sym (rw (beside_fits, passed)) in
        sym undivided_is ∙ ap (λ (b : Bool). outcome_of rows (lent_by numbers before) (solve (method_of b p m) limit)) both-fit ∙ undivided.held.answered

    pub same_answer : answer ≡ going r
    same_answer = sym (ap (λ (o : Outcome). o.answer) same_solve)

    pub same_numbers : lent_after ≡ lent_by (committing numbers rows after.words after.solution after.started).numbers after
    same_numbers =
        let left = ap (λ (c : Committing). c.numbers) commit_after_propose ∙ ap (λ (o : Outcome). o.lent.numbers) undivided_is in
        sym (ap (λ (o : Outcome). o.lent) same_solve) ∙ ap (λ (l : List Float). lent_by l after) (sym left)

    pub same_rules : named₁ ≡ namedAfter
    same_rules = undivided.named ∙ ap (λ (a : Run PositionPcgResult ℕ). named_by a p.rule rows named) same_answer ∙ sym proposed.named

    pub same_work : work₁ ≡ workAfter
    same_work = undivided.held.memory.emptied (rw (beside_fits, passed)) ∙ sym (proposed.memory.emptied fits)

  -- ---- since then: the rows are `now`, of which there are `count`
  module _ (count : ℕ) (now : List Float) (few-now : count ≤ 512) (long-now : length now ≡ 27 * count) where
    fits_now : (mark : ℕ) → commit_lent count (length now) (words_of rows r mark) (length after.solution) (length after.started) ≡ true
    fits_now mark = fit_together count rows (cond r.converged 1 0) r.iterations mark now after.solution after.started few-now long-now solution_long started_long

    -- A second commit is 29, whatever the rows have become: 29 comes before 30.
    pub second_commit : (committing now count (words_of rows r 1) after.solution after.started).number ≡ 29
    second_commit = (committed_of_lem now count (words_of rows r 1) after.solution after.started _ refl).twice.1 (fits_now 1, λ e. omega arith)

    -- Before it, another row count is 30,
    pub other_count : ¬ (count ≡ rows) → (committing now count after.words after.solution after.started).number ≡ 30
    other_count d = rw words_are ((committed_of_lem now count (words_of rows r 0) after.solution after.started _ refl).moved.1 (fits_now 0, refl, inl d))

    -- and so is a multiplier with other bits.
    pub other_bits : (i : ℕ) → i < rows → ¬ (bits_now now i ≡ bits_now numbers i) → (committing now count after.words after.solution after.started).number ≡ 30
    other_bits i l d =
        let then : bits_then after.started i ≡ bits_now numbers i = ap (to_bits binary64) (ap (λ (x : List Float). get_or x i nan) started_are ∙ get_d_tabulate (accumulated_in 24 numbers) rows i nan l) in
        let at : i < length after.started = omega (arith, started_long) in
        rw words_are ((committed_of_lem now count (words_of rows r 0) after.solution after.started _ refl).moved.1 (fits_now 0, refl, inr (i, at, λ e. d (e ∙ then))))
