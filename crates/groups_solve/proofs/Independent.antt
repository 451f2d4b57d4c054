-- Document 02, g: "A clock's answer is the same for every change in another's rows that leaves the groups and those table-wide tests as they were." Besides: each row is in one group, and each body in one or in none. Assumes nothing.
use Prim.Native.Nat.{ℕ, zero, suc, ◌+◌, ◌*◌, ◌<◌, ◌≤◌}
use mathlib.Core.Path.{◌≡◌, refl, sym, ap, subst, ◌∙◌}
use mathlib.Core.Bool.{Bool, true, false}
use mathlib.Core.List.{List}
use mathlib.Core.Logic.{◌⊎◌, inl, inr, ⊎_elim}
use native.Mathlib.Omega.{arith}
use native.Mathlib.Decide.{ℕ_discrete}
use native.Mathlib.Numerals.{add-one}
use borrow.Author.Count.{below_none, below_more}
use lib.ListN.{length, get_or}
use lib.Ieee.{Float, nan}
use Rattle.kapitsa_joint.specs.Row.{row_of, words_of}
use Rattle.kapitsa_joint.specs.Kind.{place_of, placed_of}
use Rattle.kapitsa_joint.specs.declared.kind.Kind.{Kind}
use Rattle.kapitsa_joint.specs.declared.kind.Kind.TheVariants as kinds
use Rattle.rules.specs.Rules.{Rules}
use Rattle.preconditioner.specs.Mode.{mode_of}
use Rattle.preconditioner.specs.declared.mode.Mode.{Mode}
use Rattle.steps.specs.Solve.{solve}
use Rattle.position.specs.Problem.{Problem}
use Rattle.solve_method.specs.Method.{method_of}
use Rattle.solve_method.specs.Position.{solve_for}
use Rattle.position_delivery.specs.Outcome.{Lent, Outcome, outcome_at}
use Rattle.solve_by_rules.specs.Ruled.{named_by}
use Rattle.own_memory.specs.Job.{JobSolved}
use Rattle.groups.specs.Together.{Links, links_of, joins_of, body_a, body_b, Has, Grouped, Member, Apart}
use Rattle.group_table.specs.Pick.{rows_of, pick_rows}
use Rattle.group_table.proofs.Rows.{rows_more, rows_same, in_order}
use Rattle.group_table.proofs.Picks.{pick_same}
use Rattle.group_step.specs.Bench.{Bench, Lending, bench_of, bench_table, group_problem}
use Rattle.group_step.specs.Group.{chosen, refusal_of, count_of, flag_of, linear_of, angular_of, GroupSolved}
use Rattle.group_step.proofs.Delivery.{placed_few}
use Rattle.group_step.proofs.Stepping.{group_mine}
use Rattle.group_step.proofs.Relent.{left_with, relend, kept_solution, kept_impulses, kept_centres}
use Rattle.loops.specs.Run.{Run, going, ended}
use Rattle.position_delivery.specs.declared.answer.PositionPcgResult.{PositionPcgResult}
use Rattle.groups_solve.specs.Solved.{BenchSolved}

-- ---- two solves of one problem, lent the same rows, give one answer and the same numbers; what takes the answer may differ where it is refused
module _ {s : Rules} {p : Problem} {mode : Mode} {limit place n : ℕ} {before₁ after₁ before₂ after₂ : Lent} {named₁ namedAfter₁ named₂ namedAfter₂ : List ℕ} {answer₁ answer₂ : Run PositionPcgResult ℕ}
    (j : JobSolved true s p mode limit place n before₁ after₁ named₁ namedAfter₁ answer₁) (k : JobSolved true s p mode limit place n before₂ after₂ named₂ namedAfter₂ answer₂) (e : before₂.numbers ≡ before₁.numbers) where
  one_outcome : ◌≡◌ {A = Outcome} (record { answer = answer₁; lent = after₁ }) (record { answer = answer₂; lent = left_with answer₂ after₂ before₁.solution before₁.impulses before₁.centres })
  one_outcome =
      sym j.answered
      ∙ ap (λ (x : List Float). outcome_at place n (record { numbers = x; solution = before₁.solution; impulses = before₁.impulses; centres = before₁.centres }) (solve (method_of true p mode) limit)) (sym e)
      ∙ (relend k before₁.solution before₁.impulses before₁.centres named₁).answered

  pub one_answer : answer₁ ≡ answer₂
  one_answer = ap (λ (o : Outcome). o.answer) one_outcome

  pub one_lent : after₁ ≡ left_with answer₂ after₂ before₁.solution before₁.impulses before₁.centres
  one_lent = ap (λ (o : Outcome). o.lent) one_outcome

-- ---- the same groups have the same rows
rows_alike : (u v : List ℕ) (g n : ℕ) → ((i : ℕ) → i < n → get_or u i 0 ≡ get_or v i 0) → rows_of u g n ≡ rows_of v g n
rows_alike u v g zero e = unfold rows_of in refl
rows_alike u v g (suc n) e = rw (← add-one n) (go (ℕ_discrete (get_or u n 0) g) (rows_alike u v g n (λ i l. e i (omega arith))))
  where
    go : Dec (get_or u n 0 ≡ g) → rows_of u g n ≡ rows_of v g n → rows_of u g (n + 1) ≡ rows_of v g (n + 1)
    go (yes q) h = rows_more u g n q ∙ rw h (sym (rows_more v g n (sym (e n (omega arith)) ∙ q)))
    go (no q) h = rows_same u g n q ∙ h ∙ sym (rows_same v g n (λ x. q (e n (omega arith) ∙ x)))

given_alike : (kind : Kind) (k bodies : ℕ) (numbers : List Float) (words : List ℕ) (masses centres x y : List Float) (rules : Rules) (shift : Float) → (kind ≡ kinds.Velocity → x ≡ y) → solve_for kind k bodies numbers words masses centres x rules shift ≡ solve_for kind k bodies numbers words masses centres y rules shift
given_alike kinds.Position k bodies numbers words masses centres x y rules shift e = refl
given_alike kinds.Velocity k bodies numbers words masses centres x y rules shift e = ap (λ (g : List Float). solve_for kinds.Velocity k bodies numbers words masses centres g rules shift) (e refl)

-- x and y agree on the rows of group g
abbrev OnRows : {X : Type 0} → X → ℕ → List ℕ → ℕ → ℕ → List X → List X → Type 0
OnRows d width groups g n x y = (i c : ℕ) → i < n → get_or groups i 0 ≡ g → c < width → get_or x (width * i + c) d ≡ get_or y (width * i + c) d

picked_alike : {X : Type 0} (d : X) (width : ℕ) (groups : List ℕ) (g n : ℕ) (x y : List X) → OnRows d width groups g n x y → pick_rows d width (rows_of groups g n) x ≡ pick_rows d width (rows_of groups g n) y
picked_alike d width groups g n x y e = pick_same d width (rows_of groups g n) x y (λ k c l m. e _ c ((in_order groups g n).below k l) ((in_order groups g n).group k l) m)

chosen_alike : (answer : Run PositionPcgResult ℕ) (x y z : List Float) (p : ℕ) → get_or y p nan ≡ get_or z p nan → get_or (chosen answer x y) p nan ≡ get_or (chosen answer x z) p nan
chosen_alike (going r) x y z p e = refl
chosen_alike (ended number) x y z p e = e

-- what two tables tell alike of group g, whose rows are these and whose bodies are `mine`
pub record AlikeAt (mine : ℕ → Type 0) (kind : Kind) (bodies g : ℕ) (rows : List ℕ) (x y : Lending) : Type 0 where
  pub solution : pick_rows nan 1 rows x.table.solution ≡ pick_rows nan 1 rows y.table.solution
  pub rules : pick_rows 0 1 rows x.rules ≡ pick_rows 0 1 rows y.rules
  pub impulses : (body c : ℕ) → body < bodies → c < 6 → mine body → get_or x.table.impulses (6 * body + c) nan ≡ get_or y.table.impulses (6 * body + c) nan
  pub centres : (body c : ℕ) → body < placed_of kind bodies → c < 3 → mine body → get_or x.table.centres (3 * body + c) nan ≡ get_or y.table.centres (3 * body + c) nan
  pub linear : get_or x.maxima (2 * g) nan ≡ get_or y.maxima (2 * g) nan
  pub angular : get_or x.maxima (2 * g + 1) nan ≡ get_or y.maxima (2 * g + 1) nan

-- and of its answer and its rows' numbers
pub record SameAnswer (g : ℕ) (rows : List ℕ) (x y : Lending) : Type 0 where
  pub refusal : get_or x.answers (3 * g) 0 ≡ get_or y.answers (3 * g) 0
  pub count : get_or x.answers (3 * g + 1) 0 ≡ get_or y.answers (3 * g + 1) 0
  pub flag : get_or x.answers (3 * g + 2) 0 ≡ get_or y.answers (3 * g + 2) 0
  pub numbers : pick_rows nan 27 rows x.table.numbers ≡ pick_rows nan 27 rows y.table.numbers

-- ---- two groups of the same rows and bodies
module _ (mine : ℕ → Type 0) (b₁ b₂ : Bench) (g : ℕ) (rows : List ℕ) (before₁ after₁ before₂ after₂ : Lending) (h₁ : GroupSolved mine b₁ g rows before₁ after₁) (h₂ : GroupSolved mine b₂ g rows before₂ after₂) where
  module _ (j₂ : JobSolved true b₁.rules (group_problem b₁ before₁.table.numbers rows) (mode_of b₁.mode b₁.shift) b₁.limit (place_of b₁.kind) (length rows)
      (record { numbers = pick_rows nan 27 rows before₂.table.numbers; solution = pick_rows nan 1 rows before₂.table.solution; impulses = before₂.table.impulses; centres = before₂.table.centres })
      (record { numbers = pick_rows nan 27 rows after₂.table.numbers; solution = pick_rows nan 1 rows after₂.table.solution; impulses = h₂.impulses; centres = h₂.centres }) (pick_rows 0 1 rows before₂.rules) (pick_rows 0 1 rows after₂.rules) h₂.answer)
      (eb : b₂.bodies ≡ b₁.bodies) (ek : b₂.kind ≡ b₁.kind) (en : pick_rows nan 27 rows before₂.table.numbers ≡ pick_rows nan 27 rows before₁.table.numbers) where
    answer_one : h₁.answer ≡ h₂.answer
    answer_one = one_answer h₁.solved j₂ en

    lent_one : ◌≡◌ {A = Lent} (record { numbers = pick_rows nan 27 rows after₁.table.numbers; solution = pick_rows nan 1 rows after₁.table.solution; impulses = h₁.impulses; centres = h₁.centres })
        (record { numbers = pick_rows nan 27 rows after₂.table.numbers; solution = chosen h₂.answer (pick_rows nan 1 rows after₂.table.solution) (pick_rows nan 1 rows before₁.table.solution); impulses = chosen h₂.answer h₂.impulses before₁.table.impulses; centres = chosen h₂.answer h₂.centres before₁.table.centres })
    lent_one = one_lent h₁.solved j₂ en

    pub same_answer : SameAnswer g rows after₁ after₂
    same_answer = record {
      refusal = h₁.told.refusal ∙ ap refusal_of answer_one ∙ sym h₂.told.refusal;
      count = h₁.told.count ∙ ap count_of answer_one ∙ sym h₂.told.count;
      flag = h₁.told.flag ∙ ap flag_of answer_one ∙ sym h₂.told.flag;
      numbers = ap (λ (l : Lent). l.numbers) lent_one;
    }

    pub alike_after : AlikeAt mine b₁.kind b₁.bodies g rows before₁ before₂ → AlikeAt mine b₁.kind b₁.bodies g rows after₁ after₂
    alike_after a = record {
      solution = ap (λ (l : Lent). l.solution) lent_one ∙ ap (chosen h₂.answer (pick_rows nan 1 rows after₂.table.solution)) a.solution ∙ kept_solution j₂;
      rules = h₁.solved.named ∙ named h₁.answer h₂.answer answer_one ∙ sym j₂.named;
      impulses = λ body c l m q. h₁.impulses_put body c l m q ∙ ap (λ (x : Lent). get_or x.impulses (6 * body + c) nan) lent_one ∙ chosen_alike h₂.answer h₂.impulses before₁.table.impulses before₂.table.impulses (6 * body + c) (a.impulses body c l m q)
          ∙ ap (λ x. get_or x (6 * body + c) nan) (kept_impulses j₂) ∙ sym (h₂.impulses_put body c (omega arith) m q);
      centres = λ body c l m q. h₁.centres_put body c l m q ∙ ap (λ (x : Lent). get_or x.centres (3 * body + c) nan) lent_one ∙ chosen_alike h₂.answer h₂.centres before₁.table.centres before₂.table.centres (3 * body + c) (a.centres body c l m q)
          ∙ ap (λ x. get_or x (3 * body + c) nan) (kept_centres j₂) ∙ sym (h₂.centres_put body c (rw (ek, eb) l) m q);
      linear = h₁.told.linear ∙ linear_one h₁.answer h₂.answer answer_one ∙ sym h₂.told.linear;
      angular = h₁.told.angular ∙ angular_one h₁.answer h₂.answer answer_one ∙ sym h₂.told.angular;
    }
      where
        named : (x y : Run PositionPcgResult ℕ) → x ≡ y → named_by x (group_problem b₁ before₁.table.numbers rows).rule (length rows) (pick_rows 0 1 rows before₁.rules) ≡ named_by y (group_problem b₁ before₁.table.numbers rows).rule (length rows) (pick_rows 0 1 rows before₂.rules)
        named x y e = rw (e, a.rules)

        linear_one : (x y : Run PositionPcgResult ℕ) → x ≡ y → linear_of x (get_or before₁.maxima (2 * g) nan) ≡ linear_of y (get_or before₂.maxima (2 * g) nan)
        linear_one x y e = rw (e, a.linear)

        angular_one : (x y : Run PositionPcgResult ℕ) → x ≡ y → angular_of x (get_or before₁.maxima (2 * g + 1) nan) ≡ angular_of y (get_or before₂.maxima (2 * g + 1) nan)
        angular_one x y e = rw (e, a.angular)

-- ---- the theorem
module _ (kind : Kind) (n bodies : ℕ) (masses centres : List Float) (rules : Rules) (limit mode : ℕ) (shift : Float) (words₁ words₂ : List ℕ) (given₁ given₂ : List Float) where
  -- two benches that differ in their rows
  abbrev first : Bench
  first = bench_of kind n bodies words₁ masses centres given₁ rules limit mode shift

  abbrev second : Bench
  second = bench_of kind n bodies words₂ masses centres given₂ rules limit mode shift

  module _ (before₁ after₁ before₂ after₂ : Lending) (count₁ count₂ : ℕ) (s₁ : BenchSolved first before₁ after₁ count₁) (s₂ : BenchSolved second before₂ after₂ count₂)
      (groups : (i : ℕ) → i < n → get_or after₁.groups i 0 ≡ get_or after₂.groups i 0) (g : ℕ) (l₁ : g < count₁) (l₂ : g < count₂)
      (en : OnRows nan 27 after₁.groups g n before₁.table.numbers before₂.table.numbers) (ew : OnRows 0 8 after₁.groups g n words₁ words₂) (eg : kind ≡ kinds.Velocity → OnRows nan 1 after₁.groups g n given₁ given₂) where
    abbrev rows : List ℕ
    rows = rows_of after₁.groups g n

    abbrev mine : ℕ → Type 0
    mine = Member (links_of (bench_table first before₁.table.numbers)) (joins_of (bench_table first before₁.table.numbers)) n after₁.groups g

    -- the group has the same bodies in both
    members : (body : ℕ) → mine body → Member (links_of (bench_table second before₂.table.numbers)) (joins_of (bench_table second before₂.table.numbers)) n after₂.groups g body
    unfolding row_of words_of
    members body x = record {
      row = x.row;
      within = x.within;
      group = sym (groups x.row x.within) ∙ x.group;
      has = ⊎_elim (λ e. inl (sym (ew x.row 2 x.within x.group (omega arith)) ∙ e)) (λ e. inr (sym (ew x.row 3 x.within x.group (omega arith)) ∙ e)) x.has;
      joins = x.joins;
    }

    there : GroupSolved mine second g rows before₂ after₂
    there = subst (λ (r : List ℕ). GroupSolved mine second g r before₂ after₂) (sym (rows_alike after₁.groups after₂.groups g n groups)) (group_mine _ mine (λ body _ x. members body x) (λ body l. omega (arith, placed_few kind bodies)) (s₂.each g l₂))

    numbers_alike : pick_rows nan 27 rows before₂.table.numbers ≡ pick_rows nan 27 rows before₁.table.numbers
    numbers_alike = sym (picked_alike nan 27 after₁.groups g n before₁.table.numbers before₂.table.numbers en)

    -- so both are solves of one problem
    problem_alike : group_problem second before₂.table.numbers rows ≡ group_problem first before₁.table.numbers rows
    problem_alike =
        given_alike kind (length rows) bodies (pick_rows nan 27 rows before₂.table.numbers) (pick_rows 0 8 rows words₂) masses centres (pick_rows nan 1 rows given₂) (pick_rows nan 1 rows given₁) rules shift (λ v. sym (picked_alike nan 1 after₁.groups g n given₁ given₂ (eg v)))
        ∙ ap (λ (x : List Float). solve_for kind (length rows) bodies x (pick_rows 0 8 rows words₂) masses centres (pick_rows nan 1 rows given₁) rules shift) numbers_alike
        ∙ ap (λ (x : List ℕ). solve_for kind (length rows) bodies (pick_rows nan 27 rows before₁.table.numbers) x masses centres (pick_rows nan 1 rows given₁) rules shift) (sym (picked_alike 0 8 after₁.groups g n words₁ words₂ ew))

    solved_there : JobSolved true rules (group_problem first before₁.table.numbers rows) (mode_of mode shift) limit (place_of kind) (length rows)
        (record { numbers = pick_rows nan 27 rows before₂.table.numbers; solution = pick_rows nan 1 rows before₂.table.solution; impulses = before₂.table.impulses; centres = before₂.table.centres })
        (record { numbers = pick_rows nan 27 rows after₂.table.numbers; solution = pick_rows nan 1 rows after₂.table.solution; impulses = there.impulses; centres = there.centres }) (pick_rows 0 1 rows before₂.rules) (pick_rows 0 1 rows after₂.rules) there.answer
    solved_there = subst (λ (p : Problem). JobSolved true rules p (mode_of mode shift) limit (place_of kind) (length rows)
        (record { numbers = pick_rows nan 27 rows before₂.table.numbers; solution = pick_rows nan 1 rows before₂.table.solution; impulses = before₂.table.impulses; centres = before₂.table.centres })
        (record { numbers = pick_rows nan 27 rows after₂.table.numbers; solution = pick_rows nan 1 rows after₂.table.solution; impulses = there.impulses; centres = there.centres }) (pick_rows 0 1 rows before₂.rules) (pick_rows 0 1 rows after₂.rules) there.answer) problem_alike there.solved

    -- the same answer, and the same numbers of its rows
    pub independent : SameAnswer g rows after₁ after₂
    independent = same_answer mine first second g rows before₁ after₁ before₂ after₂ (s₁.each g l₁) there solved_there refl refl numbers_alike

    -- and of what takes the answer; where the group is refused this stays as it was, so it is asked to be alike before
    pub independent_lent : AlikeAt mine kind bodies g rows before₁ before₂ → AlikeAt mine kind bodies g rows after₁ after₂
    independent_lent a = alike_after mine first second g rows before₁ after₁ before₂ after₂ (s₁.each g l₁) there solved_there refl refl numbers_alike a

-- ---- each row is in one group below the count, and at one place in it
module _ {links : Links} {joining : ℕ → Bool} {rows : ℕ} {groups : List ℕ} {count : ℕ} (t : Grouped links joining rows groups count) where
  pub row_somewhere : (i : ℕ) → i < rows → (get_or groups i 0 < count) × ((k : ℕ) × (k < length (rows_of groups (get_or groups i 0) rows)) × (get_or (rows_of groups (get_or groups i 0) rows) k 0 ≡ i))
  row_somewhere i l = (t.below i l, (in_order groups (get_or groups i 0) rows).all i l refl)

  pub row_once : (g i k : ℕ) → k < length (rows_of groups g rows) → get_or (rows_of groups g rows) k 0 ≡ i → g ≡ get_or groups i 0
  row_once g i k l e = sym ((in_order groups g rows).group k l) ∙ ap (λ j. get_or groups j 0) e

  -- each body is in one group (`body_group`), or it has no mass, or it is in no row
  pub body_somewhere : (b : ℕ) → Apart links joining rows b ⊎ ((g : ℕ) × (g < count) × Member links joining rows groups g b)
  body_somewhere b = joined (joining b) refl
    where
      seek : (k : ℕ) → k ≤ rows → ((i : ℕ) → i < k → ¬ Has links i b) ⊎ ((i : ℕ) × (i < rows) × Has links i b)
      seek zero l = inl (below_none _)
      seek (suc k) l = ⊎_elim (λ none. at none (ℕ_discrete (body_a links k) b) (ℕ_discrete (body_b links k) b)) inr (seek k (omega arith))
        where
          at : ((i : ℕ) → i < k → ¬ Has links i b) → Dec (body_a links k ≡ b) → Dec (body_b links k ≡ b) → ((i : ℕ) → i < suc k → ¬ Has links i b) ⊎ ((i : ℕ) × (i < rows) × Has links i b)
          at none (yes e) d = inr (k, omega arith, inl e)
          at none (no e) (yes d) = inr (k, omega arith, inr d)
          at none (no e) (no d) = inl (λ i p. below_more (λ j. ¬ Has links j b) k none (λ h. ⊎_elim e d h) i (omega arith))

      joined : (j : Bool) → joining b ≡ j → Apart links joining rows b ⊎ ((g : ℕ) × (g < count) × Member links joining rows groups g b)
      joined false e = inl (inl e)
      joined true e = ⊎_elim (λ none. inl (inr none)) (λ h. let (i, l, q) = h in inr (get_or groups i 0, t.below i l, record { row = i; within = l; group = refl; has = q; joins = e })) (seek rows (omega arith))
