-- The solve of one group from its parts; and that it is the same, whatever the rows and bodies of other groups hold. Assumes nothing.
use Prim.Native.Nat.{ℕ, ◌+◌, ◌*◌, ◌<◌, ◌≤◌}
use mathlib.Core.Path.{◌≡◌, refl, sym, ap, ◌∙◌}
use mathlib.Core.Bool.{true}
use mathlib.Core.List.{List}
use native.Mathlib.Omega.{arith}
use lib.ListN.{length, get_or}
use lib.Ieee.{Float, nan}
use Rattle.kapitsa_joint.specs.Kind.{place_of, placed_of}
use Rattle.kapitsa_joint.specs.declared.kind.Kind.{Kind}
use Rattle.preconditioner.specs.Mode.{mode_of}
use Rattle.solve_method.specs.Position.{solve_for}
use Rattle.position_delivery.specs.Outcome.{Lent}
use Rattle.own_memory.specs.Job.{JobSolved}
use Rattle.group_table.specs.Pick.{rows_of, pick_rows}
use Rattle.group_step.specs.Bench.{Bench, Lending}
use Rattle.group_step.specs.Group.{chosen, linear_of, angular_of, SolvedAlone, GroupSolved}
use Rattle.group_step.specs.Step.{Delivered, TableKept, TableRoom, TellsGroup, GroupStep}
use Rattle.loops.specs.Run.{Run, going, ended}
use Rattle.position_delivery.specs.declared.answer.PositionPcgResult.{PositionPcgResult}
use Rattle.group_step.proofs.Relent.{relend, kept_numbers_lem, kept_solution, kept_impulses, kept_centres, kept_named, job_same}

-- ---- `solve_group`: what its three calls promise comes to a step
module _ (b : Bench) (marks : List ℕ) (g : ℕ) (before after : Lending) (rows : List ℕ) (er : rows ≡ rows_of before.groups g b.rows) {solution₀ impulses₀ centres₀ : List Float} {own : Lent} {named₀ named : List ℕ} {answer : Run PositionPcgResult ℕ} where
  pub group_step : SolvedAlone b before.table.numbers rows (record { numbers = pick_rows nan 27 rows before.table.numbers; solution = solution₀; impulses = impulses₀; centres = centres₀ }) own named₀ named answer
      → Delivered b.kind b.bodies b.rows before.groups marks g answer own named before.table after.table before.rules after.rules
      → TableKept b.kind b.bodies b.rows before.groups marks g before.table after.table before.rules after.rules
      → TellsGroup g answer before.answers after.answers before.maxima after.maxima → GroupStep b marks g before after
  group_step j d k t = record {
    solved = record {
      answer = answer;
      impulses = chosen answer own.impulses before.table.impulses;
      centres = chosen answer own.centres before.table.centres;
      solved = let j' = rw er at j in job_same (sym (kept_numbers_lem j') ∙ sym d.numbers_are) (sym d.solution_are) (sym d.rules_are) (relend j' (pick_rows nan 1 (rows_of before.groups g b.rows) before.table.solution) before.table.impulses before.table.centres (pick_rows 0 1 (rows_of before.groups g b.rows) before.rules));
      told = t.told;
      impulses_put = d.impulses_are;
      centres_put = d.centres_are;
    };
    kept = k;
    words_else = t.words_else;
    maxima_else = t.maxima_else;
  }

-- ---- the same group, in tables that agree on its rows, its bodies and what is told of it

-- x and y agree where the group's bodies are
abbrev pub AgreeOn : (ℕ → Type 0) → ℕ → ℕ → List Float → List Float → Type 0
AgreeOn mine width n x y = (body c : ℕ) → body < n → c < width → mine body → get_or x (width * body + c) nan ≡ get_or y (width * body + c) nan

chosen_same : (answer : Run PositionPcgResult ℕ) (x y z : List Float) (p : ℕ) → get_or y p nan ≡ get_or z p nan → get_or (chosen answer x y) p nan ≡ get_or (chosen answer x z) p nan
chosen_same (going r) x y z p e = refl
chosen_same (ended number) x y z p e = e

-- what was lent before it was solved
module _ (mine : ℕ → Type 0) (b : Bench) (g : ℕ) (rows : List ℕ) {before now after : Lending} where
  pub group_from : GroupSolved mine b g rows now after
      → pick_rows nan 27 rows now.table.numbers ≡ pick_rows nan 27 rows before.table.numbers → pick_rows nan 1 rows now.table.solution ≡ pick_rows nan 1 rows before.table.solution → pick_rows 0 1 rows now.rules ≡ pick_rows 0 1 rows before.rules
      → AgreeOn mine 6 b.bodies now.table.impulses before.table.impulses → AgreeOn mine 3 (placed_of b.kind b.bodies) now.table.centres before.table.centres
      → get_or now.maxima (2 * g) nan ≡ get_or before.maxima (2 * g) nan → get_or now.maxima (2 * g + 1) nan ≡ get_or before.maxima (2 * g + 1) nan
      → GroupSolved mine b g rows before after
  group_from h en es er ei ec el ea =
      let j = h.solved in
      record {
        answer = h.answer;
        impulses = chosen h.answer h.impulses before.table.impulses;
        centres = chosen h.answer h.centres before.table.centres;
        solved = again (pick_rows nan 27 rows now.table.numbers) (pick_rows nan 27 rows before.table.numbers) en
            (job_same refl (ap (chosen h.answer (pick_rows nan 1 rows after.table.solution)) (sym es) ∙ kept_solution j) (ap (chosen h.answer (pick_rows 0 1 rows after.rules)) (sym er) ∙ kept_named j)
            (relend j (pick_rows nan 1 rows before.table.solution) before.table.impulses before.table.centres (pick_rows 0 1 rows before.rules)));
        told = record { refusal = h.told.refusal; count = h.told.count; flag = h.told.flag; linear = h.told.linear ∙ ap (linear_of h.answer) el; angular = h.told.angular ∙ ap (angular_of h.answer) ea };
        impulses_put = λ body c l m q. h.impulses_put body c l m q ∙ ap (λ x. get_or x (6 * body + c) nan) (sym (kept_impulses j)) ∙ chosen_same h.answer h.impulses now.table.impulses before.table.impulses (6 * body + c) (ei body c l m q);
        centres_put = λ body c l m q. h.centres_put body c l m q ∙ ap (λ x. get_or x (3 * body + c) nan) (sym (kept_centres j)) ∙ chosen_same h.answer h.centres now.table.centres before.table.centres (3 * body + c) (ec body c l m q);
      }
    where
      again : (x y : List Float) → x ≡ y → {solution impulses centres : List Float} {left : Lent} {named namedAfter : List ℕ} {answer : Run PositionPcgResult ℕ}
          → JobSolved true b.rules (solve_for b.kind (length rows) b.bodies x (pick_rows 0 8 rows b.words) b.masses b.centres (pick_rows nan 1 rows b.given) b.rules b.shift) (mode_of b.mode b.shift) b.limit (place_of b.kind) (length rows) (record { numbers = x; solution = solution; impulses = impulses; centres = centres }) left named namedAfter answer
          → JobSolved true b.rules (solve_for b.kind (length rows) b.bodies y (pick_rows 0 8 rows b.words) b.masses b.centres (pick_rows nan 1 rows b.given) b.rules b.shift) (mode_of b.mode b.shift) b.limit (place_of b.kind) (length rows) (record { numbers = y; solution = solution; impulses = impulses; centres = centres }) left named namedAfter answer
      again x y e j = rw e at j

-- what has been written since
module _ (mine : ℕ → Type 0) (b : Bench) (g : ℕ) (rows : List ℕ) {before now after : Lending} where
  pub group_on : GroupSolved mine b g rows before now
      → pick_rows nan 27 rows after.table.numbers ≡ pick_rows nan 27 rows now.table.numbers → pick_rows nan 1 rows after.table.solution ≡ pick_rows nan 1 rows now.table.solution → pick_rows 0 1 rows after.rules ≡ pick_rows 0 1 rows now.rules
      → AgreeOn mine 6 b.bodies after.table.impulses now.table.impulses → AgreeOn mine 3 (placed_of b.kind b.bodies) after.table.centres now.table.centres
      → ((k : ℕ) → 3 * g ≤ k → k < 3 * g + 3 → get_or after.answers k 0 ≡ get_or now.answers k 0) → ((k : ℕ) → 2 * g ≤ k → k < 2 * g + 2 → get_or after.maxima k nan ≡ get_or now.maxima k nan)
      → GroupSolved mine b g rows before after
  group_on h en es er ei ec ew em = record {
    answer = h.answer;
    impulses = h.impulses;
    centres = h.centres;
    solved = job_same (sym en) (sym es) (sym er) h.solved;
    told = record { refusal = ew (3 * g) (omega arith) (omega arith) ∙ h.told.refusal; count = ew (3 * g + 1) (omega arith) (omega arith) ∙ h.told.count; flag = ew (3 * g + 2) (omega arith) (omega arith) ∙ h.told.flag; linear = em (2 * g) (omega arith) (omega arith) ∙ h.told.linear; angular = em (2 * g + 1) (omega arith) (omega arith) ∙ h.told.angular };
    impulses_put = λ body c l m q. ei body c l m q ∙ h.impulses_put body c l m q;
    centres_put = λ body c l m q. ec body c l m q ∙ h.centres_put body c l m q;
  }

-- of other bodies, that are as many
pub group_mine : (mine other : ℕ → Type 0) {b : Bench} {g : ℕ} {rows : List ℕ} {before after : Lending} → ((body : ℕ) → body < b.bodies → other body → mine body) → ((body : ℕ) → body < placed_of b.kind b.bodies → body < b.bodies) → GroupSolved mine b g rows before after → GroupSolved other b g rows before after
group_mine mine other f few h = record {
  answer = h.answer;
  impulses = h.impulses;
  centres = h.centres;
  solved = h.solved;
  told = h.told;
  impulses_put = λ body c l m q. h.impulses_put body c l m (f body l q);
  centres_put = λ body c l m q. h.centres_put body c l m (f body (few body l) q);
}

-- ---- what the solve of the group has left is as long as it was
pub own_left : {kind : Kind} {bodies k m : ℕ} {numbers₀ solution₀ impulses₀ centres₀ : List Float} {rules₀ : List ℕ} {numbers solution impulses centres : List Float} {rules : List ℕ} → k ≡ m → TableRoom kind k bodies numbers₀ solution₀ impulses₀ centres₀ rules₀
    → length numbers ≡ length numbers₀ → length solution ≡ length solution₀ → length impulses ≡ length impulses₀ → length centres ≡ length centres₀ → length rules ≡ length rules₀ → TableRoom kind m bodies numbers solution impulses centres rules
own_left e r a b c d f = rw (← e) (record { numbers_long = a ∙ r.numbers_long; solution_long = b ∙ r.solution_long; impulses_long = c ∙ r.impulses_long; centres_long = d ∙ r.centres_long; rules_long = f ∙ r.rules_long })
