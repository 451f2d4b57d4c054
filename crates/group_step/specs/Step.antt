-- What the functions that solve one group hand to one another.
use Rattle.std.specs.Prelude.{ℕ, ◌+◌, ◌*◌, ◌<◌, ◌≤◌, ◌≡◌, true, List, length, get_or, Float}
use Rattle.std.specs.Float.{nan}
use Rattle.kapitsa_joint.specs.Kind.{placed_of}
use Rattle.kapitsa_joint.specs.declared.kind.Kind.{Kind}
use Rattle.kapitsa_joint.specs.declared.kind.Kind.TheVariants as kinds
use Rattle.rules.specs.Rules.{rule_lengths_fit}
use Rattle.position.specs.Kinds.{GivenRoom}
use Rattle.position_delivery.specs.Outcome.{Lent}
use Rattle.group_table.specs.Pick.{rows_of, pick_rows, Put, Marked}
use Rattle.group_step.specs.Bench.{Bench, Lending}
use Rattle.loops.specs.Run.{Run}
use Rattle.position_delivery.specs.declared.answer.PositionPcgResult.{PositionPcgResult}
use Rattle.group_step.specs.Group.{chosen, Told, GroupSolved}

-- ---- the rows, picked

pub record GivenPicked (kind : Kind) (rows : List ℕ) (given picked₀ picked : List Float) : Type 0 where
  pub long : length picked ≡ length picked₀
  pub are : kind ≡ kinds.Velocity → picked ≡ pick_rows nan 1 rows given

pub record GroupPicked (kind : Kind) (rows : List ℕ) (numbers : List Float) (words : List ℕ) (given ownNumbers : List Float) (own_words : List ℕ) (given₀ ownGiven : List Float) : Type 0 where
  pub numbers_are : ownNumbers ≡ pick_rows nan 27 rows numbers
  pub words_are : own_words ≡ pick_rows 0 8 rows words
  pub given_are : GivenPicked kind rows given given₀ ownGiven

-- ---- put back

pub record RowsPut (groups : List ℕ) (g n : ℕ) (ownNumbers ownSolution : List Float) (ownRules : List ℕ) (numbers₀ solution₀ : List Float) (rules₀ : List ℕ) (numbers solution : List Float) (rules : List ℕ) : Type 0 where
  pub numbers_put : Put nan 27 groups g n ownNumbers numbers₀ numbers
  pub solution_put : Put nan 1 groups g n ownSolution solution₀ solution
  pub rules_put : Put 0 1 groups g n ownRules rules₀ rules

pub record BodiesPut (marks : List ℕ) (mark bodies placed : ℕ) (ownImpulses ownCentres impulses₀ centres₀ impulses centres : List Float) : Type 0 where
  pub impulses_put_lem : Marked nan 6 marks mark bodies ownImpulses impulses₀ impulses
  pub centres_put_lem : Marked nan 3 marks mark placed ownCentres centres₀ centres

-- the rows of every group but g are as they were
pub record OtherRows {X : Type 0} (d : X) (width : ℕ) (groups : List ℕ) (g n : ℕ) (before after : List X) : Type 0 where
  pub same : (h : ℕ) → (h ≡ g → ⊥) → pick_rows d width (rows_of groups h n) after ≡ pick_rows d width (rows_of groups h n) before

-- so are the bodies that do not bear this mark
pub record OtherBodies (width : ℕ) (marks : List ℕ) (mark n : ℕ) (before after : List Float) : Type 0 where
  pub same : (body c : ℕ) → body < n → c < width → (get_or marks body 0 ≡ mark → ⊥) → get_or after (width * body + c) nan ≡ get_or before (width * body + c) nan

-- what an accepted group delivers is in the table, at its rows and at the bodies that bear its mark; of a refused one all is as it was
pub record Delivered (kind : Kind) (bodies n : ℕ) (groups marks : List ℕ) (g : ℕ) (answer : Run PositionPcgResult ℕ) (own : Lent) (named : List ℕ) (before after : Lent) (rules₀ rules : List ℕ) : Type 0 where
  pub numbers_are : pick_rows nan 27 (rows_of groups g n) after.numbers ≡ chosen answer own.numbers (pick_rows nan 27 (rows_of groups g n) before.numbers)
  pub solution_are : pick_rows nan 1 (rows_of groups g n) after.solution ≡ chosen answer own.solution (pick_rows nan 1 (rows_of groups g n) before.solution)
  pub rules_are : pick_rows 0 1 (rows_of groups g n) rules ≡ chosen answer named (pick_rows 0 1 (rows_of groups g n) rules₀)
  pub impulses_are : (body c : ℕ) → body < bodies → c < 6 → get_or marks body 0 ≡ g + 1 → get_or after.impulses (6 * body + c) nan ≡ get_or (chosen answer own.impulses before.impulses) (6 * body + c) nan
  pub centres_are : (body c : ℕ) → body < placed_of kind bodies → c < 3 → get_or marks body 0 ≡ g + 1 → get_or after.centres (3 * body + c) nan ≡ get_or (chosen answer own.centres before.centres) (3 * body + c) nan

-- nothing else is written
pub record TableKept (kind : Kind) (bodies n : ℕ) (groups marks : List ℕ) (g : ℕ) (before after : Lent) (rules₀ rules : List ℕ) : Type 0 where
  pub numbers_else : OtherRows nan 27 groups g n before.numbers after.numbers
  pub solution_else : OtherRows nan 1 groups g n before.solution after.solution
  pub rules_else : OtherRows 0 1 groups g n rules₀ rules
  pub impulses_else : OtherBodies 6 marks (g + 1) bodies before.impulses after.impulses
  pub centres_else : OtherBodies 3 marks (g + 1) (placed_of kind bodies) before.centres after.centres

-- ---- told

pub record WordsPut (at refusal count flag : ℕ) (words₀ words : List ℕ) : Type 0 where
  pub first : get_or words at 0 ≡ refusal
  pub second : get_or words (at + 1) 0 ≡ count
  pub third : get_or words (at + 2) 0 ≡ flag
  pub below : (k : ℕ) → k < at → get_or words k 0 ≡ get_or words₀ k 0
  pub above : (k : ℕ) → at + 3 ≤ k → get_or words k 0 ≡ get_or words₀ k 0

pub record MaximaPut (at : ℕ) (linear angular : Float) (maxima₀ maxima : List Float) : Type 0 where
  pub first : get_or maxima at nan ≡ linear
  pub second : get_or maxima (at + 1) nan ≡ angular
  pub below : (k : ℕ) → k < at → get_or maxima k nan ≡ get_or maxima₀ k nan
  pub above : (k : ℕ) → at + 2 ≤ k → get_or maxima k nan ≡ get_or maxima₀ k nan

-- what is told of every group but g is as it was
pub record OtherGroups {X : Type 0} (d : X) (width g : ℕ) (before after : List X) : Type 0 where
  pub below : (k : ℕ) → k < width * g → get_or after k d ≡ get_or before k d
  pub above : (k : ℕ) → width * g + width ≤ k → get_or after k d ≡ get_or before k d

pub record TellsGroup (g : ℕ) (answer : Run PositionPcgResult ℕ) (words₀ words : List ℕ) (maxima₀ maxima : List Float) : Type 0 where
  pub told : Told g answer words maxima₀ maxima
  pub words_else : OtherGroups 0 3 g words₀ words
  pub maxima_else : OtherGroups nan 2 g maxima₀ maxima

-- ---- the solve of group g, where `marks` has the group of each body
pub record GroupStep (b : Bench) (marks : List ℕ) (g : ℕ) (before after : Lending) : Type 0 where
  pub solved : GroupSolved (λ body. get_or marks body 0 ≡ g + 1) b g (rows_of before.groups g b.rows) before after
  pub kept : TableKept b.kind b.bodies b.rows before.groups marks g before.table after.table before.rules after.rules
  pub words_else : OtherGroups 0 3 g before.answers after.answers
  pub maxima_else : OtherGroups nan 2 g before.maxima after.maxima

-- ---- the lengths

-- of what is only read, with the counts and the mode
pub record BenchRoom (kind : Kind) (n bodies mode : ℕ) (words : List ℕ) (masses centres given : List Float) (rule_words : List ℕ) (rule_tolerances : List Float) : Type 0 where
  pub rows_few : n ≤ 512
  pub bodies_few : bodies ≤ 256
  pub mode_known : mode ≤ 2
  pub words_long : length words ≡ 8 * n
  pub masses_long : length masses ≡ 10 * bodies
  pub centres_long : length centres ≡ 3 * placed_of kind bodies
  pub given_long : GivenRoom kind (length given) n
  pub rules_fit : rule_lengths_fit (length rule_words) (length rule_tolerances) ≡ true

-- of what is written
pub record TableRoom (kind : Kind) (n bodies : ℕ) (numbers solution impulses centres : List Float) (rules : List ℕ) : Type 0 where
  pub numbers_long : length numbers ≡ 27 * n
  pub solution_long : length solution ≡ n
  pub impulses_long : length impulses ≡ 6 * bodies
  pub centres_long : length centres ≡ 3 * placed_of kind bodies
  pub rules_long : length rules ≡ n

pub record ToldRoom (n : ℕ) (answers : List ℕ) (maxima : List Float) : Type 0 where
  pub answers_long : length answers ≡ 3 * n
  pub maxima_long : length maxima ≡ 2 * n

-- of memory for k rows and all bodies
pub record OwnRoom (kind : Kind) (bodies k : ℕ) (numbers : List Float) (words : List ℕ) (given solution impulses centres : List Float) (rules : List ℕ) : Type 0 where
  pub table : TableRoom kind k bodies numbers solution impulses centres rules
  pub words_long : length words ≡ 8 * k
  pub given_long : length given ≡ k
