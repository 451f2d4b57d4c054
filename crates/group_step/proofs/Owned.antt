-- The solve of a group's rows alone, from the solve of the table that was picked. Assumes nothing.
use Prim.Native.Nat.{ℕ, ◌*◌, ◌≤◌}
use mathlib.Core.Path.{◌≡◌, refl, sym, ap, subst, ◌∙◌}
use mathlib.Core.Bool.{Bool, true, ◌&&◌}
use mathlib.Core.List.{List}
use native.Mathlib.Omega.{arith}
use lib.ListN.{length}
use lib.Ieee.{Float, nan}
use borrow.Author.Tests.{eq-eqb, le-leb}
use Rattle.kapitsa_joint.specs.Kind.{by_kind, place_of, placed_of}
use Rattle.kapitsa_joint.specs.declared.kind.Kind.{Kind}
use Rattle.kapitsa_joint.specs.declared.kind.Kind.TheVariants as kinds
use Rattle.joint_refusals.specs.Counts.{counts_fit}
use Rattle.rules.specs.Rules.{Rules}
use Rattle.preconditioner.specs.Mode.{mode_of}
use Rattle.work_memory.specs.Lengths.{table_fits}
use Rattle.solve_by_rules.specs.Ruled.{rules_lent, residual_lent, centres_lent}
use Rattle.position.specs.Kinds.{GivenRoom}
use Rattle.position.specs.Problem.{Problem}
use Rattle.solve_method.specs.Position.{solve_for}
use Rattle.position_delivery.specs.Outcome.{Lent}
use Rattle.own_memory.specs.Job.{job_fits, JobSolved}
use Rattle.group_table.specs.Pick.{pick_rows}
use Rattle.group_table.proofs.Picks.{pick_long}
use Rattle.group_step.specs.Bench.{bench_of}
use Rattle.group_step.specs.Group.{SolvedAlone}
use Rattle.loops.specs.Run.{Run}
use Rattle.position_delivery.specs.declared.answer.PositionPcgResult.{PositionPcgResult}
use Rattle.group_step.specs.Step.{GivenPicked, GroupPicked, BenchRoom, OwnRoom}

-- ---- `pick_given`
module _ {kind : Kind} (rows : List ℕ) (given : List Float) where
  pub given_none : (picked : List Float) → kind ≡ kinds.Position → GivenPicked kind rows given picked picked
  given_none picked e = record { long = refl; are = λ v. absurd (let z : ◌≡◌ {A = ℕ} 0 1 = ap (λ (k : Kind). by_kind k 0 1) (sym e ∙ v) in omega arith) }

  pub given_some : {picked₀ picked : List Float} → length picked ≡ length picked₀ → picked ≡ pick_rows nan 1 rows given → GivenPicked kind rows given picked₀ picked
  given_some l e = record { long = l; are = λ v. e }

pub given_room : {kind : Kind} {rows given : ℕ} → GivenRoom kind given rows → kind ≡ kinds.Velocity → 1 * rows ≤ given
given_room h e = omega (arith, h.long e)

-- ---- refusal 3 of the group's table has passed with the whole table's
module _ (kind : Kind) (n bodies mode k : ℕ) (rows : List ℕ) (e : k ≡ length rows) (few : k ≤ n) (numbers : List Float) (words : List ℕ) (given : List Float) where
  beside_fits : (kd : Kind) (residual centres newCentres : ℕ) → residual ≡ k → centres ≡ 3 * placed_of kd bodies → newCentres ≡ 3 * placed_of kd bodies → (by_kind kd true (residual_lent k residual) && centres_lent (placed_of kd bodies) centres newCentres) ≡ true
  unfolding residual_lent centres_lent
  beside_fits kinds.Position residual centres newCentres r c d = rw (eq-eqb centres (3 * bodies) c, eq-eqb newCentres (3 * bodies) d)
  beside_fits kinds.Velocity residual centres newCentres r c d = rw (eq-eqb residual k r, eq-eqb centres 0 c, eq-eqb newCentres 0 d)

  pub own_fits : (masses centres : List Float) (rule_words : List ℕ) (rule_tolerances : List Float) (ownNumbers₀ : List Float) (ownWords₀ : List ℕ) (ownGiven₀ ownSolution ownImpulses ownCentres : List Float) (ownRules : List ℕ) (ownNumbers : List Float) (own_words : List ℕ) (ownGiven : List Float)
      → BenchRoom kind n bodies mode words masses centres given rule_words rule_tolerances → OwnRoom kind bodies k ownNumbers₀ ownWords₀ ownGiven₀ ownSolution ownImpulses ownCentres ownRules → GroupPicked kind rows numbers words given ownNumbers own_words ownGiven₀ ownGiven
      → job_fits kind k bodies mode (length ownNumbers) (length own_words) (length masses) (length ownSolution) (length ownImpulses) (length centres) (length ownCentres) (length rule_words) (length rule_tolerances) (length ownRules) (length ownGiven) ≡ true
  unfolding job_fits rules_lent counts_fit table_fits
  own_fits masses centres rule_words rule_tolerances _ _ _ ownSolution ownImpulses ownCentres ownRules ownNumbers own_words ownGiven b o p =
      let en : length ownNumbers ≡ 27 * k = omega (arith, ap length p.numbers_are, pick_long nan 27 rows numbers) in
      let ew : length own_words ≡ 8 * k = omega (arith, ap length p.words_are, pick_long 0 8 rows words) in
      rw (b.rules_fit, eq-eqb _ _ o.table.rules_long, beside_fits kind (length ownGiven) (length centres) (length ownCentres) (p.given_are.long ∙ o.given_long) b.centres_long o.table.centres_long, le-leb k 512 (omega (arith, b.rows_few)), le-leb bodies 256 b.bodies_few, le-leb mode 2 b.mode_known, eq-eqb _ _ en, eq-eqb _ _ ew, eq-eqb _ _ b.masses_long, eq-eqb _ _ o.table.solution_long, eq-eqb _ _ o.table.impulses_long)

-- ---- the group's problem is that of the table picked; of positions whatever its residual is
same_given : (kind : Kind) (k bodies : ℕ) (numbers : List Float) (words : List ℕ) (masses centres x y : List Float) (rules : Rules) (shift : Float) → (kind ≡ kinds.Velocity → x ≡ y) → solve_for kind k bodies numbers words masses centres x rules shift ≡ solve_for kind k bodies numbers words masses centres y rules shift
same_given kinds.Position k bodies numbers words masses centres x y rules shift e = refl
same_given kinds.Velocity k bodies numbers words masses centres x y rules shift e = ap (λ (g : List Float). solve_for kinds.Velocity k bodies numbers words masses centres g rules shift) (e refl)

module _ (kind : Kind) (n bodies : ℕ) (words : List ℕ) (masses centres given : List Float) (rules : Rules) (limit mode : ℕ) (shift : Float) (numbers : List Float) (rows : List ℕ) (k : ℕ) (e : k ≡ length rows)
    {ownNumbers : List Float} {own_words : List ℕ} {given₀ ownGiven : List Float} (p : GroupPicked kind rows numbers words given ownNumbers own_words given₀ ownGiven) where
  pub own_solved : {fits : Bool} {solution impulses newCentres : List Float} {after : Lent} {named namedAfter : List ℕ} {answer : Run PositionPcgResult ℕ} → fits ≡ true
      → JobSolved fits rules (solve_for kind k bodies ownNumbers own_words masses centres ownGiven rules shift) (mode_of mode shift) limit (place_of kind) k (record { numbers = ownNumbers; solution = solution; impulses = impulses; centres = newCentres }) after named namedAfter answer
      → SolvedAlone (bench_of kind n bodies words masses centres given rules limit mode shift) numbers rows (record { numbers = pick_rows nan 27 rows numbers; solution = solution; impulses = impulses; centres = newCentres }) after named namedAfter answer
  own_solved {solution = solution} {impulses} {newCentres} {after} {named} {namedAfter} {answer} f j =
      subst (λ (q : Problem). JobSolved true rules q (mode_of mode shift) limit (place_of kind) (length rows) (record { numbers = pick_rows nan 27 rows numbers; solution = solution; impulses = impulses; centres = newCentres }) after named namedAfter answer)
      (same_given kind (length rows) bodies (pick_rows nan 27 rows numbers) (pick_rows 0 8 rows words) masses centres ownGiven (pick_rows nan 1 rows given) rules shift p.given_are.are)
      (rw (f, e, p.numbers_are, p.words_are) at j)
