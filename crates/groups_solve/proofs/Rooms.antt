-- What refusals 3 and 7 tell once they have passed: the counts' limits, the lengths and the body numbers, as facts. Assumes nothing.
use Prim.Native.Nat.{ℕ, ◌*◌, ◌≤◌}
use mathlib.Core.Path.{◌≡◌, refl, sym, ap, ◌∙◌}
use mathlib.Core.Bool.{true, ◌&&◌}
use mathlib.Core.List.{List, [], ◌∷◌, ◌++◌}
use native.Mathlib.Omega.{arith}
use lib.Dec.{eqb, leb}
use lib.ListN.{length}
use lib.Ieee.{Float}
use borrow.Author.Tests.{eqb-true}
use Rattle.std.specs.Prelude.{Result, Ok}
use Rattle.refusals.specs.Told.{told}
use Rattle.refusals.specs.declared.Refusal.{Refusal}
use Rattle.loops.specs.Run.{going}
use Rattle.loops.specs.Judge.{judge, AllPass}
use Rattle.loops.proofs.Both.{both}
use Rattle.loops.proofs.Every.{every_iff}
use Rattle.loops.proofs.Judge.{judge_going, both_pass}
use Rattle.kapitsa_joint.specs.Row.{row_of, words_of}
use Rattle.kapitsa_joint.specs.Kind.{placed_of}
use Rattle.kapitsa_joint.specs.declared.kind.Kind.{Kind}
use Rattle.joint_refusals.specs.Counts.{counts_fit}
use Rattle.joint_refusals.specs.Refusals.{is_valid_of, passes4, passes6, passes7}
use Rattle.joint_refusals.proofs.Valid.{valid_bodies}
use Rattle.rules.specs.Rules.{Rules, rule_lengths_fit}
use Rattle.work_memory.specs.Lengths.{table_fits}
use Rattle.work_memory.proofs.Lengths.{table_lengths_lem}
use Rattle.solve_by_rules.specs.Ruled.{rules_lent, beside_lent}
use Rattle.solve_by_rules.proofs.Naming.{lent_beside, lent_numbers}
use Rattle.position.specs.Kinds.{GivenRoom}
use Rattle.position.specs.Problem.{Problem}
use Rattle.solve_method.specs.Position.{solve_for}
use Rattle.own_memory.specs.Job.{job_fits}
use Rattle.own_memory.proofs.Lending.{counts_within}
use Rattle.groups.specs.Together.{links_in, Linked}
use Rattle.group_step.specs.Bench.{Bench, bench_problem}
use Rattle.group_step.specs.Step.{BenchRoom, TableRoom, ToldRoom}
use Rattle.groups_solve.specs.Judged.{bench_tests, groups_lent}

-- ---- 3
module _ (kind : Kind) (n b mode : ℕ) (numbers : List Float) (words : List ℕ) (masses solution impulses centres newCentres : List Float) (rule_words : List ℕ) (rule_tolerances : List Float) (rule_numbers : List ℕ) (given : List Float)
    (h : job_fits kind n b mode (length numbers) (length words) (length masses) (length solution) (length impulses) (length centres) (length newCentres) (length rule_words) (length rule_tolerances) (length rule_numbers) (length given) ≡ true) where
  halves : ((rules_lent n (length rule_words) (length rule_tolerances) (length rule_numbers) && beside_lent kind n b (length centres) (length newCentres) (length given)) ≡ true) × (table_fits n b (length numbers) (length words) (length masses) (length solution) (length impulses) ≡ true)
  unfolding job_fits
  halves =
      let (l, k) = both (rules_lent n (length rule_words) (length rule_tolerances) (length rule_numbers) && beside_lent kind n b (length centres) (length newCentres) (length given)) (counts_fit n b mode && table_fits n b (length numbers) (length words) (length masses) (length solution) (length impulses)) h in
      (l, (both (counts_fit n b mode) (table_fits n b (length numbers) (length words) (length masses) (length solution) (length impulses)) k).1)

  rules_there : rule_lengths_fit (length rule_words) (length rule_tolerances) ≡ true
  unfolding rules_lent
  rules_there =
      let (r, _) = both (rules_lent n (length rule_words) (length rule_tolerances) (length rule_numbers)) (beside_lent kind n b (length centres) (length newCentres) (length given)) halves.0 in
      (both (rule_lengths_fit (length rule_words) (length rule_tolerances)) (eqb (length rule_numbers) n) r).0

  pub bench_room : BenchRoom kind n b mode words masses centres given rule_words rule_tolerances
  bench_room =
      let (x, y, z) = counts_within kind n b mode _ _ _ _ _ _ _ _ _ _ _ h in
      let t = table_lengths_lem n b _ _ _ _ _ halves.1 in
      let (c, _, g) = lent_beside kind n (length rule_words) (length rule_tolerances) (length rule_numbers) b (length centres) (length newCentres) (length given) (sym halves.0) refl in
      record { rows_few = x; bodies_few = y; mode_known = z; words_long = t.1; masses_long = t.2; centres_long = c; given_long = g; rules_fit = rules_there }

  pub table_room : TableRoom kind n b numbers solution impulses newCentres rule_numbers
  table_room =
      let t = table_lengths_lem n b _ _ _ _ _ halves.1 in
      let (_, c, _) = lent_beside kind n (length rule_words) (length rule_tolerances) (length rule_numbers) b (length centres) (length newCentres) (length given) (sym halves.0) refl in
      record { numbers_long = t.0; solution_long = t.3; impulses_long = t.4; centres_long = c; rules_long = lent_numbers kind n (length rule_words) (length rule_tolerances) (length rule_numbers) b (length centres) (length newCentres) (length given) (sym halves.0) refl }

pub told_room : (n : ℕ) (numbers answers : List ℕ) (maxima : List Float) → groups_lent n (length numbers) (length answers) (length maxima) ≡ true → (length numbers ≡ n) × ToldRoom n answers maxima
unfolding groups_lent
told_room n numbers answers maxima h =
    let (p, m) = both (eqb (length numbers) n && eqb (length answers) (3 * n)) (eqb (length maxima) (2 * n)) h in
    let (x, a) = both (eqb (length numbers) n) (eqb (length answers) (3 * n)) p in
    (eqb-true (length numbers) n x, record { answers_long = eqb-true (length answers) (3 * n) a; maxima_long = eqb-true (length maxima) (2 * n) m })

-- ---- 7: where all tests pass, each row's body numbers are below the count
pub passed_7 : (p : Problem) → AllPass (bench_tests p) → passes7 p.table ≡ true
unfolding AllPass
passed_7 p h =
    let t = p.table in
    let (_, a) = both_pass p.options ((4, passes4 t) ∷ (p.tolerance_tests ++ ((6, passes6 t && p.placed) ∷ (p.lent ++ ((7, passes7 t) ∷ []))))) h in
    let (_, b) = both_pass p.tolerance_tests ((6, passes6 t && p.placed) ∷ (p.lent ++ ((7, passes7 t) ∷ []))) a.1 in
    let (_, c) = both_pass p.lent ((7, passes7 t) ∷ []) b.1 in
    c.0

pub linked_rows : (kind : Kind) (rows bodies : ℕ) (numbers : List Float) (words : List ℕ) (masses centres given : List Float) (rules : Rules) (shift : Float) → judge (bench_tests (solve_for kind rows bodies numbers words masses centres given rules shift)) ≡ going tt → Linked (links_in words) rows bodies
unfolding passes7 row_of words_of
linked_rows kind rows bodies numbers words masses centres given rules shift h =
    let p = solve_for kind rows bodies numbers words masses centres given rules shift in
    let v = (every_iff (λ i. is_valid_of bodies (row_of numbers words i)) rows).0 (passed_7 p ((judge_going (bench_tests p)).0 h)) in
    record { a = λ i l. (valid_bodies bodies (row_of numbers words i) (v i l)).a; b = λ i l. (valid_bodies bodies (row_of numbers words i) (v i l)).b }

-- ---- for the calls of the entry
rules_long : (words tolerances : ℕ) → rule_lengths_fit words tolerances ≡ true → 3 * tolerances ≤ words
unfolding rule_lengths_fit
rules_long words tolerances h = let e = eqb-true words (3 * tolerances) (both (leb tolerances 64) (eqb words (3 * tolerances)) h).1 in omega arith

pub linked_passed : (b : Bench) (numbers : List Float) {w : Result Unit Refusal} → judge (bench_tests (bench_problem b numbers)) ≡ told w → w ≡ Ok tt → Linked (links_in b.words) b.rows b.bodies
linked_passed b numbers j e = linked_rows b.kind b.rows b.bodies numbers b.words b.masses b.centres b.given b.rules b.shift (j ∙ ap told e)

pub judged_rooms : (kind : Kind) (n b mode : ℕ) (numbers : List Float) (words : List ℕ) (masses solution impulses centres newCentres : List Float) (rule_words : List ℕ) (rule_tolerances : List Float) (rule_numbers : List ℕ) (given : List Float)
    → job_fits kind n b mode (length numbers) (length words) (length masses) (length solution) (length impulses) (length centres) (length newCentres) (length rule_words) (length rule_tolerances) (length rule_numbers) (length given) ≡ true
    → (27 * n ≤ length numbers) × (8 * n ≤ length words) × (10 * b ≤ length masses) × (3 * placed_of kind b ≤ length centres) × (3 * length rule_tolerances ≤ length rule_words) × GivenRoom kind (length given) n
judged_rooms kind n b mode numbers words masses solution impulses centres newCentres rule_words rule_tolerances rule_numbers given h =
    let r = bench_room kind n b mode numbers words masses solution impulses centres newCentres rule_words rule_tolerances rule_numbers given h in
    let t = table_room kind n b mode numbers words masses solution impulses centres newCentres rule_words rule_tolerances rule_numbers given h in
    (omega (arith, t.numbers_long), omega (arith, r.words_long), omega (arith, r.masses_long), omega (arith, r.centres_long), rules_long (length rule_words) (length rule_tolerances) r.rules_fit, r.given_long)
