-- Where the table passes refusal 3 and the memory has the lengths that the counts and the mode call for, the entry does not refuse by 3 either, so what it promises is what the solve promises. Assumes nothing.
use Prim.Native.Nat.{ℕ, ◌*◌, ◌≤◌}
use mathlib.Core.Path.{◌≡◌, refl, sym, ◌∙◌}
use mathlib.Core.Bool.{Bool, true, false, not, ◌&&◌}
use mathlib.Core.List.{List}
use native.Mathlib.Omega.{arith}
use lib.Dec.{leb}
use lib.ListN.{length, take}
use lib.Ieee.{Float}
use lib.Seq.{length-take-le}
use borrow.Author.Tests.{leb-true, eq-eqb, not-false}
use Rattle.loops.proofs.Both.{both}
use Rattle.kapitsa_joint.specs.declared.kind.Kind.{Kind}
use Rattle.preconditioner.specs.Mode.{room_mode}
use Rattle.preconditioner.specs.declared.mode.Mode.{Mode}
use Rattle.position.specs.Problem.{Problem}
use Rattle.solve_method.specs.Method.{method_of}
use Rattle.solve_method.specs.Places.{Apart}
use Rattle.solve_method.proofs.InPlace.{problem_in_place}
use Rattle.position_delivery.specs.Outcome.{Lent}
use Rattle.position_delivery.proofs.Answered.{entry_refused, entry_means}
use Rattle.work_memory.specs.Work.{WorkMemory, work_memory}
use Rattle.joint_refusals.specs.Counts.{counts_fit}
use Rattle.work_memory.specs.Lengths.{table_fits, vectors_fit, factor_fits, passes3, WorkRoom}
use Rattle.rules.specs.Rules.{Rules}
use Rattle.solve_by_rules.specs.Ruled.{rules_lent, beside_lent, SolveRuled}
use Rattle.loops.specs.Run.{Run, ended}
use Rattle.position_delivery.specs.declared.answer.PositionPcgResult.{PositionPcgResult}
use Rattle.own_memory.specs.Job.{job_fits, JobSolved, FactorRoom}

-- the counts of what has passed
pub counts_within : (kind : Kind) (n b mode numbers words masses solution impulses centres newCentres rule_words rule_tolerances rule_numbers given : ℕ) → job_fits kind n b mode numbers words masses solution impulses centres newCentres rule_words rule_tolerances rule_numbers given ≡ true → (n ≤ 512) × (b ≤ 256) × (mode ≤ 2)
unfolding job_fits counts_fit
counts_within kind n b mode numbers words masses solution impulses centres newCentres rule_words rule_tolerances rule_numbers given h =
    let (_, k) = both (rules_lent n rule_words rule_tolerances rule_numbers && beside_lent kind n b centres newCentres given) (counts_fit n b mode && table_fits n b numbers words masses solution impulses) h in
    let (c, _) = both (counts_fit n b mode) (table_fits n b numbers words masses solution impulses) k in
    let (p, m) = both (leb n 512 && leb b 256) (leb mode 2) c in
    let (x, y) = both (leb n 512) (leb b 256) p in
    (leb-true n 512 x, leb-true b 256 y, leb-true mode 2 m)

-- ---- parts of arrays for N rows and B bodies are as long as n rows and b bodies call for
module _ (N B : ℕ) {n b mode : ℕ} {pattern order : List ℕ} {values : List Float} (h : (n ≤ N) × (b ≤ B)) (f : FactorRoom mode n (length pattern) (length order) (length values)) where
  pub lent_room : (j : List Float) (l : List ℕ) (t d r p x y i : List Float)
      → length j ≡ 12 * N → length l ≡ 2 * N → length t ≡ N → length d ≡ N → length r ≡ N → length p ≡ N → length x ≡ N → length y ≡ N → length i ≡ 6 * B
      → WorkRoom (room_mode mode) n b (work_memory (take (12 * n) j) (take (2 * n) l) (take n t) (take n d) (take n r) (take n p) (take n x) (take n y) (take (6 * b) i) pattern order values)
  lent_room j l t d r p x y i ej el et ed er ep ex ey ei =
      let row : (v : List Float) → length v ≡ N → length (take n v) ≡ n = λ v e. length-take-le n v (omega arith) in
      record {
        steps = record { tolerances_long = row t et; direction_long = row x ex; product_long = row y ey; factor = record { diagonal_long = row d ed; pattern_long = f.pattern_long; order_long = f.order_long; values_long = f.values_long } };
        table = record { jacobians_long = length-take-le (12 * n) j (omega arith); links_long = length-take-le (2 * n) l (omega arith); residual_long = row r er; pending_long = row p ep; body_impulses_long = length-take-le (6 * b) i (omega arith) };
      }

module _ (kind : Kind) (n b mode : ℕ) (numbers : List Float) (words : List ℕ) (masses solution impulses : List Float) (w : WorkMemory) (centres newCentres rule_words rule_tolerances rule_numbers given : ℕ)
    (h : job_fits kind n b mode (length numbers) (length words) (length masses) (length solution) (length impulses) centres newCentres rule_words rule_tolerances rule_numbers given ≡ true) (r : WorkRoom (room_mode mode) n b w) where
  fits_too : ((rules_lent n rule_words rule_tolerances rule_numbers && beside_lent kind n b centres newCentres given) && passes3 n b mode numbers words masses solution impulses w) ≡ true
  unfolding job_fits passes3 vectors_fit factor_fits
  fits_too =
      let (l, k) = both (rules_lent n rule_words rule_tolerances rule_numbers && beside_lent kind n b centres newCentres given) (counts_fit n b mode && table_fits n b (length numbers) (length words) (length masses) (length solution) (length impulses)) h in
      rw (l, k, eq-eqb _ _ r.table.jacobians_long, eq-eqb _ _ r.table.links_long, eq-eqb _ _ r.steps.tolerances_long, eq-eqb _ _ r.table.residual_long, eq-eqb _ _ r.table.pending_long, eq-eqb _ _ r.steps.direction_long, eq-eqb _ _ r.steps.product_long, eq-eqb _ _ r.table.body_impulses_long, eq-eqb _ _ r.steps.factor.diagonal_long, eq-eqb _ _ r.steps.factor.pattern_long, eq-eqb _ _ r.steps.factor.order_long, eq-eqb _ _ r.steps.factor.values_long)

  pub job_solved : {s : Rules} {p : Problem} {m : Mode} {limit place rows : ℕ} {before after : Lent} {named namedAfter : List ℕ} {answer : Run PositionPcgResult ℕ} {work workAfter : WorkMemory}
      → SolveRuled ((rules_lent n rule_words rule_tolerances rule_numbers && beside_lent kind n b centres newCentres given) && passes3 n b mode numbers words masses solution impulses w) s p m limit place rows before after named namedAfter answer work workAfter
      → JobSolved true s p m limit place rows before after named namedAfter answer
  job_solved r =
      let q = rw fits_too at r in
      record { answered = q.held.answered; means = q.held.means; in_place = q.held.in_place; named = q.named; ruled = q.ruled }

-- ---- refusal 3; b is what its test answered
pub job_refused : (s : Rules) (p : Problem) (mode : Mode) (limit place n : ℕ) (before : Lent) (named : List ℕ) (b fits : Bool) → Apart p → b ≡ fits → not b ≡ true → JobSolved fits s p mode limit place n before before named named (ended 3)
job_refused s p mode limit place n before named b fits apart e h =
    let q = entry_refused p mode place n limit before b fits e h in
    record { answered = q; means = entry_means (method_of fits p mode) limit place n before before (ended 3) q; in_place = problem_in_place p mode fits limit apart; named = refl; ruled = λ r a. absurd (let z : ◌≡◌ {A = ℕ} 0 1 = cc in omega arith) }

pub passed : {b fits : Bool} → b ≡ fits → not b ≡ false → fits ≡ true
passed {b} e h = sym e ∙ not-false b h

pub job_passed : {b fits : Bool} {s : Rules} {p : Problem} {mode : Mode} {limit place n : ℕ} {before after : Lent} {named namedAfter : List ℕ} {answer : Run PositionPcgResult ℕ} → b ≡ fits → not b ≡ false
    → JobSolved true s p mode limit place n before after named namedAfter answer → JobSolved fits s p mode limit place n before after named namedAfter answer
job_passed e h j = rw (passed e h) j
