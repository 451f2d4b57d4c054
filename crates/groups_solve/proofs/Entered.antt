-- The entry: refused by 3, refused by what is judged of the whole table, or solved. Assumes nothing.
use Prim.Native.Nat.{ℕ}
use mathlib.Core.Path.{◌≡◌, refl, sym, ap, subst, ◌∙◌}
use mathlib.Core.Bool.{Bool, true, false, not, ◌&&◌}
use mathlib.Core.List.{List, [], ◌∷◌}
use native.Mathlib.Omega.{arith}
use lib.ListN.{length}
use lib.Ieee.{Float}
use borrow.Author.Tests.{not-false}
use Rattle.std.specs.Prelude.{Result, Ok, Err, IsErrAnd}
use Rattle.loops.specs.Run.{Run, going, ended}
use Rattle.loops.specs.Judge.{judge}
use Rattle.loops.proofs.Both.{both}
use Rattle.loops.proofs.Inverse.{apart, going_inj}
use Rattle.loops.proofs.Judge.{judge_fail, judge_pass}
use Rattle.refusals.proofs.Again.{told_again}
use Rattle.refusals.specs.Told.{told}
use Rattle.refusals.specs.declared.Refusal.{Refusal}
use Rattle.group_step.specs.Bench.{Bench, Lending, bench_problem, lending_of}
use Rattle.groups_solve.specs.Judged.{bench_tests, whole_tests}
use Rattle.groups_solve.specs.Solved.{BenchSolved, GroupsSolved}

-- what the two tests of 3 answered
pub lent_two : {x y p q : Bool} → x ≡ p → y ≡ q → (x && y) ≡ (p && q)
lent_two e d = rw (e, d)

module _ {x y p q : Bool} (e : x ≡ p) (d : y ≡ q) (h : not (x && y) ≡ false) where
  passed : (p && q) ≡ true
  passed = sym (lent_two e d) ∙ not-false (x && y) h

  pub passed_job : p ≡ true
  passed_job = (both p q passed).0

  pub passed_groups : q ≡ true
  passed_groups = (both p q passed).1

module _ (b : Bench) (before : Lending) {x y p q : Bool} (e : x ≡ p) (d : y ≡ q) where
  pub groups_three : not (x && y) ≡ true → GroupsSolved (p && q) b before before (ended 3)
  groups_three h = record { answered = judge_fail 3 (p && q) (bench_tests (bench_problem b before.table.numbers)) (lent_two e d) h; kept = λ number a. refl; solved = λ count a. absurd (apart _ a refl) }

  module _ (h : not (x && y) ≡ false) where
    after_three : {r : Run Unit ℕ} → judge (bench_tests (bench_problem b before.table.numbers)) ≡ r → judge (whole_tests (p && q) (bench_problem b before.table.numbers)) ≡ r
    after_three = judge_pass 3 (p && q) (bench_tests (bench_problem b before.table.numbers)) (lent_two e d) h

    pub groups_refused : (w : Result Unit Refusal) (r : Result ℕ Refusal) (e : Refusal) → judge (bench_tests (bench_problem b before.table.numbers)) ≡ told w → w ≡ Err e → IsErrAnd r (λ y. y ≡ e) → GroupsSolved (p && q) b before before (told r)
    groups_refused w r e j a f = rw (told_again r e f) (record { answered = after_three (j ∙ ap told a); kept = λ number a. refl; solved = λ count a. absurd (apart _ a refl) })

    pub groups_solved : (w : Result Unit Refusal) (after : Lending) (count : ℕ) → judge (bench_tests (bench_problem b before.table.numbers)) ≡ told w → w ≡ Ok tt → BenchSolved b before after count → GroupsSolved (p && q) b before after (going count)
    groups_solved w after count j a s = record { answered = after_three (j ∙ ap told a); kept = λ number c. absurd (apart _ refl c); solved = λ n c. subst (BenchSolved b before after) (going_inj c) s }

-- the entry of velocities lends no centres, and takes none back
none : (l : List Float) → length l ≡ 0 → l ≡ []
none [] e = refl
none (x ∷ l) e = absurd (omega arith)

pub moving_groups : {fits : Bool} {b : Bench} {before : Lending} {numbers solution impulses : List Float} (centres : List Float) {rules groups answers : List ℕ} {maxima : List Float} {answer : Run ℕ ℕ} → length centres ≡ 0 → GroupsSolved fits b before (lending_of numbers solution impulses centres rules groups answers maxima) answer
    → GroupsSolved fits b before (lending_of numbers solution impulses [] rules groups answers maxima) answer
moving_groups centres e h = rw (none centres e) at h
