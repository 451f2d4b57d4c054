-- The whole table's refusal of a file's job is the one that the solve by groups gives of it, asked with two rules and shift 0. Assumes nothing.
use Prim.Native.Nat.{ℕ}
use mathlib.Core.Path.{◌≡◌, refl, sym, ap, ◌∙◌}
use mathlib.Core.Bool.{Bool, true, false, true≢false}
use mathlib.Core.List.{List, []}
use lib.Ieee.{le, of_bits}
use Rattle.loops.specs.Run.{Run, going, ended, next, on, check}
use Rattle.loops.specs.Judge.{AllPass, judge, test}
use Rattle.loops.proofs.Judge.{judge_going}
use Rattle.loops.specs.Cleared.{plus_zero}
use Rattle.kapitsa_joint.specs.declared.kind.Kind.TheVariants.{Position}
use Rattle.joint_refusals.specs.Refusals.{passes4}
use Rattle.joint_refusals.specs.Tolerances.{passes26}
use Rattle.preconditioner.specs.Shift.{passes25}
use Rattle.rules.specs.Rules.{two_rules}
use Rattle.rules.proofs.Two.{two_fit, two_ruled}
use Rattle.position.specs.Problem.{Problem}
use Rattle.solve_method.specs.Position.{solve_for}
use Rattle.groups_solve.specs.Judged as bench
use Rattle.job_file.specs.File.{trailer_of}
use Rattle.job_file.specs.Job.{Job, tests, job_of, job_with, file_numbers, file_words, file_masses, file_centres}
use Rattle.job_file.proofs.Rows.{four_same}
use Rattle.groups_sheet.specs.Bench.{job_table, job_tests}

shift_zero : passes25 plus_zero ≡ true
unfolding passes25 le of_bits
shift_zero = refl

-- ---- the job of a file has passed 4

abbrev is_job : Run Job ℕ → Bool
is_job (going j) = true
is_job (ended number) = false

abbrev job_in : Run Job ℕ → Job → Job
job_in (going j) other = j
job_in (ended number) other = other

file_four : (file : List ℕ) (j : Job) → job_of file ≡ going j → passes4 (job_table j) ≡ true
unfolding job_of on AllPass
file_four file j = go (job_with (trailer_of file) (file_numbers file) (file_words file) (file_masses file) (file_centres file)) (judge (tests file)) (λ e. sym (four_same file) ∙ ((judge_going (tests file)).0 e).1.1.1.0)
  where
    go : (read : Job) (r : Run Unit ℕ) → (r ≡ going tt → passes4 (job_table read) ≡ true) → on r (λ _. going read) ended ≡ going j → passes4 (job_table j) ≡ true
    go read (going _) four h = ap (λ k. passes4 (job_table k)) (sym (ap (λ k. job_in k read) h)) ∙ four refl
    go read (ended number) four h = absurd (true≢false (sym (ap is_job h)))

module _ (file : List ℕ) (j : Job) (h : job_of file ≡ going j) where
  four : passes4 (job_table j) ≡ true
  four = file_four file j h

  abbrev asked : Problem
  asked = solve_for Position j.rows j.bodies j.numbers j.words j.masses j.centres [] (two_rules j.tolerance) plus_zero

  pub whole_same : judge (job_tests j) ≡ next (test (passes26 j.tolerance) 26) (λ _. judge (bench.whole_tests true asked))
  unfolding judge test check on
  whole_same = go (passes26 j.tolerance) refl
    where
      go : (d : Bool) → passes26 j.tolerance ≡ d → judge (job_tests j) ≡ next (test (passes26 j.tolerance) 26) (λ _. judge (bench.whole_tests true asked))
      go true e = rw (shift_zero, four, two_fit j.tolerance, e, two_ruled j.tolerance (job_table j) four)
      go false e = rw e
