-- With its bodies under new numbers a bench has the same links by other names, and what is judged of it before its groups is the same. Assumes nothing.
use Prim.Native.Nat.{ℕ}
use mathlib.Core.Path.{◌≡◌, refl, ap, ◌∙◌}
use mathlib.Core.Bool.{Bool, true, not}
use mathlib.Core.List.{List}
use lib.Ieee.{Float}
use Rattle.loops.specs.Judge.{judge}
use Rattle.loops.proofs.Same.{judge_first}
use Rattle.kapitsa_joint.specs.declared.row.ConstraintRow.{ConstraintRow}
use Rattle.kapitsa_joint.specs.declared.mass.SolverMass.{SolverMass}
use Rattle.groups.specs.Together.{links_of, joins_of, massless}
use Rattle.group_step.specs.Bench.{Bench, bench_table, bench_problem}
use Rattle.groups_solve.specs.Judged.{bench_tests, whole_tests}
use Rattle.renumbered.specs.Renumber.{Renumbering, InRange, bodies_by, renumbered_row}
use Rattle.renumbered.specs.Lists.{Long}
use Rattle.renumbered.proofs.Lists.{agree, held_four, held_six, held_seven, held_rules, placed_same}
use Rattle.renumbered_groups.specs.Bench.{renumbered_bench, job_of}
use Rattle.renumbered_groups.proofs.Together.{Renamed}

module _ (p q : ℕ → ℕ) (b : Bench) (numbers : List Float) (r : Renumbering b.bodies p q) (inside : InRange (bench_table b numbers)) where
  pub bench_renamed : Long true (job_of b numbers) → Renamed p b.bodies b.rows (links_of (bench_table b numbers)) (links_of (bench_table (renumbered_bench p q b) numbers)) (joins_of (bench_table b numbers)) (joins_of (bench_table (renumbered_bench p q b) numbers))
  unfolding renumbered_row bodies_by
  bench_renamed long =
      let a = agree p q (job_of b numbers) r inside (long.words_long refl) (long.masses_long refl) in
      record {
        linked = record { a = inside.a_below; b = inside.b_below };
        a = λ i h. ap (λ (x : ConstraintRow). x.words.body_a) (a.row i h);
        b = λ i h. ap (λ (x : ConstraintRow). x.words.body_b) (a.row i h);
        joins = λ c h. ap (λ (m : SolverMass). not (massless m)) (a.mass (p c) (r.new_below c h) ∙ ap (bench_table b numbers).mass (r.back c h));
      }

  tests_same : Long true (job_of b numbers) → bench_tests (bench_problem (renumbered_bench p q b) numbers) ≡ bench_tests (bench_problem b numbers)
  tests_same long =
      let w = long.words_long refl in
      let m = long.masses_long refl in
      let j = job_of b numbers in
      rw (held_four p q j r inside w m, held_six p q j r inside w m, held_seven p q j r inside w m, held_rules p q j r inside w m, placed_same p q j r inside b.kind (long.centres_long refl))

  pub whole_same : (fits : Bool) → (fits ≡ true → Long true (job_of b numbers)) → judge (whole_tests fits (bench_problem (renumbered_bench p q b) numbers)) ≡ judge (whole_tests fits (bench_problem b numbers))
  whole_same fits long = judge_first 3 fits (bench_tests (bench_problem (renumbered_bench p q b) numbers)) (bench_tests (bench_problem b numbers)) (λ e. tests_same (long e))
