-- `solve_position_groups`, `solve_velocity_groups`: refusal 3 judges both calls alike, so their contracts tell the same. Assumes nothing.
use Prim.Native.Nat.{ℕ}
use mathlib.Core.Path.{◌≡◌, subst}
use mathlib.Core.Bool.{Bool, ◌&&◌}
use lib.ListN.{length}
use Rattle.loops.specs.Run.{Run}
use Rattle.loops.proofs.Both.{both}
use Rattle.group_step.specs.Bench.{Bench, Lending, bench_table}
use Rattle.groups_solve.specs.Judged.{groups_lent}
use Rattle.groups_solve.specs.Solved.{SameLengths, GroupsSolved}
use Rattle.renumbered.specs.Renumber.{Renumbering, InRange}
use Rattle.renumbered.specs.Lists.{LentJob, Long}
use Rattle.renumbered.specs.Calls.{solve_fits}
use Rattle.renumbered.proofs.Entries.{solve_long, solve_fits_kept}
use Rattle.renumbered_groups.specs.Bench.{renumbered_bench, job_of}
use Rattle.renumbered_groups.specs.Claims.{same_numbers, GroupsAlike}
use Rattle.renumbered_groups.specs.Fits.{groups_fit}
use Rattle.renumbered_groups.proofs.Bench.{groups_alike}

first_long : (fits lent : Bool) (j : LentJob) → Long fits j → Long (fits && lent) j
first_long fits lent j l = record {
  words_long = λ h. l.words_long (both fits lent h).0;
  masses_long = λ h. l.masses_long (both fits lent h).0;
  centres_long = λ h e. l.centres_long (both fits lent h).0 e;
}

module _ (p q : ℕ → ℕ) (b : Bench) (r : Renumbering b.bodies p q) (before after other after' : Lending) (inside : InRange (bench_table b before.table.numbers)) (same : SameLengths before (same_numbers before other)) where
  fits_kept : groups_fit (renumbered_bench p q b) (same_numbers before other) ≡ groups_fit b before
  fits_kept = rw (same.solution, same.impulses, same.centres, same.rules, same.groups, same.answers, same.maxima, solve_fits_kept (job_of b before.table.numbers) b.mode (length before.table.solution) (length before.table.impulses) (length before.table.centres) (length before.rules) p q)

  pub groups_entries : (answer answer' : Run ℕ ℕ) (x : GroupsSolved (groups_fit b before) b before after answer) → GroupsSolved (groups_fit (renumbered_bench p q b) (same_numbers before other)) (renumbered_bench p q b) (same_numbers before other) after' answer' → GroupsAlike p (groups_fit b before) b before after after' answer answer' x
  groups_entries answer answer' x y =
      let fits = solve_fits (job_of b before.table.numbers) b.mode (length before.table.solution) (length before.table.impulses) (length before.table.centres) (length before.rules) in
      let lent = groups_lent b.rows (length before.groups) (length before.answers) (length before.maxima) in
      groups_alike p q b r before after other after' inside (groups_fit b before) (first_long fits lent (job_of b before.table.numbers) (solve_long (job_of b before.table.numbers) b.mode (length before.table.solution) (length before.table.impulses) (length before.table.centres) (length before.rules))) answer answer' x
      (subst (λ (f : Bool). GroupsSolved f (renumbered_bench p q b) (same_numbers before other) after' answer') fits_kept y)
