-- Document 02, n, of groups, by the contracts of two calls. Assumes nothing.
use Prim.Native.Nat.{ℕ, zero, suc, ◌+◌, ◌*◌, ◌<◌}
use mathlib.Core.Path.{◌≡◌, refl, sym, ap, subst, ◌∙◌}
use mathlib.Core.Bool.{Bool, true}
use mathlib.Core.List.{List}
use native.Mathlib.Omega.{arith}
use lib.ListN.{length, get_or}
use Rattle.loops.specs.Run.{Run, going, ended}
use Rattle.loops.specs.Judge.{AllPass}
use Rattle.loops.proofs.Inverse.{apart, ended_inj}
use Rattle.loops.proofs.Judge.{judge_going}
use Rattle.kapitsa_joint.specs.Kind.{placed_of}
use Rattle.kapitsa_joint.specs.declared.kind.Kind.{Kind}
use Rattle.kapitsa_joint.specs.declared.kind.Kind.TheVariants as kinds
use Rattle.groups.specs.Together.{links_of, joins_of, Member, Apart}
use Rattle.group_table.specs.Pick.{rows_of}
use Rattle.group_table.proofs.Rows.{in_order}
use Rattle.group_step.specs.Bench.{Bench, Lending, bench_table, bench_problem}
use Rattle.group_step.specs.Group.{GroupSolved}
use Rattle.groups_solve.specs.Judged.{whole_tests, grouping_out}
use Rattle.groups_solve.specs.Solved.{BenchSolved, GroupsSolved}
use Rattle.renumbered.specs.Renumber.{Renumbering, InRange}
use Rattle.renumbered.specs.Lists.{LentJob, Long}
use Rattle.renumbered.proofs.Along.{along_at}
use Rattle.renumbered_groups.specs.Bench.{renumbered_bench, job_of}
use Rattle.renumbered_groups.specs.Claims.{same_numbers, BodyAlike, BenchAlike, GroupsAlike}
use Rattle.renumbered_groups.proofs.Together.{Renamed, same_groups, same_count, member_moved, apart_moved}
use Rattle.renumbered_groups.proofs.Whole.{whole_same, bench_renamed}
use Rattle.renumbered_groups.proofs.Group.{group_alike, placed_new}

-- the rows of a group, by numbers that agree
rows_of_same : (u v : List ℕ) (g n : ℕ) → ((i : ℕ) → i < n → get_or v i 0 ≡ get_or u i 0) → rows_of v g n ≡ rows_of u g n
unfolding rows_of
rows_of_same u v g zero e = refl
rows_of_same u v g (suc n) e = rw (rows_of_same u v g n (λ i h. e i (omega arith)), e n (omega arith))

centre_room : (kind : Kind) (bodies room k c : ℕ) → (kind ≡ kinds.Position → room ≡ 3 * bodies) → k < placed_of kind bodies → c < 3 → 3 * k + c < room
centre_room kinds.Position bodies room k c e h l = omega (arith, e refl)
centre_room kinds.Velocity bodies room k c e h l = absurd (omega arith)

-- where 3 passes
long_here : (fits : Bool) (j : LentJob) → Long fits j → fits ≡ true → Long true j
long_here fits j l e = subst (λ (f : Bool). Long f j) e l

module _ (p q : ℕ → ℕ) (b : Bench) (r : Renumbering b.bodies p q) (before after other after' : Lending) (inside : InRange (bench_table b before.table.numbers)) where
  module _ (long : Long true (job_of b before.table.numbers)) (count count' : ℕ) (x : BenchSolved b before after count) (y : BenchSolved (renumbered_bench p q b) (same_numbers before other) after' count') where
    renamed : Renamed p b.bodies b.rows (links_of (bench_table b before.table.numbers)) (links_of (bench_table (renumbered_bench p q b) before.table.numbers)) (joins_of (bench_table b before.table.numbers)) (joins_of (bench_table (renumbered_bench p q b) before.table.numbers))
    renamed = bench_renamed p q b before.table.numbers r inside long

    counts : count' ≡ count
    counts = same_count p q b.bodies b.rows _ _ _ _ r renamed after.groups after'.groups count count' x.grouped y.grouped

    groups : (i : ℕ) → i < b.rows → get_or after'.groups i 0 ≡ get_or after.groups i 0
    groups = same_groups p q b.bodies b.rows _ _ _ _ r renamed after.groups after'.groups count count' x.grouped y.grouped

    -- a body in no group
    apart_alike : (body : ℕ) → body < b.bodies → Apart (links_of (bench_table b before.table.numbers)) (joins_of (bench_table b before.table.numbers)) b.rows body → BodyAlike p b after after' body
    apart_alike body h a =
        let old = x.apart body h a in
        let new = y.apart (p body) (r.new_below body h) (apart_moved p q b.bodies b.rows _ _ _ _ r renamed body h a) in
        record {
          impulses = λ c l. new.impulses c l ∙ sym (old.impulses c l);
          centre = λ c n l. let (_, k) = placed_new p q b.kind b.bodies body r n in
              new.centre c k l ∙ along_at 3 q b.centres (p body) c {k = 3 * p body + c} {j = 3 * body + c} (centre_room b.kind b.bodies (length b.centres) (p body) c (long.centres_long refl) k l) (omega arith) (omega arith) (omega (arith, r.back body h)) ∙ sym (old.centre c n l);
        }

    -- a group: its rows are the same, and its bodies the same under their new numbers
    rows_same : (g : ℕ) → rows_of after'.groups g b.rows ≡ rows_of after.groups g b.rows
    rows_same g = rows_of_same after.groups after'.groups g b.rows groups

    pub bench_alike : BenchAlike p b before after after' count x
    bench_alike = record {
      groups = groups;
      each = λ g h. group_alike p q b r g (rows_of after.groups g b.rows) (record { at = (in_order after.groups g b.rows).below }) before after other after' inside long _ _ (x.each g h)
          (subst (λ (rows : List ℕ). GroupSolved (Member (links_of (bench_table (renumbered_bench p q b) before.table.numbers)) (joins_of (bench_table (renumbered_bench p q b) before.table.numbers)) b.rows after'.groups g) (renumbered_bench p q b) g rows (same_numbers before other) after') (rows_same g) (y.each g (omega (arith, counts))))
          (λ body l m. member_moved p q b.bodies b.rows _ _ _ _ r renamed after.groups after'.groups count count' x.grouped y.grouped g body l m);
      apart = apart_alike;
    }

  module _ (fits : Bool) (long : Long fits (job_of b before.table.numbers)) where
    -- 3 passes where there are groups
    fitted : (answer : Run ℕ ℕ) (count : ℕ) → GroupsSolved fits b before after answer → answer ≡ going count → fits ≡ true
    unfolding AllPass
    fitted answer count x e = ((judge_going (whole_tests fits (bench_problem b before.table.numbers))).0 (x.answered ∙ ap grouping_out e)).0

    answered : (answer answer' : Run ℕ ℕ) → GroupsSolved fits b before after answer → GroupsSolved fits (renumbered_bench p q b) (same_numbers before other) after' answer' → answer' ≡ answer
    answered answer answer' x y = go answer answer' x y (sym y.answered ∙ whole_same p q b before.table.numbers r inside fits (long_here fits (job_of b before.table.numbers) long) ∙ x.answered)
      where
        go : (a a' : Run ℕ ℕ) → GroupsSolved fits b before after a → GroupsSolved fits (renumbered_bench p q b) (same_numbers before other) after' a' → grouping_out a' ≡ grouping_out a → a' ≡ a
        go (going c) (going c') x y e = ap going (counts (long_here fits (job_of b before.table.numbers) long (fitted (going c) c x refl)) c c' (x.solved c refl) (y.solved c' refl))
        go (going c) (ended n') x y e = absurd (apart _ e refl)
        go (ended n) (going c') x y e = absurd (apart _ (sym e) refl)
        go (ended n) (ended n') x y e = ap ended (ended_inj e)

    pub groups_alike : (answer answer' : Run ℕ ℕ) (x : GroupsSolved fits b before after answer) → GroupsSolved fits (renumbered_bench p q b) (same_numbers before other) after' answer' → GroupsAlike p fits b before after after' answer answer' x
    groups_alike answer answer' x y = record {
      answered = answered answer answer' x y;
      solved = λ count e. bench_alike (long_here fits (job_of b before.table.numbers) long (fitted answer count x e)) count count (x.solved count e) (y.solved count (answered answer answer' x y ∙ e));
    }
