-- One group in two calls: its solve alone is that of its rows with their bodies under new numbers. Assumes nothing.
use Prim.Native.Nat.{ℕ, zero, suc, ◌+◌, ◌*◌, ◌<◌}
use mathlib.Core.Path.{◌≡◌, refl, sym, ap, subst, ◌∙◌}
use mathlib.Core.Bool.{true}
use mathlib.Core.List.{List}
use native.Mathlib.Omega.{arith}
use lib.ListN.{length, get_or}
use lib.Ieee.{Float, nan}
use Rattle.kapitsa_joint.specs.Centre.{Centres, centres_in, no_centres}
use Rattle.kapitsa_joint.specs.Kind.{by_kind, place_of, placed_of}
use Rattle.kapitsa_joint.specs.declared.kind.Kind.{Kind}
use Rattle.kapitsa_joint.specs.declared.kind.Kind.TheVariants as kinds
use Rattle.preconditioner.specs.Mode.{mode_of}
use Rattle.solve_method.specs.Position.{solve_for}
use Rattle.position_delivery.specs.Outcome.{Lent}
use Rattle.position_delivery.specs.declared.answer.PositionPcgResult.{PositionPcgResult}
use Rattle.own_memory.specs.Job.{JobSolved}
use Rattle.group_table.specs.Pick.{pick_rows}
use Rattle.group_step.specs.Bench.{Bench, Lending, bench_table, group_problem}
use Rattle.group_step.specs.Group.{lent_to, refusal_of, count_of, flag_of, linear_of, angular_of, GroupSolved}
use Rattle.renumbered.specs.Renumber.{Renumbering, InRange}
use Rattle.renumbered.specs.Moved.{moved_masses, moved_centres}
use Rattle.renumbered.specs.Lists.{Long}
use Rattle.renumbered.specs.Calls.{LentAlike, SolvedAlike}
use Rattle.renumbered.proofs.Along.{along_at}
use Rattle.renumbered.proofs.Lengths.{accepted_long}
use Rattle.renumbered.proofs.Calls.{jobs_alike}
use Rattle.renumbered_groups.specs.Bench.{renumbered_bench, job_of, group_job}
use Rattle.renumbered_groups.specs.Claims.{BodyAlike, AcceptedAlike, GroupAlike, same_numbers}
use Rattle.loops.specs.Run.{Run, going}
use Rattle.renumbered_groups.proofs.Picked.{Below, pick_renumbered, group_inside, group_long}

-- how many bodies have a centre
placed_bodies : (kind : Kind) (c : Centres) → (by_kind kind c no_centres).bodies ≡ placed_of kind c.bodies
placed_bodies kinds.Position c = refl
placed_bodies kinds.Velocity c = refl

-- a body that has one has one under its new number
pub placed_new : (p q : ℕ → ℕ) (kind : Kind) (bodies body : ℕ) → Renumbering bodies p q → body < placed_of kind bodies → (body < bodies) × (p body < placed_of kind bodies)
placed_new p q kinds.Position bodies body r h = (h, r.new_below body h)
placed_new p q kinds.Velocity bodies body r h = absurd (omega arith)

module _ (p q : ℕ → ℕ) (b : Bench) (r : Renumbering b.bodies p q) (g : ℕ) (rows : List ℕ) (below : Below rows b.rows) (before after other after' : Lending)
    (inside : InRange (bench_table b before.table.numbers)) (long : Long true (job_of b before.table.numbers)) (mine mine' : ℕ → Type 0)
    (x : GroupSolved mine b g rows before after) (y : GroupSolved mine' (renumbered_bench p q b) g rows (same_numbers before other) after') (move : (body : ℕ) → body < b.bodies → mine body → mine' (p body)) where
  -- what is lent to both solves alone, and what they leave
  abbrev lent : Lent
  lent = lent_to rows before.table before.table.impulses before.table.centres

  abbrev left : Lent
  left = lent_to rows after.table x.impulses x.centres

  abbrev lent' : Lent
  lent' = lent_to rows (same_numbers before other).table other.table.impulses other.table.centres

  abbrev left' : Lent
  left' = lent_to rows after'.table y.impulses y.centres

  alike : SolvedAlike q lent left lent' left' (pick_rows 0 1 rows before.rules) (pick_rows 0 1 rows after.rules) (pick_rows 0 1 rows other.rules) (pick_rows 0 1 rows after'.rules) x.answer y.answer
  alike =
      jobs_alike p q (group_job b before.table.numbers rows) r (group_inside b before.table.numbers rows below inside) true (group_long b before.table.numbers rows below long) b.shift (mode_of b.mode b.shift) b.limit (place_of b.kind) lent left lent' left' (pick_rows 0 1 rows before.rules) (pick_rows 0 1 rows after.rules) (pick_rows 0 1 rows other.rules) (pick_rows 0 1 rows after'.rules) x.answer y.answer x.solved
      (subst (λ (words : List ℕ). JobSolved true b.rules (solve_for b.kind (length rows) b.bodies (pick_rows nan 27 rows before.table.numbers) words (moved_masses q b.masses) (moved_centres q b.centres) (pick_rows nan 1 rows b.given) b.rules b.shift) (mode_of b.mode b.shift) b.limit (place_of b.kind) (length rows) lent' left' (pick_rows 0 1 rows other.rules) (pick_rows 0 1 rows after'.rules) y.answer)
      (pick_renumbered p rows b.words b.rows below (long.words_long refl)) y.solved)

  told : (c : ℕ) → c < 3 → get_or after'.answers (3 * g + c) 0 ≡ get_or after.answers (3 * g + c) 0
  told zero h = let e : 3 * g + 0 ≡ 3 * g = omega arith in rw e (y.told.refusal ∙ ap refusal_of alike.answered ∙ sym x.told.refusal)
  told (suc zero) h = y.told.count ∙ ap count_of alike.answered ∙ sym x.told.count
  told (suc (suc zero)) h = y.told.flag ∙ ap flag_of alike.answered ∙ sym x.told.flag
  told (suc (suc (suc c))) h = absurd (omega arith)

  module _ (a : PositionPcgResult) (e : x.answer ≡ going a) where
    same : LentAlike q left left'
    same = (alike.accepted a e refl).0

    lengths : (length x.impulses ≡ 6 * b.bodies) × (length x.centres ≡ 3 * placed_of b.kind b.bodies)
    lengths =
        let (i, c) = accepted_long true (group_problem b before.table.numbers rows) (mode_of b.mode b.shift) b.limit (place_of b.kind) (length rows) lent left x.answer a x.solved.means e in
        (i, c ∙ ap (λ n. 3 * n) (placed_bodies b.kind (centres_in b.bodies b.centres)))

    body_alike : (body : ℕ) → body < b.bodies → mine body → BodyAlike p b after after' body
    body_alike body h m = record {
      impulses = λ c l.
          y.impulses_put (p body) c (r.new_below body h) l (move body h m) ∙ ap (λ (z : List Float). get_or z (6 * p body + c) nan) same.impulses
          ∙ along_at 6 q x.impulses (p body) c {k = 6 * p body + c} {j = 6 * body + c} (omega (arith, lengths.0, r.new_below body h)) (omega arith) (omega arith) (omega (arith, r.back body h)) ∙ sym (x.impulses_put body c h l m);
      centre = λ c n l. let (i, k) = placed_new p q b.kind b.bodies body r n in
          y.centres_put (p body) c k l (move body h m) ∙ ap (λ (z : List Float). get_or z (3 * p body + c) nan) same.centres
          ∙ along_at 3 q x.centres (p body) c {k = 3 * p body + c} {j = 3 * body + c} (omega (arith, lengths.1, k)) (omega arith) (omega arith) (omega (arith, r.back body h)) ∙ sym (x.centres_put body c n l m);
    }

    accepted_alike : AcceptedAlike p b mine g rows after after'
    accepted_alike = record {
      numbers = same.numbers;
      solution = same.solution;
      rules = (alike.accepted a e refl).1;
      linear = y.told.linear ∙ ap (λ (z : Run PositionPcgResult ℕ). linear_of z (get_or other.maxima (2 * g) nan)) (alike.answered ∙ e) ∙ sym (x.told.linear ∙ ap (λ (z : Run PositionPcgResult ℕ). linear_of z (get_or before.maxima (2 * g) nan)) e);
      angular = y.told.angular ∙ ap (λ (z : Run PositionPcgResult ℕ). angular_of z (get_or other.maxima (2 * g + 1) nan)) (alike.answered ∙ e) ∙ sym (x.told.angular ∙ ap (λ (z : Run PositionPcgResult ℕ). angular_of z (get_or before.maxima (2 * g + 1) nan)) e);
      bodies = body_alike;
    }

  pub group_alike : GroupAlike p b mine g rows after after' x.answer
  group_alike = record { told = told; accepted = accepted_alike }
