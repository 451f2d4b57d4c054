-- What a job shows: the definition's outcome beside the recorded one.
use Rattle.std.specs.Prelude.{ℕ, ◌+◌, ◌*◌, ◌<◌, ◌≡◌, Bool, true, false, cond, ◌&&◌, List, leb, eqb, length, replicate, take, Float}
use Rattle.std.specs.Float.{binary64}
use Rattle.std.specs.Float.Ieee.{of_bits, to_bits}
use Rattle.kapitsa_joint.specs.Kind.{by_kind, place_of, placed_of}
use Rattle.kapitsa_joint.specs.declared.kind.Kind.{Kind}
use Rattle.kapitsa_joint.specs.declared.tolerance.JointTolerance.{JointTolerance}
use Rattle.rules.specs.Rules.{Rules, two_rules}
use Rattle.preconditioner.specs.Mode.{mode_of}
use Rattle.steps.specs.Solve.{solve}
use Rattle.loops.specs.Cleared.{plus_zero}
use Rattle.solve_method.specs.Position.{solve_for}
use Rattle.solve_method.specs.Method.{method_of}
use Rattle.position_delivery.specs.Outcome.{Lent, Outcome, outcome_at}
use Rattle.position_delivery.specs.declared.answer.PositionPcgResult.{PositionPcgResult}
use Rattle.own_memory.specs.Job.{job_fits}
use Rattle.packed_list.specs.Packed.{group_of}
use Rattle.solve_replay.specs.Job.{header_of, doubles_of, row_numbers, row_words}
use Rattle.solve_replay.specs.Compare.{same_doubles, kept_numbers, same_answers, unwritten_of}
use Rattle.solve_replay.specs.declared.header.Header.{Header}
use Rattle.loops.specs.Run.{Run, going, ended}
use Rattle.solve_replay.specs.declared.answer.Seen.{Seen}

-- the groups of a job with n rows and b bodies, each with the place after it
abbrev pub row_group : List ℕ → ℕ → ℕ → ℕ × List ℕ
row_group list at n = group_of list at 35 (replicate (35 * n) 0) n

abbrev pub mass_group : List ℕ → ℕ → ℕ → ℕ × List ℕ
mass_group list at b = group_of list at 10 (replicate (10 * b) 0) b

-- beside the table: of positions the centres as they come in, of velocities (document 02, a) the lent residual, a word a row
abbrev pub beside_size : Kind → ℕ → ℕ → ℕ
beside_size kind n b = by_kind kind (3 * b) n

abbrev pub beside_group : Kind → List ℕ → ℕ → ℕ → ℕ → ℕ × List ℕ
beside_group kind list at n b = by_kind kind (group_of list at 3 (replicate (3 * b) 0) b) (group_of list at 1 (replicate n 0) n)

-- the new centres of an accepted answer
abbrev pub centre_group : List ℕ → ℕ → ℕ → ℕ × List ℕ
centre_group list at b = group_of list at 3 (replicate (3 * b) 0) b

abbrev pub answer_group : List ℕ → ℕ → ℕ → ℕ × List ℕ
answer_group list at n = group_of list at 2 (replicate (2 * n) 0) n

abbrev pub impulse_group : List ℕ → ℕ → ℕ → ℕ × List ℕ
impulse_group list at b = group_of list at 6 (replicate (6 * b) 0) b

-- ---- the answer beside the recorded one
abbrev pub flag_of : Bool → ℕ
flag_of b = cond b 1 0

unfoldable pub same_result : Header → PositionPcgResult → Bool
same_result h r = (((eqb h.refusal 0 && eqb h.flag (flag_of r.converged)) && eqb h.count r.iterations) && eqb h.linear_maximum (to_bits binary64 r.linear_residual_m)) && eqb h.angular_maximum (to_bits binary64 r.angular_residual_rad)

-- `rows` are the words of the rows; the recorded solution, accumulated numbers, impulses and new centres, which velocities have none of, begin at `at`
unfoldable pub accepted_seen : Kind → List ℕ → ℕ → Header → List ℕ → PositionPcgResult → Lent → Seen
accepted_seen kind list at h rows r l =
    let a = answer_group list at h.rows in
    let b = impulse_group list a.0 h.bodies in
    let c = centre_group list b.0 (placed_of kind h.bodies) in
    record {
      outcome = 1 + flag_of r.converged;
      same = ((((same_result h r && same_answers (place_of kind) l.solution l.numbers a.1) && same_doubles l.impulses b.1) && same_doubles l.centres c.1) && kept_numbers (place_of kind) true l.numbers rows) && leb c.0 (length list);
      end = c.0;
    }

-- "After a refusal nothing is written"
unfoldable pub refused_seen : Kind → List ℕ → ℕ → Header → List ℕ → ℕ → Lent → Seen
refused_seen kind list at h rows number l =
    record { outcome = 0; same = ((((eqb h.refusal number && kept_numbers (place_of kind) false l.numbers rows) && unwritten_of l.solution) && unwritten_of l.impulses) && unwritten_of l.centres) && leb at (length list); end = at }

unfoldable pub outcome_seen : Kind → List ℕ → ℕ → Header → List ℕ → Run PositionPcgResult ℕ → Lent → Seen
outcome_seen kind list at h rows (going r) l = accepted_seen kind list at h rows r l
outcome_seen kind list at h rows (ended number) l = refused_seen kind list at h rows number l

-- ---- the job
abbrev pub tolerance_in : Header → JointTolerance
tolerance_in h = record { linear_m = of_bits binary64 h.linear_tolerance; angular_rad = of_bits binary64 h.angular_tolerance }

-- the centres are what is lent beside the table, of velocities none of it
abbrev pub centres_of : Kind → ℕ → List Float → List Float
centres_of kind b beside = take (3 * placed_of kind b) beside

-- the definition's outcome; `named` are the numbers lent for the rows' rules. As residual it gets all that is lent beside the table, which positions do not look at.
unfoldable pub solved_of : Kind → Header → Rules → ℕ → List ℕ → List Float → List Float → List Float → Lent → Outcome
solved_of kind h rules named words masses centres beside l =
    let fits = job_fits kind h.rows h.bodies h.mode (length l.numbers) (length words) (length masses) (length l.solution) (length l.impulses) (length centres) (length l.centres) (length rules.words) (length rules.tolerances) named (length beside) in
    outcome_at (place_of kind) h.rows l (solve (method_of fits (solve_for kind h.rows h.bodies l.numbers words masses centres beside rules plus_zero) (mode_of h.mode plus_zero)) h.limit)

-- `l` is what the solve writes into
unfoldable pub solved_seen : Kind → List ℕ → ℕ → Header → List ℕ → List ℕ → List Float → List Float → Lent → Seen
solved_seen kind list at h rows words masses beside l = let o = solved_of kind h (two_rules (tolerance_in h)) h.rows words masses (centres_of kind h.bodies beside) beside l in outcome_seen kind list at h rows o.answer o.lent

-- what takes the answer is lent as 0.5 throughout
abbrev pub marked : Float
marked = of_bits binary64 4602678819172646912

-- the table begins at `at`
unfoldable pub table_seen : Kind → List ℕ → ℕ → Header → Seen
table_seen kind list at h =
    let r = row_group list at h.rows in
    let m = mass_group list r.0 h.bodies in
    let c = beside_group kind list m.0 h.rows h.bodies in
    solved_seen kind list c.0 h r.1 (row_words r.1 (8 * h.rows)) (doubles_of m.1 (10 * h.bodies)) (doubles_of c.1 (beside_size kind h.rows h.bodies))
    (record { numbers = row_numbers r.1 (27 * h.rows); solution = replicate h.rows marked; impulses = replicate (6 * h.bodies) marked; centres = replicate (3 * placed_of kind h.bodies) marked })

-- no such job is recorded; the rest of the list is taken for it
abbrev pub malformed_in : List ℕ → Seen
malformed_in list = record { outcome = 0; same = false; end = length list }

unfoldable pub job_seen : Kind → List ℕ → ℕ → Seen
job_seen kind list at = let h = header_of list at in cond (leb h.rows 513 && leb h.bodies 257) (table_seen kind list (at + 64) h) (malformed_in list)

-- ---- the table, as it is read
pub record TableRead (kind : Kind) (list : List ℕ) (at n b end : ℕ) (rows : List ℕ) (numbers : List Float) (words : List ℕ) (masses beside : List Float) : Type 0 where
  pub ended : end ≡ (beside_group kind list (mass_group list (row_group list at n).0 b).0 n b).0
  pub rowed : rows ≡ (row_group list at n).1
  pub numbered : numbers ≡ row_numbers (row_group list at n).1 (27 * n)
  pub worded : words ≡ row_words (row_group list at n).1 (8 * n)
  pub massed : masses ≡ doubles_of (mass_group list (row_group list at n).0 b).1 (10 * b)
  pub placed : beside ≡ doubles_of (beside_group kind list (mass_group list (row_group list at n).0 b).0 n b).1 (beside_size kind n b)
  pub near : end < 3000000000
