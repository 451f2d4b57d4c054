-- A job whose numbers are in range fits exactly where the writer's tests pass it: `passed_fits`, `fits_passed`. So `written_back` and `written_iff` hold of every job that `write_job` writes. Assumes nothing.
use Prim.Native.Nat.{ℕ, zero, suc, ◌<◌, ◌≤◌}
use mathlib.Core.Path.{◌≡◌, refl}
use mathlib.Core.Bool.{true, ◌||◌}
use mathlib.Core.List.{List}
use native.Mathlib.Omega.{arith}
use lib.Dec.{eqb}
use lib.ListN.{length, get_or}
use borrow.Author.Tests.{le-leb, eq-eqb, eqb-true}
use Rattle.loops.specs.Run.{going}
use Rattle.loops.specs.Judge.{judge, AllPass}
use Rattle.loops.specs.Every.{every}
use Rattle.loops.proofs.Loop.{on_going}
use Rattle.loops.proofs.Judge.{judge_going}
use Rattle.loops.proofs.Every.{every_iff}
use Rattle.joint_refusals.specs.Counts.{counts_fit}
use Rattle.job_writer.specs.JobBits.{JobBits}
use Rattle.job_writer.specs.Written.{file_length, written}
use Rattle.job_writer.specs.Fits.{InRange, Fits}
use Rattle.job_writer.specs.Refusals.{limits_fit, head_fits, lengths_fit, sizes_fit, centres_fit, tests, written_of}
use Rattle.job_writer.proofs.Judged.{all_true}
use Rattle.job_writer.proofs.Ways.{lent, head_known, sizes_both}

-- 24 passes exactly where the layout is new or the centres are +0.0
module _ (centres : List ℕ) (layout : ℕ) where
  pub centres_zero : centres_fit centres layout ≡ true → layout ≡ 0 → (k : ℕ) → k < length centres → get_or centres k 0 ≡ 0
  unfolding centres_fit
  centres_zero h e k l = eqb-true (get_or centres k 0) 0 ((every_iff (λ k. eqb (get_or centres k 0) 0) (length centres)).0 (rw e at h) k l)

  pub zero_centres : layout ≤ 1 → (layout ≡ 0 → (k : ℕ) → k < length centres → get_or centres k 0 ≡ 0) → centres_fit centres layout ≡ true
  unfolding centres_fit
  zero_centres h z = go layout refl
    where
      go : (l : ℕ) → layout ≡ l → (eqb layout 1 || every (λ k. eqb (get_or centres k 0) 0) (length centres)) ≡ true
      go zero e = rw e ((every_iff (λ k. eqb (get_or centres k 0) 0) (length centres)).1 (λ k l. eq-eqb _ 0 (z e k l)))
      go (suc zero) e = rw e
      go (suc (suc n)) e = absurd (omega arith)

pub passed_fits : (job : JobBits) (out : ℕ) → InRange job → judge (tests job out) ≡ going tt → Fits job
unfolding AllPass
passed_fits job out r h =
    let (two, (three, (four, (last, _)))) = (judge_going (tests job out)).0 h in
    let l = lent job.head job.numbers job.words job.masses job.centres out two three in
    record {
      in_range_lem = r;
      few_rows = l.few_rows;
      few_bodies = l.few_bodies;
      mode_known = (head_known job.head (sizes_both job.head _ _ _ _ _ three).0).0;
      layout_known = l.layout_known;
      numbers_long = l.numbers_long;
      words_long = l.words_long;
      masses_long = l.masses_long;
      centres_long = l.centres_long;
      words_fit_lem = four;
      old_centres = centres_zero job.centres job.head.layout last;
    }

module _ (job : JobBits) (f : Fits job) where
  pub fits_passed : judge (tests job (file_length job.head.rows job.head.bodies job.head.layout)) ≡ going tt
  unfolding AllPass limits_fit sizes_fit head_fits counts_fit lengths_fit
  fits_passed =
      let r = f.few_rows in
      let b = f.few_bodies in
      let h = job.head in
      let two = all_true (le-leb h.rows 128 r) (le-leb h.bodies 64 b) in
      let counts = all_true (all_true (le-leb h.rows 512 (omega arith)) (le-leb h.bodies 256 (omega arith))) (le-leb h.mode 2 f.mode_known) in
      let table = all_true (all_true (eq-eqb _ _ f.numbers_long) (eq-eqb _ _ f.words_long)) (eq-eqb _ _ f.masses_long) in
      let lengths = all_true (all_true table (eq-eqb _ _ f.centres_long)) (eq-eqb (file_length h.rows h.bodies h.layout) _ refl) in
      (judge_going (tests job (file_length h.rows h.bodies h.layout))).1
      (two, (all_true (all_true counts (le-leb h.layout 1 f.layout_known)) lengths, (f.words_fit_lem, (zero_centres job.centres h.layout f.layout_known f.old_centres, tt))))

  -- the writer writes it
  pub fits_written : written_of job (file_length job.head.rows job.head.bodies job.head.layout) ≡ going (written job)
  unfolding written_of
  fits_written = on_going _ _ _ fits_passed
