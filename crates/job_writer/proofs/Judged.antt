-- Refusals 1 to 4 of the reader pass a written file (`written_judged`), so that it holds a job (`written_job`). Assumes nothing.
use Prim.Native.Nat.{◌*◌}
use mathlib.Core.Path.{◌≡◌, refl, sym, ap, ◌∙◌}
use mathlib.Core.Bool.{Bool, true, false, ◌&&◌, ◌||◌}
use native.Mathlib.Omega.{arith}
use lib.Dec.{leb, eqb}
use lib.ListN.{length}
use borrow.Author.Tests.{le-leb, eq-eqb}
use Rattle.loops.specs.Run.{going}
use Rattle.loops.specs.Judge.{AllPass}
use Rattle.loops.proofs.Loop.{on_going}
use Rattle.loops.proofs.Judge.{judge_going}
use Rattle.loops.proofs.Every.{every_same}
use Rattle.kapitsa_joint.specs.Row.{words_of}
use Rattle.joint_refusals.specs.Counts.{counts_fit}
use Rattle.joint_refusals.specs.Refusals.{words_fit_of}
use Rattle.job_file.specs.Layout.{rows_end, masses_end, trailer_at}
use Rattle.job_file.specs.File.{trailer_of}
use Rattle.job_file.specs.Refusals.{size_fits, limits_fit, apart, ends_fit, sections_fit, keys_fit, passes1, passes2, passes3, passes4}
use Rattle.job_file.specs.Job.{job_with, file_numbers, file_words, file_masses, file_centres, job_of, answer_of, judged_of, tests}
use Rattle.job_file.proofs.Meaning.{passed_job}
use Rattle.job_file.proofs.Rows.{words_at}
use Rattle.job_writer.specs.JobBits.{JobBits}
use Rattle.job_writer.specs.Written.{written}
use Rattle.job_writer.specs.Fits.{Fits}
use Rattle.job_writer.proofs.Places.{length_written}
use Rattle.job_writer.proofs.Back.{written_short, trailer_written, trailer_back, words_back}

pub all_true : {a b : Bool} → a ≡ true → b ≡ true → (a && b) ≡ true
all_true p q = rw (p, q)

or_true : (a : Bool) {b : Bool} → b ≡ true → (a || b) ≡ true
or_true true p = refl
or_true false p = p

or_first : {a : Bool} (b : Bool) → a ≡ true → (a || b) ≡ true
or_first b p = rw p

module _ (job : JobBits) (f : Fits job) where
  pub written_1 : passes1 (written job) ≡ true
  unfolding passes1 size_fits
  written_1 =
      let l = length_written job in
      let s = written_short job f in
      rw (trailer_back job f) (all_true (le-leb 48 (length (written job)) (omega arith)) (all_true (all_true (le-leb (length (written job)) 65536 (omega arith)) (eq-eqb (length (written job)) (length (written job)) refl)) (le-leb job.head.layout 1 f.layout_known)))

  pub written_2 : passes2 (written job) ≡ true
  unfolding passes2 sections_fit limits_fit apart ends_fit
  written_2 =
      let l = length_written job in
      let rows = job.head.rows in
      let end = rows_end 0 rows in
      let masses = masses_end (248 * rows) job.head.layout job.head.bodies in
      let limits = all_true (le-leb rows 128 f.few_rows) (le-leb job.head.bodies 64 f.few_bodies) in
      let after = or_first (leb masses 0) (or_true (eqb rows 0 || eqb job.head.bodies 0) (le-leb end (248 * rows) (omega arith))) in
      let inside = all_true (le-leb end (trailer_at (written job)) (omega arith)) (le-leb masses (trailer_at (written job)) (omega arith)) in
      rw (trailer_back job f) (all_true (all_true limits after) inside)

  pub written_3 : passes3 (written job) ≡ true
  unfolding passes3 counts_fit
  written_3 =
      let r = f.few_rows in
      let b = f.few_bodies in
      rw (trailer_back job f) (all_true (all_true (le-leb job.head.rows 512 (omega arith)) (le-leb job.head.bodies 256 (omega arith))) (le-leb job.head.mode 2 f.mode_known))

  pub written_4 : passes4 (written job) ≡ true
  unfolding passes4 keys_fit
  written_4 =
      rw (trailer_back job f) (every_same _ _ job.head.rows (λ i h. ap words_fit_of (sym (words_at (written job) 0 job.head.rows i h) ∙ ap (λ w. words_of w (8 * i)) (words_back job f))) ∙ f.words_fit_lem)

  pub written_judged : judged_of (written job) ≡ going (trailer_of (written job))
  unfolding judged_of answer_of AllPass
  written_judged = on_going _ _ _ ((judge_going (tests (written job))).1 (written_1, (written_2, (written_3, (written_4, tt)))))

  pub written_job : job_of (written job) ≡ going (job_with (trailer_written job f) (file_numbers (written job)) (file_words (written job)) (file_masses (written job)) (file_centres (written job)))
  written_job = passed_job (written job) written_judged ∙ ap (λ t. going (job_with t (file_numbers (written job)) (file_words (written job)) (file_masses (written job)) (file_centres (written job)))) (trailer_back job f)
