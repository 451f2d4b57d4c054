-- What 1 to 3 have passed: `opened_file`. Assumes nothing.
use Prim.Native.Nat.{ℕ, ◌-◌, ◌≤◌}
use mathlib.Core.Path.{◌≡◌, refl}
use mathlib.Core.Bool.{true, ◌&&◌}
use mathlib.Core.List.{List}
use lib.Dec.{leb}
use lib.ListN.{length}
use borrow.Author.Tests.{leb-true}
use Rattle.loops.specs.Run.{going}
use Rattle.loops.proofs.Both.{both}
use Rattle.joint_refusals.specs.Counts.{table_counts_fit, counts_fit}
use Rattle.job_file.specs.File.{trailer_of}
use Rattle.job_file.specs.Refusals.{size_fits, limits_fit, apart, ends_fit, sections_fit, passes1, passes2, passes3}
use Rattle.job_file.specs.Job.{opened_of}
use Rattle.job_file.specs.declared.trailer.Trailer.{Trailer}
use Rattle.job_file.proofs.Judgement.{passed, rows_inside, masses_inside, spare_passed}
use Rattle.job_converter.specs.Opened.{Opened}

module _ (file : List ℕ) where
  pub long_file : passes1 file ≡ true → 48 ≤ length file
  unfolding passes1
  long_file h = let (l, _) = both (leb 48 (length file)) (size_fits (trailer_of file) (length file)) h in leb-true _ _ l

  pub few_counted : passes2 file ≡ true → ((trailer_of file).rows ≤ 128) × ((trailer_of file).bodies ≤ 64)
  unfolding passes2 sections_fit limits_fit
  few_counted h =
      let t = trailer_of file in
      let (a, _) = both (limits_fit t && apart t) (ends_fit t (length file - 48)) h in
      let (l, _) = both (limits_fit t) (apart t) a in
      let (r, b) = both (leb t.rows 128) (leb t.bodies 64) l in
      (leb-true _ _ r, leb-true _ _ b)

  mode_few : passes3 file ≡ true → (trailer_of file).mode ≤ 2
  unfolding passes3 counts_fit
  mode_few h = let t = trailer_of file in let (_, m) = both (table_counts_fit t.rows t.bodies) (leb t.mode 2) h in leb-true _ _ m

  pub opened_file : {t : Trailer} → going t ≡ opened_of file → Opened file t
  opened_file o =
      let p = passed file o refl in
      record {
        same = p.same;
        long = long_file p.one;
        few_rows = rw p.same (few_counted p.two).0;
        few_bodies = rw p.same (few_counted p.two).1;
        mode_known = rw p.same (mode_few p.three);
        spare_known = spare_passed file o refl;
        rows_inside = rows_inside file o refl;
        masses_inside = masses_inside file o refl;
      }
