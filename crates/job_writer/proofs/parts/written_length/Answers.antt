-- `job_writer::parts::written_length` meets its contract. Assumes nothing.
use Rattle.std.proofs.Common.{ℕ, ◌≡◌, true, false, ◌&&◌}
use lib.Dec.{leb}
use borrow.Author.Tests.{leb-true}
use Rattle.loops.proofs.Both.{both}
use Rattle.job_writer.specs.Written.{file_length, written_length}
use Rattle.job_writer.proofs.parts.written_length.Goals as goal

module _ (rows bodies layout : ℕ) where
  none : ((leb rows 128 && leb bodies 64) && leb layout 1) ≡ false → 0 ≡ written_length rows bodies layout
  unfolding written_length
  none e = rw e

  length_is : ((leb rows 128 && leb bodies 64) && leb layout 1) ≡ true → {n : ℕ} → n ≡ file_length rows bodies layout → n ≡ written_length rows bodies layout
  unfolding written_length
  length_is e h = rw e h

pub returns-then-not-few : goal.returns-then-not-few
returns-then-not-few c = none _ _ _ c.if-not-few.true

pub file_length-requires : goal.file_length-requires
file_length-requires c =
    let a = c.args in
    let (few, layout) = both (leb a.rows 128 && leb a.bodies 64) (leb a.layout 1) c.if-not-few.false in
    let (rows, bodies) = both (leb a.rows 128) (leb a.bodies 64) few in
    (leb-true _ _ rows, leb-true _ _ bodies, leb-true _ _ layout)

pub returns : goal.returns
returns c = length_is _ _ _ c.if-not-few.false c.file_length.ensures
