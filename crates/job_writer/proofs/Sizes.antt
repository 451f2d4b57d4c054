-- The length of a file, in the old layout and in the new, and the whole of an output that has just this length. Assumes nothing.
use Prim.Native.Nat.{ℕ, ◌+◌, ◌*◌, ◌≤◌}
use mathlib.Core.Path.{◌≡◌, sym, ◌∙◌}
use mathlib.Core.Logic.{◌≢◌}
use mathlib.Core.List.{List}
use native.Mathlib.Omega.{arith}
use lib.ListN.{length}
use lib.Seq.{take_all}
use Rattle.listing.specs.Written.{Room, Wrote}
use Rattle.listing.proofs.Joined.{length_wrote, wrote_front}
use Rattle.job_writer.specs.declared.head.JobHead.{JobHead}
use Rattle.job_writer.specs.JobBits.{JobBits}
use Rattle.job_writer.specs.Written.{file_length, written_end, written}
use Rattle.job_writer.proofs.Places.{length_written}

pub old_length : (rows bodies layout : ℕ) → layout ≡ 0 → 248 * rows + 80 * bodies + 48 ≡ file_length rows bodies layout
old_length rows bodies layout e = rw e (omega arith)

pub new_length : (rows bodies layout : ℕ) → layout ≢ 0 → layout ≤ 1 → 248 * rows + 104 * bodies + 48 ≡ file_length rows bodies layout
new_length rows bodies layout n l = let e : layout ≡ 1 = omega arith in rw e (omega arith)

-- the file's length by another name
pub end_as : (h : JobHead) {m n : ℕ} → m ≡ n → written_end h m ≡ written_end h n
end_as h e = rw e

-- ---- an output of this length

module _ (job : JobBits) {out : List ℕ} (l : length out ≡ file_length job.head.rows job.head.bodies job.head.layout) where
  pub room_whole : Room out 0 (written job)
  room_whole = record { fits = let e = length_written job in omega arith }

  pub wrote_whole : {out' : List ℕ} {end : ℕ} → Wrote out 0 (written job) out' end → out' ≡ written job
  wrote_whole {out'} {end} w =
      let e = length_written job in
      let k = length_wrote w in
      let p = w.after in
      sym (take_all end out' (omega arith)) ∙ wrote_front w
