-- How long the parts of a written file are (`length_written`), and where they stand in it: `row_stands`, `mass_stands`, and each word of the trailer. Assumes nothing.
use Prim.Native.Nat.{ℕ, ◌+◌, ◌*◌, ◌<◌}
use mathlib.Core.Path.{◌≡◌, refl}
use mathlib.Core.List.{List, ◌++◌}
use native.Mathlib.Omega.{arith}
use lib.ListN.{length, length-append}
use Rattle.listing.specs.Written.{pieces}
use Rattle.job_file.specs.Layout.{mass_bytes, trailer_at}
use Rattle.job_writer.specs.declared.head.JobHead.{JobHead}
use Rattle.job_writer.specs.Bytes.{little}
use Rattle.job_writer.specs.JobBits.{JobBits}
use Rattle.job_writer.specs.Written.{trailer_place, file_length, written_row, written_mass, written_counts, written_end, written_trailer, written}
use Rattle.job_writer.proofs.Stands.{Stands, stands_whole, stands_left, stands_next, stands_piece, length_pieces, length_little, length_doubles, length_halves}

-- ---- lengths

length_row : (numbers words : List ℕ) (i : ℕ) → length (written_row numbers words i) ≡ 248
unfolding written_row
length_row numbers words i = simp (length-append, length_doubles, length_halves)

length_mass : (masses centres : List ℕ) (layout b : ℕ) → length (written_mass masses centres layout b) ≡ mass_bytes layout
unfolding written_mass
length_mass masses centres layout b = simp (length-append, length_doubles) (omega arith)

length_counts : (h : JobHead) → length (written_counts h) ≡ 16
unfolding written_counts
length_counts h = simp (length-append, length_little)

length_end : (h : JobHead) (bytes : ℕ) → length (written_end h bytes) ≡ 24
unfolding written_end
length_end h bytes = simp (length-append, length_little)

length_trailer : (h : JobHead) → length (written_trailer h) ≡ 48
unfolding written_trailer
length_trailer h = simp (length-append, length_counts, length_little, length_end)

module _ (job : JobBits) where
  length_rows : length (pieces (written_row job.numbers job.words) job.head.rows) ≡ 248 * job.head.rows
  length_rows = length_pieces (written_row job.numbers job.words) 248 (length_row job.numbers job.words) job.head.rows

  length_masses : length (pieces (written_mass job.masses job.centres job.head.layout) job.head.bodies) ≡ mass_bytes job.head.layout * job.head.bodies
  length_masses = length_pieces (written_mass job.masses job.centres job.head.layout) (mass_bytes job.head.layout) (length_mass job.masses job.centres job.head.layout) job.head.bodies

  pub length_written : length (written job) ≡ file_length job.head.rows job.head.bodies job.head.layout
  unfolding written
  length_written = simp (length-append, length_rows, length_masses, length_trailer)

  -- ---- the parts in the file

  pub row_stands : (i : ℕ) → i < job.head.rows → Stands (written job) (0 + 248 * i) (written_row job.numbers job.words i)
  unfolding written
  row_stands i h =
      stands_piece (written_row job.numbers job.words) 248 (length_row job.numbers job.words) job.head.rows i h (stands_left _ (stands_left _ (stands_whole (written job))))

  pub mass_stands : (b : ℕ) → b < job.head.bodies → Stands (written job) (248 * job.head.rows + mass_bytes job.head.layout * b) (written_mass job.masses job.centres job.head.layout b)
  unfolding written
  mass_stands b h =
      stands_piece (written_mass job.masses job.centres job.head.layout) (mass_bytes job.head.layout) (length_mass job.masses job.centres job.head.layout) job.head.bodies b h
      (stands_next (pieces (written_row job.numbers job.words) job.head.rows) (248 * job.head.rows) (248 * job.head.rows) length_rows (omega arith) (stands_left _ (stands_whole (written job))))

  pub trailer_stands : Stands (written job) (trailer_at (written job)) (written_trailer job.head)
  unfolding written
  trailer_stands =
      let l = length_written in
      stands_next
      (pieces (written_row job.numbers job.words) job.head.rows ++ pieces (written_mass job.masses job.centres job.head.layout) job.head.bodies)
      (trailer_place job.head.rows job.head.bodies job.head.layout)
      (trailer_at (written job))
      (simp (length-append, length_rows, length_masses))
      (omega arith)
      (stands_whole (written job))

-- ---- the trailer, wherever it stands

module _ {file : List ℕ} {at : ℕ} (h : JobHead) (s : Stands file at (written_trailer h)) where
  head_stands : Stands file at (written_counts h)
  unfolding written_trailer
  head_stands = stands_left _ (stands_left _ (stands_left _ s))

  end_stands : Stands file (at + 24) (written_end h (file_length h.rows h.bodies h.layout))
  unfolding written_trailer
  end_stands = stands_next (written_counts h ++ little 4 0 ++ little 4 (248 * h.rows)) 24 (at + 24) (simp (length-append, length_counts, length_little)) refl s

  pub rows_stand : Stands file at (little 4 h.rows)
  unfolding written_counts
  rows_stand = stands_left _ (stands_left _ (stands_left _ head_stands))

  pub bodies_stand : Stands file (at + 4) (little 4 h.bodies)
  unfolding written_counts
  bodies_stand = stands_next (little 4 h.rows) 4 (at + 4) (length_little 4 h.rows) refl (stands_left _ (stands_left _ head_stands))

  pub limit_stands : Stands file (at + 8) (little 4 h.limit)
  unfolding written_counts
  limit_stands = stands_next (little 4 h.rows ++ little 4 h.bodies) 8 (at + 8) (simp (length-append, length_little)) refl (stands_left _ head_stands)

  pub mode_stands : Stands file (at + 12) (little 4 h.mode)
  unfolding written_counts
  mode_stands = stands_next (little 4 h.rows ++ little 4 h.bodies ++ little 4 h.limit) 12 (at + 12) (simp (length-append, length_little)) refl head_stands

  pub row_offset_stands : Stands file (at + 16) (little 4 0)
  unfolding written_trailer
  row_offset_stands = stands_next (written_counts h) 16 (at + 16) (length_counts h) refl (stands_left _ (stands_left _ s))

  pub mass_offset_stands : Stands file (at + 20) (little 4 (248 * h.rows))
  unfolding written_trailer
  mass_offset_stands = stands_next (written_counts h ++ little 4 0) 20 (at + 20) (simp (length-append, length_counts, length_little)) refl (stands_left _ s)

  pub linear_stands : Stands file (at + 24) (little 8 h.linear)
  unfolding written_end
  linear_stands = stands_left _ (stands_left _ (stands_left _ end_stands))

  pub angular_stands : Stands file (at + 32) (little 8 h.angular)
  unfolding written_end
  angular_stands = stands_next (little 8 h.linear) 8 (at + 32) (length_little 8 h.linear) (omega arith) (stands_left _ (stands_left _ end_stands))

  pub length_stands : Stands file (at + 40) (little 4 (file_length h.rows h.bodies h.layout))
  unfolding written_end
  length_stands = stands_next (little 8 h.linear ++ little 8 h.angular) 16 (at + 40) (simp (length-append, length_little)) (omega arith) (stands_left _ end_stands)

  pub spare_stands : Stands file (at + 44) (little 4 h.layout)
  unfolding written_end
  spare_stands = stands_next (little 8 h.linear ++ little 8 h.angular ++ little 4 (file_length h.rows h.bodies h.layout)) 20 (at + 44) (simp (length-append, length_little)) (omega arith) end_stands
