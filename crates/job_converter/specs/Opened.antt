-- What is known of a file that has passed 1 to 3, and of the memory lent for its job of bits.
use Rattle.std.specs.Prelude.{ℕ, ◌*◌, ◌≤◌, ◌≡◌, List, length}
use Rattle.job_file.specs.Layout.{rows_end, masses_end}
use Rattle.job_file.specs.File.{trailer_of}
use Rattle.job_file.specs.declared.trailer.Trailer.{Trailer}

pub record Opened (file : List ℕ) (t : Trailer) : Type 0 where
  pub same : t ≡ trailer_of file
  pub long : 48 ≤ length file
  pub few_rows : t.rows ≤ 128
  pub few_bodies : t.bodies ≤ 64
  pub mode_known : t.mode ≤ 2
  pub spare_known : t.spare ≤ 1
  pub rows_inside : rows_end t.row_offset t.rows ≤ length file
  pub masses_inside : masses_end t.mass_offset t.spare t.bodies ≤ length file

-- the lengths of numbers, words, masses and centres
pub record BitsRoom (t : Trailer) (numbers words masses centres : ℕ) : Type 0 where
  pub numbers_long : numbers ≡ 27 * t.rows
  pub words_long : words ≡ 8 * t.rows
  pub masses_long : masses ≡ 10 * t.bodies
  pub centres_long : centres ≡ 3 * t.bodies
