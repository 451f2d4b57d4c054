-- What is known of a job that passed 1 to 4, and of the memory lent for it.
use Rattle.std.specs.Prelude.{ℕ, ◌*◌, ◌≤◌, ◌≡◌}
use Rattle.job_file.specs.declared.trailer.Trailer.{Trailer}

-- the counts and the mode, and the lengths of numbers, words, masses, centres, solution, impulses and new centres
pub record JobRoom (t : Trailer) (numbers words masses centres solution impulses newCentres : ℕ) : Type 0 where
  pub few_rows : t.rows ≤ 128
  pub few_bodies : t.bodies ≤ 64
  pub mode_known : t.mode ≤ 2
  pub numbers_long : numbers ≡ 27 * t.rows
  pub words_long : words ≡ 8 * t.rows
  pub masses_long : masses ≡ 10 * t.bodies
  pub centres_long : centres ≡ 3 * t.bodies
  pub solution_long : solution ≡ t.rows
  pub impulses_long : impulses ≡ 6 * t.bodies
  pub new_centres_long : newCentres ≡ 3 * t.bodies

-- what the closing check takes of it
pub record CheckRoom (t : Trailer) (numbers words masses centres solution : ℕ) : Type 0 where
  pub few_rows : t.rows ≤ 128
  pub few_bodies : t.bodies ≤ 64
  pub numbers_long : numbers ≡ 27 * t.rows
  pub words_long : words ≡ 8 * t.rows
  pub masses_long : masses ≡ 10 * t.bodies
  pub centres_long : centres ≡ 3 * t.bodies
  pub solution_long : solution ≡ t.rows
