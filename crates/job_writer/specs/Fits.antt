-- A job that the writer takes, and what is lent for it.
use Rattle.std.specs.Prelude.{ℕ, ◌*◌, ◌<◌, ◌≤◌, ◌≡◌, true, List, length, get_or}
use Rattle.job_writer.specs.declared.head.JobHead.{JobHead}
use Rattle.job_writer.specs.JobBits.{JobBits}
use Rattle.job_writer.specs.Refusals.{words_fit}

-- numbers of 64 bits, and of 32
pub record Patterns (l : List ℕ) : Type 0 where
  pub below : (k : ℕ) → k < length l → get_or l k 0 < 18446744073709551616

pub record Halves (l : List ℕ) : Type 0 where
  pub below : (k : ℕ) → k < length l → get_or l k 0 < 4294967296

-- the numbers of a job as u32 and u64 hold them
pub record InRange (job : JobBits) : Type 0 where
  pub limit : job.head.limit < 4294967296
  pub linear : job.head.linear < 18446744073709551616
  pub angular : job.head.angular < 18446744073709551616
  pub numbers : Patterns job.numbers
  pub words : Halves job.words
  pub masses : Patterns job.masses
  pub centres : Patterns job.centres

-- such a job that refusals 2, 3, 4 and 24 let through
pub record Fits (job : JobBits) : Type 0 where
  pub in_range_lem : InRange job
  pub few_rows : job.head.rows ≤ 128
  pub few_bodies : job.head.bodies ≤ 64
  pub mode_known : job.head.mode ≤ 2
  pub layout_known : job.head.layout ≤ 1
  pub numbers_long : length job.numbers ≡ 27 * job.head.rows
  pub words_long : length job.words ≡ 8 * job.head.rows
  pub masses_long : length job.masses ≡ 10 * job.head.bodies
  pub centres_long : length job.centres ≡ 3 * job.head.bodies
  pub words_fit_lem : words_fit job.words job.head.rows ≡ true
  pub old_centres : job.head.layout ≡ 0 → (k : ℕ) → k < length job.centres → get_or job.centres k 0 ≡ 0

-- slices as long as the counts call for
pub record Lent (h : JobHead) (numbers words masses centres : List ℕ) : Type 0 where
  pub few_rows : h.rows ≤ 128
  pub few_bodies : h.bodies ≤ 64
  pub layout_known : h.layout ≤ 1
  pub numbers_long : length numbers ≡ 27 * h.rows
  pub words_long : length words ≡ 8 * h.rows
  pub masses_long : length masses ≡ 10 * h.bodies
  pub centres_long : length centres ≡ 3 * h.bodies
