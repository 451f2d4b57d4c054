-- The rows of one group as a job of their own: the memory for it, and its text. Assumes nothing.
use Prim.Native.Nat.{ℕ, ◌≤◌}
use mathlib.Core.Path.{◌≡◌}
use mathlib.Core.List.{List}
use native.Mathlib.Omega.{arith}
use lib.ListN.{length}
use lib.Ieee.{Float, nan}
use Rattle.group_table.specs.Pick.{rows_of, pick_rows}
use Rattle.job_file.specs.Job.{job_with}
use Rattle.job_file.specs.declared.trailer.Trailer.{Trailer}
use Rattle.listing.specs.Written.{Wrote}
use Rattle.listing.proofs.Joined.{wrote_as, wrote_join}
use Rattle.job_sheet.specs.Sheet.{job_sheet}
use Rattle.job_sheet.specs.Room.{JobRoom}
use Rattle.job_sheet.specs.declared.which.Sheet.TheVariants as sheets
use Rattle.groups_sheet.specs.Text.{group_line, group_job, group_text, with_rows}
use Rattle.groups_sheet.specs.Bench.{BenchRoom, OwnRoom}
use Rattle.groups_sheet.proofs.Words.{rows_few}

-- the lent slices keep their lengths
pub bench_after : {t : Trailer} {numbers words masses centres groups numbers' words' masses' centres' groups' : ℕ} → BenchRoom t numbers words masses centres groups
    → numbers' ≡ numbers → words' ≡ words → masses' ≡ masses → centres' ≡ centres → groups' ≡ groups → BenchRoom t numbers' words' masses' centres' groups'
bench_after r a b c d e = rw (a, b, c, d, e) r

-- a group has at most as many rows as a file
pub count_few : {t : Trailer} {numbers words masses centres groups : ℕ} → BenchRoom t numbers words masses centres groups → (l : List ℕ) (g : ℕ) {count : ℕ} → count ≡ length (rows_of l g t.rows) → count ≤ 128
count_few {t} r l g e = let n = r.few_rows in let k = rows_few l g t.rows in omega arith

-- the group's rows have what a job of so many rows needs
pub own_room : {t own : Trailer} {count numbers words masses centres groups ownNumbers own_words solution impulses newCentres ownNumbers' ownWords' : ℕ}
    → BenchRoom t numbers words masses centres groups → OwnRoom count t.bodies ownNumbers own_words solution impulses newCentres → count ≤ t.rows → own ≡ with_rows t count → ownNumbers' ≡ ownNumbers → ownWords' ≡ own_words
    → JobRoom own ownNumbers' ownWords' masses centres solution impulses newCentres
own_room {t} {own} {count} r o few e f g =
    let rows = r.few_rows in
    rw (e, f, g) (record {
      few_rows = omega arith;
      few_bodies = r.few_bodies;
      mode_known = r.mode_known;
      numbers_long = o.numbers_long;
      words_long = o.words_long;
      masses_long = r.masses_long;
      centres_long = r.centres_long;
      solution_long = o.solution_long;
      impulses_long = o.impulses_long;
      new_centres_long = o.new_centres_long;
    })

module _ (t : Trailer) (numbers : List Float) (words : List ℕ) (masses centres : List Float) (g : ℕ) (rows : List ℕ) {count : ℕ} {own : Trailer} {ownNumbers : List Float} {own_words : List ℕ}
    (e : count ≡ length rows) (f : own ≡ with_rows t count) (p : ownNumbers ≡ pick_rows nan 27 rows numbers) (q : own_words ≡ pick_rows 0 8 rows words) where
  alone : job_sheet sheets.Job (job_with own ownNumbers own_words masses centres) ≡ job_sheet sheets.Job (group_job (job_with t numbers words masses centres) rows)
  alone = rw (f, e, p, q)

  -- the line, and behind it the sheet
  pub group_wrote : {out out₁ out₂ : List ℕ} {at end : ℕ} → Wrote out 0 (group_line g rows) out₁ at → Wrote out₁ at (job_sheet sheets.Job (job_with own ownNumbers own_words masses centres)) out₂ end → Wrote out 0 (group_text (job_with t numbers words masses centres) g rows) out₂ end
  unfolding group_text
  group_wrote w v = wrote_join w (wrote_as alone v)
