-- The rows of one group under new numbers: picking rows and renumbering their words may change places. Assumes nothing.
use Prim.Native.Nat.{ℕ, ◌+◌, ◌*◌, ◌/◌, ◌%◌, ◌<◌}
use mathlib.Core.Path.{◌≡◌, sym, ap, ◌∙◌}
use mathlib.Core.Bool.{true, cond, ◌||◌}
use mathlib.Core.List.{List}
use native.Mathlib.Omega.{arith}
use lib.Dec.{eqb}
use lib.ListN.{length, get_or}
use lib.Ieee.{Float}
use Rattle.loops.proofs.Tabulate.{get_d_tabulate}
use Rattle.kapitsa_joint.specs.Row.{words_of, row_of}
use Rattle.group_table.specs.Pick.{pick_rows}
use Rattle.group_table.proofs.Picks.{picked_list, pick_long}
use Rattle.group_step.specs.Bench.{Bench, bench_table}
use Rattle.renumbered.specs.Renumber.{InRange}
use Rattle.renumbered.specs.Lists.{table_in, Long, renumbered_words}
use Rattle.renumbered.proofs.Words.{words_kept, word_renumbered}
use Rattle.renumbered_groups.specs.Bench.{job_of, group_job}

-- the rows named are rows of a table
pub record Below (rows : List ℕ) (n : ℕ) : Type 0 where
  pub at : (k : ℕ) → k < length rows → get_or rows k 0 < n

-- word c of the row at place k
word_picked : (rows l : List ℕ) (k c : ℕ) → k < length rows → c < 8 → get_or (pick_rows 0 8 rows l) (8 * k + c) 0 ≡ get_or l (8 * get_or rows k 0 + c) 0
unfolding pick_rows
word_picked rows l k c h b =
    let d : (8 * k + c) / 8 ≡ k = omega arith in
    let m : (8 * k + c) % 8 ≡ c = omega arith in
    get_d_tabulate (λ p. get_or l (8 * get_or rows (p / 8) 0 + p % 8) 0) (8 * length rows) (8 * k + c) 0 (omega arith) ∙ rw (d, m)

module _ (p : ℕ → ℕ) (rows l : List ℕ) (n : ℕ) (below : Below rows n) (long : length l ≡ 8 * n) where
  pub pick_renumbered : pick_rows 0 8 rows (renumbered_words p l) ≡ renumbered_words p (pick_rows 0 8 rows l)
  pick_renumbered = sym (picked_list 0 8 rows (renumbered_words p l) (renumbered_words p (pick_rows 0 8 rows l)) (words_kept p (pick_rows 0 8 rows l) ∙ pick_long 0 8 rows l) at)
    where
      at : (k c : ℕ) → k < length rows → c < 8 → get_or (renumbered_words p (pick_rows 0 8 rows l)) (8 * k + c) 0 ≡ get_or (renumbered_words p l) (8 * get_or rows k 0 + c) 0
      at k c h b =
          word_renumbered p (pick_rows 0 8 rows l) c (8 * k + c) (omega (arith, pick_long 0 8 rows l)) (omega arith)
          ∙ ap (λ (x : ℕ). cond (eqb c 2 || eqb c 3) (p x) x) (word_picked rows l k c h b)
          ∙ sym (word_renumbered p l c (8 * get_or rows k 0 + c) (omega (arith, below.at k h)) (omega arith))

-- ---- of a bench
module _ (b : Bench) (numbers : List Float) (rows : List ℕ) (below : Below rows b.rows) where
  pub group_inside : InRange (bench_table b numbers) → InRange (table_in (group_job b numbers rows))
  unfolding row_of words_of
  group_inside inside = record {
    a_below = λ k h. rw (word_picked rows b.words k 2 h (omega arith)) (inside.a_below (get_or rows k 0) (below.at k h));
    b_below = λ k h. rw (word_picked rows b.words k 3 h (omega arith)) (inside.b_below (get_or rows k 0) (below.at k h));
  }

  pub group_long : Long true (job_of b numbers) → Long true (group_job b numbers rows)
  group_long l = record { words_long = λ e. pick_long 0 8 rows b.words; masses_long = l.masses_long; centres_long = l.centres_long }
