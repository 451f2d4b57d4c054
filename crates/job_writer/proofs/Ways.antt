-- The ways through the writer's tests, as the code takes them, and what a job that has passed is. Assumes nothing.
use Prim.Native.Nat.{ℕ, ◌*◌, ◌≤◌}
use mathlib.Core.Path.{◌≡◌, sym, ◌∙◌}
use mathlib.Core.Bool.{Bool, true, false, ◌&&◌}
use mathlib.Core.List.{List, [], ◌∷◌}
use lib.Dec.{leb, eqb}
use lib.ListN.{length}
use borrow.Author.Tests.{leb-true, eqb-true}
use Rattle.loops.specs.Run.{Run, going, ended, on, next, check}
use Rattle.loops.specs.Judge.{judge, test}
use Rattle.loops.proofs.Both.{both}
use Rattle.loops.proofs.Loop.{on_going, on_ended}
use Rattle.joint_refusals.specs.Counts.{counts_fit}
use Rattle.job_writer.specs.declared.head.JobHead.{JobHead}
use Rattle.job_writer.specs.Written.{file_length}
use Rattle.job_writer.specs.Fits.{Lent}
use Rattle.job_writer.specs.Refusals.{limits_fit, head_fits, lengths_fit, sizes_fit, Answers}

-- what an ended run answers
module _ {run : Run (List ℕ) ℕ} {out : List ℕ} where
  pub answers_refused : {n : ℕ} → run ≡ ended n → Answers run out (ended n) out
  answers_refused e = record { told = sym (on_ended run _ _ e); bytes = sym (on_ended run _ _ e) }

  pub answers_written : {file out' : List ℕ} → run ≡ going file → out' ≡ file → Answers run out (going tt) out'
  answers_written e w = record { told = sym (on_going run _ _ e); bytes = w ∙ sym (on_going run _ _ e) }

-- ---- 2, 3, 4, 24

module _ (a b c d : Bool) (file : List ℕ) where
  abbrev pub four : Run (List ℕ) ℕ
  four = next (judge ((2, a) ∷ (3, b) ∷ (4, c) ∷ (24, d) ∷ [])) (λ _. going file)

  pub way_2 : a ≡ false → four ≡ ended 2
  unfolding judge test check on
  way_2 p = rw p

  pub way_3 : a ≡ true → b ≡ false → four ≡ ended 3
  unfolding judge test check on
  way_3 p q = rw (p, q)

  pub way_4 : a ≡ true → b ≡ true → c ≡ false → four ≡ ended 4
  unfolding judge test check on
  way_4 p q r = rw (p, q, r)

  pub way_24 : a ≡ true → b ≡ true → c ≡ true → d ≡ false → four ≡ ended 24
  unfolding judge test check on
  way_24 p q r s = rw (p, q, r, s)

  pub way_written : a ≡ true → b ≡ true → c ≡ true → d ≡ true → four ≡ going file
  unfolding judge test check on
  way_written p q r s = rw (p, q, r, s)

-- ---- 2 and 3 have passed

pub few : (h : JobHead) → limits_fit h ≡ true → (h.rows ≤ 128) × (h.bodies ≤ 64)
unfolding limits_fit
few h p = let (r, b) = both (leb h.rows 128) (leb h.bodies 64) p in (leb-true _ 128 r, leb-true _ 64 b)

pub head_known : (h : JobHead) → head_fits h ≡ true → (h.mode ≤ 2) × (h.layout ≤ 1)
unfolding head_fits counts_fit
head_known h p =
    let (c, l) = both (counts_fit h.rows h.bodies h.mode) (leb h.layout 1) p in
    let (_, m) = both (leb h.rows 512 && leb h.bodies 256) (leb h.mode 2) c in
    (leb-true _ 2 m, leb-true _ 1 l)

module _ (h : JobHead) (n w m c o : ℕ) where
  pub sizes_head : head_fits h ≡ false → false ≡ sizes_fit h n w m c o
  unfolding sizes_fit
  sizes_head p = rw p

  pub sizes_lengths : head_fits h ≡ true → lengths_fit h n w m c o ≡ sizes_fit h n w m c o
  unfolding sizes_fit
  sizes_lengths p = rw p

  module _ (p : sizes_fit h n w m c o ≡ true) where
    pub sizes_both : (head_fits h ≡ true) × (lengths_fit h n w m c o ≡ true)
    unfolding sizes_fit
    sizes_both = both (head_fits h) (lengths_fit h n w m c o) p

    lengths : ((((eqb n (27 * h.rows) ≡ true) × (eqb w (8 * h.rows) ≡ true)) × (eqb m (10 * h.bodies) ≡ true)) × (eqb c (3 * h.bodies) ≡ true)) × (eqb o (file_length h.rows h.bodies h.layout) ≡ true)
    unfolding lengths_fit
    lengths =
        let two = eqb n (27 * h.rows) && eqb w (8 * h.rows) in
        let three = two && eqb m (10 * h.bodies) in
        let (f, x) = both (three && eqb c (3 * h.bodies)) (eqb o (file_length h.rows h.bodies h.layout)) sizes_both.1 in
        let (t, y) = both three (eqb c (3 * h.bodies)) f in
        let (u, z) = both two (eqb m (10 * h.bodies)) t in
        (((both (eqb n (27 * h.rows)) (eqb w (8 * h.rows)) u, z), y), x)

    pub words_long : w ≡ 8 * h.rows
    words_long = eqb-true _ _ lengths.0.0.0.1

    pub out_long : o ≡ file_length h.rows h.bodies h.layout
    out_long = eqb-true _ _ lengths.1

module _ (h : JobHead) (numbers words masses centres : List ℕ) (o : ℕ) where
  pub lent : limits_fit h ≡ true → sizes_fit h (length numbers) (length words) (length masses) (length centres) o ≡ true → Lent h numbers words masses centres
  lent p q =
      let l = (lengths h _ _ _ _ _ q).0 in
      record {
        few_rows = (few h p).0;
        few_bodies = (few h p).1;
        layout_known = (head_known h (sizes_both h _ _ _ _ _ q).0).1;
        numbers_long = eqb-true _ _ l.0.0.0;
        words_long = eqb-true _ _ l.0.0.1;
        masses_long = eqb-true _ _ l.0.1;
        centres_long = eqb-true _ _ l.1;
      }
