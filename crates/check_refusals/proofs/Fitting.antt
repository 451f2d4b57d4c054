-- What refusal 3 tells once it has passed: the counts' limits and the lengths, as facts. Assumes nothing.
use Prim.Native.Nat.{ℕ, ◌*◌, ◌≤◌}
use mathlib.Core.Path.{◌≡◌}
use mathlib.Core.Bool.{true, ◌&&◌}
use lib.Dec.{leb, eqb}
use borrow.Author.Tests.{leb-true, eqb-true}
use Rattle.loops.proofs.Both.{both}
use Rattle.kapitsa_joint.specs.declared.kind.Kind.{Kind}
use Rattle.rules.specs.Rules.{rule_lengths_fit}
use Rattle.check_refusals.specs.Refusals.{beside_of, table_fits, given_fits, work_fits}
use Rattle.check_refusals.specs.declared.fit.TableLengths.{TableLengths}
use Rattle.check_refusals.specs.declared.fit.WorkLengths.{WorkLengths}

-- ---- what is given
pub record Given (kind : Kind) (n b : ℕ) (t : TableLengths) : Type 0 where
  pub rows : n ≤ 512
  pub bodies : b ≤ 256
  pub numbers : t.numbers ≡ 27 * n
  pub words : t.words ≡ 8 * n
  pub masses : t.masses ≡ 10 * b
  pub beside : t.beside ≡ beside_of kind n b
  pub multipliers : t.multipliers ≡ n
  pub rule_words : t.rule_words ≡ 3 * t.rule_tolerances
  pub rule_tolerances : t.rule_tolerances ≤ 64
  pub rule_numbers : t.rule_numbers ≡ n

pub given_of : (kind : Kind) (n b : ℕ) (t : TableLengths) → given_fits kind n b t ≡ true → Given kind n b t
unfolding given_fits table_fits rule_lengths_fit
given_of kind n b t h =
    let a1 = eqb t.numbers (27 * n) in
    let a2 = eqb t.words (8 * n) in
    let a3 = eqb t.masses (10 * b) in
    let a4 = eqb t.beside (beside_of kind n b) in
    let a5 = eqb t.multipliers n in
    let a6 = leb t.rule_tolerances 64 in
    let a7 = eqb t.rule_words (3 * t.rule_tolerances) in
    let a8 = eqb t.rule_numbers n in
    let (p, q) = both (leb n 512 && leb b 256) ((((((a1 && a2) && a3) && a4) && a5) && (a6 && a7)) && a8) h in
    let (r, s) = both (leb n 512) (leb b 256) p in
    let (q6, h8) = both (((((a1 && a2) && a3) && a4) && a5) && (a6 && a7)) a8 q in
    let (q5, h67) = both ((((a1 && a2) && a3) && a4) && a5) (a6 && a7) q6 in
    let (h6, h7) = both a6 a7 h67 in
    let (q4, h5) = both (((a1 && a2) && a3) && a4) a5 q5 in
    let (q3, h4) = both ((a1 && a2) && a3) a4 q4 in
    let (q2, h3) = both (a1 && a2) a3 q3 in
    let (h1, h2) = both a1 a2 q2 in
    record {
      rows = leb-true n 512 r;
      bodies = leb-true b 256 s;
      numbers = eqb-true t.numbers (27 * n) h1;
      words = eqb-true t.words (8 * n) h2;
      masses = eqb-true t.masses (10 * b) h3;
      beside = eqb-true t.beside (beside_of kind n b) h4;
      multipliers = eqb-true t.multipliers n h5;
      rule_words = eqb-true t.rule_words (3 * t.rule_tolerances) h7;
      rule_tolerances = leb-true t.rule_tolerances 64 h6;
      rule_numbers = eqb-true t.rule_numbers n h8;
    }

-- ---- the work memory
pub record WorkRoom (n b : ℕ) (w : WorkLengths) : Type 0 where
  pub impulses : w.impulses ≡ 6 * b
  pub size_impulses : w.size_impulses ≡ 6 * b
  pub values : w.values ≡ n
  pub sizes : w.sizes ≡ n

pub work_of : (n b : ℕ) (w : WorkLengths) → work_fits n b w ≡ true → WorkRoom n b w
unfolding work_fits
work_of n b w h =
    let b1 = eqb w.impulses (6 * b) in
    let b2 = eqb w.size_impulses (6 * b) in
    let b3 = eqb w.values n in
    let b4 = eqb w.sizes n in
    let (q3, k4) = both ((b1 && b2) && b3) b4 h in
    let (q2, k3) = both (b1 && b2) b3 q3 in
    let (k1, k2) = both b1 b2 q2 in
    record {
      impulses = eqb-true w.impulses (6 * b) k1;
      size_impulses = eqb-true w.size_impulses (6 * b) k2;
      values = eqb-true w.values n k3;
      sizes = eqb-true w.sizes n k4;
    }
