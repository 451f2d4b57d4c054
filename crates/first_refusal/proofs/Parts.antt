-- A row and a rule read out of their own part of the lent lists are those of the whole. Assumes nothing.
use Prim.Native.Nat.{ℕ, ◌+◌, ◌*◌, ◌<◌, ◌≤◌}
use mathlib.Core.Path.{◌≡◌, ap, ◌∙◌}
use mathlib.Core.List.{List}
use native.Mathlib.Omega.{arith}
use lib.Dec.{lit<}
use lib.ListN.{length, get_or, take, drop, length-drop}
use lib.Seq.{get_or-take, get_or-drop, length-take-le}
use lib.Ieee.{Float, nan}
use Rattle.loops.specs.Run.{check}
use Rattle.loops.specs.Every.{every}
use Rattle.kapitsa_math.specs.Lent.{vec_of}
use Rattle.kapitsa_joint.specs.Row.{scalars_of, words_of, row_of}
use Rattle.rules.specs.Rules.{rule_fits, passes27}
use Rattle.rules.specs.Rows.{rules_in}

-- number j of the part of n numbers from k on
part_at : {X : Type 0} (l : List X) (k n j m : ℕ) (d : X) → j < n → k + j ≡ m → get_or (take n (drop k l)) j d ≡ get_or l m d
part_at l k n j m d h e = get_or-take n (drop k l) j d h ∙ get_or-drop k l j d ∙ ap (λ (i : ℕ). get_or l i d) e

pub part_long : {X : Type 0} (n k : ℕ) (l : List X) {m : ℕ} → m ≡ n → k + n ≤ length l → length (take m (drop k l)) ≡ n
part_long n k l e h = rw e (length-take-le n (drop k l) (omega (arith, length-drop k l)))

pub rules_long : (words : List ℕ) (tolerances : List Float) (r : ℕ) {m k : ℕ} → m ≡ 3 → k ≡ 1 → 3 * r + 3 ≤ length words → r + 1 ≤ length tolerances → 3 * length (take k (drop r tolerances)) ≤ length (take m (drop (3 * r) words))
rules_long words tolerances r e f h l = omega (arith, part_long 3 (3 * r) words e h, part_long 1 r tolerances f l)

-- one row's numbers and words
pub numbers_long : (numbers : List Float) (i : ℕ) {m : ℕ} → m ≡ 27 → 27 * i + 27 ≤ length numbers → 27 ≤ length (take m (drop (27 * i) numbers))
numbers_long numbers i e h = omega (arith, part_long 27 (27 * i) numbers e h)

pub words_long : (words : List ℕ) (i : ℕ) {m : ℕ} → m ≡ 8 → 8 * i + 8 ≤ length words → 8 ≤ length (take m (drop (8 * i) words))
words_long words i e h = omega (arith, part_long 8 (8 * i) words e h)

pub row_alone : (numbers : List Float) (words : List ℕ) (i : ℕ) → row_of (take 27 (drop (27 * i) numbers)) (take 8 (drop (8 * i) words)) 0 ≡ row_of numbers words i
unfolding row_of vec_of scalars_of words_of
row_alone numbers words i =
    rw (
      part_at numbers (27 * i) 27 0 (27 * i) nan (lit< tt) (omega arith),
      part_at numbers (27 * i) 27 1 (27 * i + 1) nan (lit< tt) (omega arith),
      part_at numbers (27 * i) 27 2 (27 * i + 2) nan (lit< tt) (omega arith),
      part_at numbers (27 * i) 27 3 (27 * i + 3) nan (lit< tt) (omega arith),
      part_at numbers (27 * i) 27 4 (27 * i + 3 + 1) nan (lit< tt) (omega arith),
      part_at numbers (27 * i) 27 5 (27 * i + 3 + 2) nan (lit< tt) (omega arith),
      part_at numbers (27 * i) 27 6 (27 * i + 6) nan (lit< tt) (omega arith),
      part_at numbers (27 * i) 27 7 (27 * i + 6 + 1) nan (lit< tt) (omega arith),
      part_at numbers (27 * i) 27 8 (27 * i + 6 + 2) nan (lit< tt) (omega arith),
      part_at numbers (27 * i) 27 9 (27 * i + 9) nan (lit< tt) (omega arith),
      part_at numbers (27 * i) 27 10 (27 * i + 9 + 1) nan (lit< tt) (omega arith),
      part_at numbers (27 * i) 27 11 (27 * i + 9 + 2) nan (lit< tt) (omega arith),
      part_at numbers (27 * i) 27 12 (27 * i + 12) nan (lit< tt) (omega arith),
      part_at numbers (27 * i) 27 13 (27 * i + 12 + 1) nan (lit< tt) (omega arith),
      part_at numbers (27 * i) 27 14 (27 * i + 12 + 2) nan (lit< tt) (omega arith),
      part_at numbers (27 * i) 27 15 (27 * i + 15) nan (lit< tt) (omega arith),
      part_at numbers (27 * i) 27 16 (27 * i + 15 + 1) nan (lit< tt) (omega arith),
      part_at numbers (27 * i) 27 17 (27 * i + 15 + 2) nan (lit< tt) (omega arith),
      part_at numbers (27 * i) 27 18 (27 * i + 15 + 3) nan (lit< tt) (omega arith),
      part_at numbers (27 * i) 27 19 (27 * i + 15 + 4) nan (lit< tt) (omega arith),
      part_at numbers (27 * i) 27 20 (27 * i + 15 + 5) nan (lit< tt) (omega arith),
      part_at numbers (27 * i) 27 21 (27 * i + 15 + 6) nan (lit< tt) (omega arith),
      part_at numbers (27 * i) 27 22 (27 * i + 15 + 7) nan (lit< tt) (omega arith),
      part_at numbers (27 * i) 27 23 (27 * i + 15 + 8) nan (lit< tt) (omega arith),
      part_at numbers (27 * i) 27 24 (27 * i + 15 + 9) nan (lit< tt) (omega arith),
      part_at numbers (27 * i) 27 25 (27 * i + 15 + 10) nan (lit< tt) (omega arith),
      part_at numbers (27 * i) 27 26 (27 * i + 15 + 11) nan (lit< tt) (omega arith),
      part_at words (8 * i) 8 0 (8 * i) 0 (lit< tt) (omega arith),
      part_at words (8 * i) 8 1 (8 * i + 1) 0 (lit< tt) (omega arith),
      part_at words (8 * i) 8 2 (8 * i + 2) 0 (lit< tt) (omega arith),
      part_at words (8 * i) 8 3 (8 * i + 3) 0 (lit< tt) (omega arith),
      part_at words (8 * i) 8 4 (8 * i + 4) 0 (lit< tt) (omega arith),
      part_at words (8 * i) 8 5 (8 * i + 5) 0 (lit< tt) (omega arith),
      part_at words (8 * i) 8 6 (8 * i + 6) 0 (lit< tt) (omega arith),
      part_at words (8 * i) 8 7 (8 * i + 7) 0 (lit< tt) (omega arith),
    )

pub part_same : {X : Type 0} {m n : ℕ} (l : List X) → m ≡ n → take m l ≡ take n l
part_same l e = ap (λ (k : ℕ). take k l) e

pub rule_alone : (words : List ℕ) (tolerances : List Float) (r : ℕ) {m k : ℕ} → m ≡ 3 → k ≡ 1 → length (take 1 (drop r tolerances)) ≡ 1
    → passes27 (rules_in (take m (drop (3 * r) words)) (take k (drop r tolerances))) ≡ rule_fits (rules_in words tolerances) r
unfolding passes27 every rule_fits check
rule_alone words tolerances r e f long =
    rw (
      e,
      f,
      long,
      part_at words (3 * r) 3 0 (3 * r) 0 (lit< tt) (omega arith),
      part_at words (3 * r) 3 1 (3 * r + 1) 0 (lit< tt) (omega arith),
      part_at words (3 * r) 3 2 (3 * r + 2) 0 (lit< tt) (omega arith),
      part_at tolerances r 1 0 r nan (lit< tt) (omega arith),
    )
