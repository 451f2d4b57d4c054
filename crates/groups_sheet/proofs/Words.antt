-- The lines of the groups program: their names, the words of a group's rows, and how long the lines are. Assumes nothing.
use Prim.Native.Nat.{ℕ, zero, suc, ◌+◌, ◌*◌, ◌/◌, ◌%◌, ◌<◌, ◌≤◌}
use mathlib.Core.Path.{◌≡◌, refl, sym, ap, ◌∙◌}
use mathlib.Core.Bool.{Bool, true, false, cond}
use mathlib.Core.List.{List, [], ◌∷◌, ◌++◌, append_assoc, append-nil}
use mathlib.Core.Logic.{◌≢◌}
use native.Mathlib.Omega.{arith}
use lib.Dec.{ltb, eqb}
use lib.ListN.{length, get_or, length-append}
use borrow.Author.Tests.{ltb-true, ltb-false, eq-eqb, ne_eqb}
use Rattle.group_table.specs.Pick.{rows_of}
use Rattle.listing.specs.Written.{Room, Wrote, pieces}
use Rattle.listing.specs.Digits.{decimal_digit, decimal, number}
use Rattle.listing.specs.Lines.{newline}
use Rattle.listing.proofs.Decimal.{decimal_small, decimal_more}
use Rattle.listing.proofs.Joined.{wrote_none}
use Rattle.listing.proofs.Length.{number_short}
use Rattle.groups_sheet.specs.Text.{groups_name, group_name, groups_line, row_word, row_words, group_line}

pub groups_name_lem : 103 ∷ 114 ∷ 111 ∷ 117 ∷ 112 ∷ 115 ∷ [] ≡ groups_name
unfolding groups_name
groups_name_lem = refl

pub group_name_lem : 103 ∷ 114 ∷ 111 ∷ 117 ∷ 112 ∷ [] ≡ group_name
unfolding group_name
group_name_lem = refl

-- ---- the words of the rows

-- w is i in 64 bits
module _ (groups : List ℕ) (g i : ℕ) {w : ℕ} (e : w ≡ i) where
  pub row_some : get_or groups w 0 ≡ g → number i ≡ row_word groups g i
  unfolding row_word
  row_some h = rw (eq-eqb (get_or groups i 0) g (rw (← e) h))

  row_none : get_or groups w 0 ≢ g → [] ≡ row_word groups g i
  unfolding row_word
  row_none n = rw (ne_eqb (get_or groups i 0) g (rw (← e) n))

  -- nothing is written of a row of another group
  pub row_left : {out : List ℕ} {at : ℕ} → get_or groups w 0 ≢ g → Room out at (row_word groups g i) → Wrote out at (row_word groups g i) out at
  row_left {out} {at} n h = rw (← row_none n) (wrote_none out at (let f = h.fits in omega arith))

words_join : (a b : List ℕ) → row_words (a ++ b) ≡ row_words a ++ row_words b
unfolding row_words
words_join [] b = refl
words_join (r ∷ a) b = ap (λ l. number r ++ l) (words_join a b) ∙ sym (append_assoc (number r) (row_words a) (row_words b))

-- row by row they are those of the group's list
pub words_pieces : (groups : List ℕ) (g n : ℕ) → pieces (row_word groups g) n ≡ row_words (rows_of groups g n)
unfolding pieces rows_of row_words row_word
words_pieces groups g zero = refl
words_pieces groups g (suc n) =
    ap (λ l. l ++ cond (eqb (get_or groups n 0) g) (number n) []) (words_pieces groups g n)
    ∙ ap (λ l. row_words (rows_of groups g n) ++ l) (go (eqb (get_or groups n 0) g))
    ∙ sym (words_join (rows_of groups g n) (cond (eqb (get_or groups n 0) g) (n ∷ []) []))
  where
    go : (b : Bool) → cond b (number n) [] ≡ row_words (cond b (n ∷ []) [])
    go true = sym (append-nil (number n))
    go false = refl

-- ---- lengths

decimal_step : (k n : ℕ) → (10 ≤ n → length (decimal (n / 10)) ≤ k) → length (decimal n) ≤ suc k
decimal_step k n r = go (ltb n 10) (ltb-true n 10) (ltb-false n 10)
  where
    go : (b : Bool) → (b ≡ true → n < 10) → (b ≡ false → 10 ≤ n) → length (decimal n) ≤ suc k
    go true f g = rw (decimal_small n (f refl)) (omega arith)
    go false f g = let l = r (g refl) in rw (decimal_more n (g refl)) (omega (arith, length-append (decimal (n / 10)) (decimal_digit (n % 10) ∷ [])))

-- the number of one of 1,000 rows has at most three digits
three_digits : (n : ℕ) → n < 1000 → length (decimal n) ≤ 3
three_digits n h = decimal_step 2 n (λ _. decimal_step 1 (n / 10) (λ _. let l : n / 10 / 10 < 10 = omega arith in rw (decimal_small (n / 10 / 10) l) (omega arith)))

word_short : (groups : List ℕ) (g n : ℕ) → n < 1000 → length (row_word groups g n) ≤ 4
unfolding row_word number
word_short groups g n h = go (eqb (get_or groups n 0) g)
  where
    go : (b : Bool) → length (cond b (32 ∷ decimal n) []) ≤ 4
    go true = let l = three_digits n h in omega arith
    go false = omega arith

words_short : (groups : List ℕ) (g n : ℕ) → n ≤ 1000 → length (pieces (row_word groups g) n) ≤ 4 * n
unfolding pieces
words_short groups g zero h = omega arith
words_short groups g (suc n) h =
    let a = words_short groups g n (omega arith) in
    let b = word_short groups g n (omega arith) in
    let e = length-append (pieces (row_word groups g) n) (row_word groups g n) in
    omega arith

-- a group has no more rows than there are
pub rows_few : (groups : List ℕ) (g n : ℕ) → length (rows_of groups g n) ≤ n
unfolding rows_of
rows_few groups g zero = omega arith
rows_few groups g (suc n) =
    let a = rows_few groups g n in
    let b = go (eqb (get_or groups n 0) g) in
    let e = length-append (rows_of groups g n) (cond (eqb (get_or groups n 0) g) (n ∷ []) []) in
    omega arith
  where
    go : (b : Bool) → length (cond b (n ∷ []) []) ≤ 1
    go true = omega arith
    go false = omega arith

group_short : (groups : List ℕ) (g n : ℕ) → g < 4294967296 → n ≤ 128 → length (group_line g (rows_of groups g n)) ≤ 640
unfolding group_line group_name
group_short groups g n h m =
    let rows = rows_of groups g n in
    let few = rows_few groups g n in
    let a : length (number g) ≤ 11 = number_short g h in
    let b : length (number (length rows)) ≤ 11 = number_short (length rows) (omega arith) in
    let w : length (row_words rows) ≤ 4 * n = rw (← words_pieces groups g n) (words_short groups g n (omega arith)) in
    let c = length-append group_name (number g) in
    let d = length-append (group_name ++ number g) (number (length rows)) in
    let e = length-append (group_name ++ number g ++ number (length rows)) (row_words rows) in
    let f = length-append (group_name ++ number g ++ number (length rows) ++ row_words rows) newline in
    omega arith

groups_short : (refusal count : ℕ) → refusal < 4294967296 → count < 4294967296 → length (groups_line refusal count) ≤ 64
unfolding groups_line groups_name
groups_short refusal count h k =
    let a = number_short refusal h in
    let b = number_short count k in
    let c = length-append groups_name (number refusal) in
    let d = length-append (groups_name ++ number refusal) (number count) in
    let e = length-append (groups_name ++ number refusal ++ number count) newline in
    omega arith

-- ---- so there is room for them

pub group_room : (out groups : List ℕ) (g n : ℕ) → g < 4294967296 → n ≤ 128 → 640 ≤ length out → Room out 0 (group_line g (rows_of groups g n))
group_room out groups g n h m l = let s = group_short groups g n h m in record { fits = omega arith }

pub groups_room : (out : List ℕ) (refusal count : ℕ) → refusal < 4294967296 → count < 4294967296 → 64 ≤ length out → Room out 0 (groups_line refusal count)
groups_room out refusal count h k l = let s = groups_short refusal count h k in record { fits = omega arith }

-- the sheet that follows has its room too
pub behind_room : (out out' groups : List ℕ) (g n at : ℕ) → g < 4294967296 → n ≤ 128 → 17024 ≤ length out → length out' ≡ length out → Wrote out 0 (group_line g (rows_of groups g n)) out' at → at + 16384 ≤ length out'
behind_room out out' groups g n at h m l e w = let s = group_short groups g n h m in let p = w.after in omega arith
