-- How long a listing is: `listing_short`, at most 16,384 bytes at 128 rows and 64 bodies, `margins_short`, as many at 128 rows, `gaps_short`, as many at 128 rows, and `refused_short`, also with the place; hence `listing_room`, `margins_room`, `gaps_room` and `refused_room`. Assumes nothing.
use Prim.Native.Nat.{ℕ, zero, suc, ◌+◌, ◌*◌, ◌/◌, ◌%◌, ◌^◌, ◌<◌, ◌≤◌}
use mathlib.Core.Path.{◌≡◌, refl}
use mathlib.Core.Bool.{Bool, true, false, cond}
use mathlib.Core.List.{List, [], ◌∷◌, ◌++◌}
use native.Mathlib.Nat.{pow-succ'}
use native.Mathlib.Omega.{arith}
use lib.Dec.{leb, ltb, eqb}
use lib.ListN.{length, get_or, length-append}
use lib.Ieee.{Float, nan, le}
use borrow.Author.Tests.{ltb-true, ltb-false, eqb-true}
use Rattle.kapitsa_joint.specs.declared.maxima.Maxima.{Maxima}
use Rattle.listing.specs.Written.{Room, pieces}
use Rattle.listing.specs.Digits.{decimal_digit, decimal, hexadecimal, number, double, doubles}
use Rattle.listing.specs.Lines.{newline, solve_name, gap_name, none_name, carried_name, close_name, row_name, body_name, margin_name, solve_line, maxima_words, gap_line, no_gap_line, carried_line, close_line, row_line, centre_count, body_line, margin_line, measured_name, row_gap_line, refused_name, limit_name, refused_row_line, refused_body_line, refused_limit_line}
use Rattle.listing.specs.Listing.{flag_of, measured_line, head_lines, row_lines, body_lines, listing_of, margin_lines, margin_listing, row_gap, gap_lines, gap_listing, refused_listing}
use Rattle.listing.proofs.Decimal.{decimal_small, decimal_more}
use Rattle.listing.proofs.Names.{centre_most}

-- ---- numbers

-- a number below 10 ^ (k + 1) has at most k + 1 digits
decimal_long : (k n : ℕ) → n < 10 ^ k * 10 → length (decimal n) ≤ suc k
decimal_long zero n h = let l : n < 10 = omega arith in rw (decimal_small n l) (omega arith)
decimal_long (suc k) n h = go (ltb n 10) (ltb-true n 10) (ltb-false n 10) (λ l. decimal_long k (n / 10) (omega (arith, pow-succ' 10 k)))
  where
    go : (b : Bool) → (b ≡ true → n < 10) → (b ≡ false → 10 ≤ n) → (10 ≤ n → length (decimal (n / 10)) ≤ suc k) → length (decimal n) ≤ suc (suc k)
    go true f g r = rw (decimal_small n (f refl)) (omega arith)
    go false f g r = let l = r (g refl) in rw (decimal_more n (g refl)) (omega (arith, length-append (decimal (n / 10)) (decimal_digit (n % 10) ∷ [])))

pub number_short : (n : ℕ) → n < 4294967296 → length (number n) ≤ 11
unfolding number
number_short n h = let l = decimal_long 9 n (omega arith) in omega arith

pieces_short : (g : ℕ → List ℕ) (m n : ℕ) → ((i : ℕ) → i < n → length (g i) ≤ m) → length (pieces g n) ≤ n * m
unfolding pieces
pieces_short g m zero h = omega arith
pieces_short g m (suc n) h = let a = pieces_short g m n (λ i l. h i (omega arith)) in let b = h n (omega arith) in let e = length-append (pieces g n) (g n) in omega arith

pub double_long : (x : Float) → length (double x) ≡ 17
unfolding double hexadecimal pieces
double_long x = refl

doubles_short : (l : List Float) (first n : ℕ) → length (doubles l first n) ≤ n * 17
unfolding doubles
doubles_short l first n = pieces_short (λ k. double (get_or l (first + k) nan)) 17 n (λ k _. let e = double_long (get_or l (first + k) nan) in omega arith)

-- ---- lines

row_short : (i : ℕ) (x : Float) → i < 4294967296 → length (row_line i x) ≤ 32
unfolding row_line row_name
row_short i x h =
    let a = number_short i h in
    let b = double_long x in
    let c = length-append (row_name ++ number i) (double x) in
    let d = length-append row_name (number i) in
    let e = length-append (row_name ++ number i ++ double x) newline in
    omega arith

margin_short : (i : ℕ) (x : Float) → i < 4294967296 → length (margin_line i x) ≤ 35
unfolding margin_line margin_name
margin_short i x h =
    let a = number_short i h in
    let b = double_long x in
    let c = length-append (margin_name ++ number i) (double x) in
    let d = length-append margin_name (number i) in
    let e = length-append (margin_name ++ number i ++ double x) newline in
    omega arith

row_gap_short : (i owner : ℕ) (x tolerance : Float) (within : ℕ) → i < 4294967296 → owner < 4294967296 → within < 4294967296 → length (row_gap_line i owner x tolerance within) ≤ 76
unfolding row_gap_line measured_name
row_gap_short i owner x tolerance within h g k =
    let a = number_short i h in
    let b = number_short owner g in
    let c = number_short within k in
    let d = double_long x in
    let e = double_long tolerance in
    let p = measured_name ++ number i in
    let q = p ++ number owner in
    let r = q ++ double x in
    let s = r ++ double tolerance in
    let t = s ++ number within in
    omega (arith, length-append measured_name (number i), length-append p (number owner), length-append q (double x), length-append r (double tolerance), length-append s (number within), length-append t newline)

body_short : (b : ℕ) (impulses : List Float) (spare : ℕ) (centres : List Float) → b < 4294967296 → length (body_line b impulses spare centres) ≤ 169
unfolding body_line body_name
body_short b impulses spare centres h =
    let six = doubles impulses (6 * b) 6 in
    let three = doubles centres (3 * b) (centre_count spare) in
    let a = number_short b h in
    let i = doubles_short impulses (6 * b) 6 in
    let j = doubles_short centres (3 * b) (centre_count spare) in
    let m = centre_most spare in
    let c = length-append body_name (number b) in
    let d = length-append (body_name ++ number b) six in
    let e = length-append (body_name ++ number b ++ six) three in
    let f = length-append (body_name ++ number b ++ six ++ three) newline in
    omega arith

solve_short : (refusal count flag : ℕ) → refusal < 4294967296 → count < 4294967296 → flag < 4294967296 → length (solve_line refusal count flag) ≤ 39
unfolding solve_line solve_name
solve_short r n f h g k =
    let a = number_short r h in
    let b = number_short n g in
    let c = number_short f k in
    let d = length-append solve_name (number r) in
    let e = length-append (solve_name ++ number r) (number n) in
    let i = length-append (solve_name ++ number r ++ number n) (number f) in
    let j = length-append (solve_name ++ number r ++ number n ++ number f) newline in
    omega arith

maxima_long : (m : Maxima) → length (maxima_words m) ≡ 34
unfolding maxima_words
maxima_long m = omega (arith, double_long m.linear, double_long m.angular, length-append (double m.linear) (double m.angular))

gap_long : (m : Maxima) → length (gap_line m) ≡ 38
unfolding gap_line gap_name
gap_long m = omega (arith, maxima_long m, length-append gap_name (maxima_words m), length-append (gap_name ++ maxima_words m) newline)

carried_long : (m : Maxima) → length (carried_line m) ≡ 42
unfolding carried_line carried_name
carried_long m = omega (arith, maxima_long m, length-append carried_name (maxima_words m), length-append (carried_name ++ maxima_words m) newline)

measured_short : (verdict : ℕ) (m : Maxima) → length (measured_line verdict m) ≤ 38
unfolding measured_line
measured_short verdict m = go (leb verdict 1)
  where
    go : (b : Bool) → length (cond b (gap_line m) no_gap_line) ≤ 38
    go true = omega (arith, gap_long m)
    go false = unfold no_gap_line gap_name none_name in omega arith

close_short : (verdict : ℕ) → verdict < 4294967296 → length (close_line verdict) ≤ 17
unfolding close_line close_name
close_short v h =
    let a = number_short v h in
    let b = length-append close_name (number v) in
    let c = length-append (close_name ++ number v) newline in
    omega arith

-- ---- the whole

pub refused_short : (refusal : ℕ) → refusal < 4294967296 → length (refused_listing refusal) ≤ 39
unfolding refused_listing
refused_short r h = solve_short r 0 0 h (omega arith) (omega arith)

flag_small : (flag : Bool) → flag_of flag < 4294967296
flag_small true = omega arith
flag_small false = omega arith

head_short : (count : ℕ) (flag : Bool) (gap carried : Maxima) (verdict : ℕ) → count < 4294967296 → verdict < 4294967296 → length (head_lines count flag gap carried verdict) ≤ 136
unfolding head_lines
head_short count flag x y v h g =
    let s = solve_line 0 count (flag_of flag) in
    let p = measured_line v x in
    let q = carried_line y in
    let c = close_line v in
    let ls : length s ≤ 39 = solve_short 0 count (flag_of flag) (omega arith) h (flag_small flag) in
    let lp : length p ≤ 38 = measured_short v x in
    let lq : length q ≡ 42 = carried_long y in
    let lc : length c ≤ 17 = close_short v g in
    omega (arith, length-append s p, length-append (s ++ p) q, length-append (s ++ p ++ q) c)

pub listing_short : (count : ℕ) (flag : Bool) (gap carried : Maxima) (verdict rows bodies : ℕ) (numbers impulses : List Float) (spare : ℕ) (centres : List Float) → count < 4294967296 → verdict < 4294967296 → rows ≤ 128 → bodies ≤ 64
    → length (listing_of count flag gap carried verdict rows bodies numbers impulses spare centres) ≤ 16384
unfolding listing_of row_lines body_lines
listing_short count flag x y v rows bodies numbers impulses spare centres h g r b =
    let s = head_lines count flag x y v in
    let t = row_lines numbers rows in
    let u = body_lines impulses spare centres bodies in
    let ls : length s ≤ 136 = head_short count flag x y v h g in
    let lt : length t ≤ rows * 32 = pieces_short _ 32 rows (λ i l. row_short i _ (omega arith)) in
    let lu : length u ≤ bodies * 169 = pieces_short _ 169 bodies (λ i l. body_short i impulses spare centres (omega arith)) in
    omega (arith, length-append s t, length-append (s ++ t) u)

-- where the list is printed, each of its rows has a number of 32 bits
pub margins_short : (count : ℕ) (flag : Bool) (gap carried : Maxima) (verdict rows : ℕ) (margin_rows : List ℕ) (margins : List Float) → count < 4294967296 → verdict < 4294967296 → rows ≤ 128
    → (verdict ≡ 1 → (k : ℕ) → k < rows → get_or margin_rows k 0 < 4294967296) → length (margin_listing count flag gap carried verdict rows margin_rows margins) ≤ 16384
unfolding margin_listing margin_lines
margins_short count flag x y v rows margin_rows margins h g r b = go (eqb v 1) (eqb-true v 1)
  where
    s : List ℕ
    s = head_lines count flag x y v

    go : (d : Bool) → (d ≡ true → v ≡ 1) → length (s ++ cond d (margin_lines margin_rows margins rows) []) ≤ 16384
    go true e =
        let t = margin_lines margin_rows margins rows in
        let ls : length s ≤ 136 = head_short count flag x y v h g in
        let lt : length t ≤ rows * 35 = pieces_short _ 35 rows (λ k l. margin_short _ _ (b (e refl) k l)) in
        omega (arith, length-append s t)
    go false e = let ls : length s ≤ 136 = head_short count flag x y v h g in omega (arith, length-append s [])

-- where the numbers are printed, each row's owner is a number of 32 bits
pub gaps_short : (count : ℕ) (flag : Bool) (gap carried : Maxima) (verdict rows : ℕ) (words : List ℕ) (gaps : List Float) (rule_numbers : List ℕ) (tolerances : List Float) → count < 4294967296 → verdict < 4294967296 → rows ≤ 128
    → ((k : ℕ) → get_or words k 0 < 4294967296) → length (gap_listing count flag gap carried verdict rows words gaps rule_numbers tolerances) ≤ 16384
unfolding gap_listing gap_lines
gaps_short count flag x y v rows words gaps rule_numbers tolerances h g r b = go (leb v 1)
  where
    s : List ℕ
    s = head_lines count flag x y v

    flag_small : (b : Bool) → flag_of b < 4294967296
    flag_small true = omega arith
    flag_small false = omega arith

    go : (d : Bool) → length (s ++ cond d (gap_lines words gaps rule_numbers tolerances rows) []) ≤ 16384
    go true =
        let t = gap_lines words gaps rule_numbers tolerances rows in
        let ls : length s ≤ 136 = head_short count flag x y v h g in
        let lt : length t ≤ rows * 76 = pieces_short (row_gap words gaps rule_numbers tolerances) 76 rows (λ k l. let n = get_or gaps k nan in let limit = get_or tolerances (get_or rule_numbers k 0) nan in row_gap_short k (get_or words (8 * k + 6) 0) n limit (flag_of (le n limit)) (omega arith) (b (8 * k + 6)) (flag_small (le n limit))) in
        omega (arith, length-append s t)
    go false = let ls : length s ≤ 136 = head_short count flag x y v h g in omega (arith, length-append s [])

-- a refusal and its place
pub refused_row_short : (refusal i owner : ℕ) → refusal < 4294967296 → i < 4294967296 → owner < 4294967296 → length (refused_listing refusal ++ refused_row_line i owner) ≤ 73
unfolding refused_row_line refused_name row_name
refused_row_short refusal i owner h g k =
    let a = refused_short refusal h in
    let b = number_short i g in
    let c = number_short owner k in
    let p = refused_name ++ (32 ∷ row_name) in
    let q = p ++ number i in
    let r = q ++ number owner in
    omega (arith, length-append (refused_listing refusal) (refused_row_line i owner), length-append refused_name (32 ∷ row_name), length-append p (number i), length-append q (number owner), length-append r newline)

pub refused_body_short : (refusal b : ℕ) → refusal < 4294967296 → b < 4294967296 → length (refused_listing refusal ++ refused_body_line b) ≤ 63
unfolding refused_body_line refused_name body_name
refused_body_short refusal b h g =
    let a = refused_short refusal h in
    let c = number_short b g in
    let p = refused_name ++ (32 ∷ body_name) in
    let q = p ++ number b in
    omega (arith, length-append (refused_listing refusal) (refused_body_line b), length-append refused_name (32 ∷ body_name), length-append p (number b), length-append q newline)

pub refused_limit_short : (refusal : ℕ) → refusal < 4294967296 → length (refused_listing refusal ++ refused_limit_line) ≤ 53
unfolding refused_limit_line refused_name limit_name
refused_limit_short refusal h = let a = refused_short refusal h in omega (arith, length-append (refused_listing refusal) refused_limit_line)

-- ---- so there is room for it

pub refused_room : (out : List ℕ) (refusal : ℕ) → refusal < 4294967296 → 39 ≤ length out → Room out 0 (refused_listing refusal)
refused_room out r h l = let s = refused_short r h in record { fits = omega arith }

pub listing_room : (out : List ℕ) (count : ℕ) (flag : Bool) (gap carried : Maxima) (verdict rows bodies : ℕ) (numbers impulses : List Float) (spare : ℕ) (centres : List Float)
    → count < 4294967296 → verdict < 4294967296 → rows ≤ 128 → bodies ≤ 64 → 16384 ≤ length out → Room out 0 (listing_of count flag gap carried verdict rows bodies numbers impulses spare centres)
listing_room out count flag x y v rows bodies numbers impulses spare centres h g r b l = let s = listing_short count flag x y v rows bodies numbers impulses spare centres h g r b in record { fits = omega arith }

pub margins_room : (out : List ℕ) (count : ℕ) (flag : Bool) (gap carried : Maxima) (verdict rows : ℕ) (margin_rows : List ℕ) (margins : List Float)
    → count < 4294967296 → verdict < 4294967296 → rows ≤ 128 → (verdict ≡ 1 → (k : ℕ) → k < rows → get_or margin_rows k 0 < 4294967296) → 16384 ≤ length out → Room out 0 (margin_listing count flag gap carried verdict rows margin_rows margins)
margins_room out count flag x y v rows margin_rows margins h g r b l = let s = margins_short count flag x y v rows margin_rows margins h g r b in record { fits = omega arith }

pub gaps_room : (out : List ℕ) (count : ℕ) (flag : Bool) (gap carried : Maxima) (verdict rows : ℕ) (words : List ℕ) (gaps : List Float) (rule_numbers : List ℕ) (tolerances : List Float)
    → count < 4294967296 → verdict < 4294967296 → rows ≤ 128 → ((k : ℕ) → get_or words k 0 < 4294967296) → 16384 ≤ length out → Room out 0 (gap_listing count flag gap carried verdict rows words gaps rule_numbers tolerances)
gaps_room out count flag x y v rows words gaps rule_numbers tolerances h g r b l = let s = gaps_short count flag x y v rows words gaps rule_numbers tolerances h g r b in record { fits = omega arith }

pub short_room : (out text : List ℕ) {n : ℕ} → length text ≤ n → n ≤ length out → Room out 0 text
short_room out text h l = record { fits = omega arith }
