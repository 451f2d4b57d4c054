-- The names of the lines, the flag, the line of the gap, the count of centre numbers and whether there are margins, as the source writes them. Assumes nothing.
use Prim.Native.Nat.{ℕ, ◌+◌, ◌*◌, ◌<◌, ◌≤◌}
use mathlib.Core.Path.{◌≡◌, refl, sym}
use mathlib.Core.Bool.{Bool, true, false, cond}
use mathlib.Core.List.{List, [], ◌∷◌, ◌++◌, append-nil}
use mathlib.Core.Logic.{◌≢◌}
use native.Mathlib.Omega.{arith}
use lib.Dec.{leb, eqb}
use lib.ListN.{get_or}
use lib.Ieee.{Float, nan, le}
use borrow.Author.Tests.{le-leb, lt-leb, eq-eqb, ne_eqb}
use mir.Val.{bool_byte}
use Rattle.kapitsa_joint.specs.declared.maxima.Maxima.{Maxima}
use Rattle.listing.specs.Lines.{solve_line, gap_line, no_gap_line, solve_name, gap_name, none_name, carried_name, close_name, row_name, body_name, margin_name, measured_name, refused_name, limit_name, row_gap_line, centre_count, refused_limit_line}
use Rattle.listing.specs.Digits.{doubles}
use Rattle.listing.specs.Written.{Room}
use Rattle.listing.specs.Listing.{flag_of, measured_line, head_lines, margin_lines, margin_listing, row_gap, gap_lines, gap_listing}
use Rattle.listing.proofs.Joined.{room_first}

pub solve_name_lem : 115 ∷ 111 ∷ 108 ∷ 118 ∷ 101 ∷ [] ≡ solve_name
unfolding solve_name
solve_name_lem = refl

pub gap_name_lem : 103 ∷ 97 ∷ 112 ∷ [] ≡ gap_name
unfolding gap_name
gap_name_lem = refl

pub no_gap_text : 103 ∷ 97 ∷ 112 ∷ 32 ∷ 110 ∷ 111 ∷ 110 ∷ 101 ∷ 10 ∷ [] ≡ no_gap_line
unfolding no_gap_line gap_name none_name
no_gap_text = refl

pub carried_name_lem : 99 ∷ 97 ∷ 114 ∷ 114 ∷ 105 ∷ 101 ∷ 100 ∷ [] ≡ carried_name
unfolding carried_name
carried_name_lem = refl

pub close_name_lem : 99 ∷ 108 ∷ 111 ∷ 115 ∷ 101 ∷ [] ≡ close_name
unfolding close_name
close_name_lem = refl

pub row_name_lem : 114 ∷ 111 ∷ 119 ∷ [] ≡ row_name
unfolding row_name
row_name_lem = refl

pub body_name_lem : 98 ∷ 111 ∷ 100 ∷ 121 ∷ [] ≡ body_name
unfolding body_name
body_name_lem = refl

pub margin_name_lem : 109 ∷ 97 ∷ 114 ∷ 103 ∷ 105 ∷ 110 ∷ [] ≡ margin_name
unfolding margin_name
margin_name_lem = refl

pub measured_name_lem : 109 ∷ 101 ∷ 97 ∷ 115 ∷ 117 ∷ 114 ∷ 101 ∷ 100 ∷ [] ≡ measured_name
unfolding measured_name
measured_name_lem = refl

pub refused_row_text : 114 ∷ 101 ∷ 102 ∷ 117 ∷ 115 ∷ 101 ∷ 100 ∷ 32 ∷ 114 ∷ 111 ∷ 119 ∷ [] ≡ refused_name ++ (32 ∷ row_name)
unfolding refused_name row_name
refused_row_text = refl

pub refused_body_text : 114 ∷ 101 ∷ 102 ∷ 117 ∷ 115 ∷ 101 ∷ 100 ∷ 32 ∷ 98 ∷ 111 ∷ 100 ∷ 121 ∷ [] ≡ refused_name ++ (32 ∷ body_name)
unfolding refused_name body_name
refused_body_text = refl

pub refused_limit_text : 114 ∷ 101 ∷ 102 ∷ 117 ∷ 115 ∷ 101 ∷ 100 ∷ 32 ∷ 108 ∷ 105 ∷ 109 ∷ 105 ∷ 116 ∷ 10 ∷ [] ≡ refused_limit_line
unfolding refused_limit_line refused_name limit_name
refused_limit_text = refl

-- `flag as u32`
pub flag_line : (count : ℕ) (flag : Bool) → solve_line 0 count (bool_byte flag) ≡ solve_line 0 count (flag_of flag)
flag_line count true = refl
flag_line count false = refl

pub flag_byte : (flag : Bool) → bool_byte flag ≡ flag_of flag
flag_byte true = refl
flag_byte false = refl

-- `verdict <= 1`
module _ {verdict : ℕ} (gap : Maxima) where
  pub measured_gap : verdict ≤ 1 → gap_line gap ≡ measured_line verdict gap
  unfolding measured_line
  measured_gap h = rw (le-leb verdict 1 h)

  pub measured_none : 1 < verdict → no_gap_line ≡ measured_line verdict gap
  unfolding measured_line
  measured_none h = rw (lt-leb verdict 1 h)

-- `spare == 1`
module _ (spare : ℕ) where
  pub centre_three : spare ≡ 1 → 3 ≡ centre_count spare
  unfolding centre_count
  centre_three e = rw (eq-eqb spare 1 e)

  pub centre_none : spare ≢ 1 → 0 ≡ centre_count spare
  unfolding centre_count
  centre_none n = rw (ne_eqb spare 1 n)

  pub centre_most : centre_count spare ≤ 3
  unfolding centre_count
  centre_most = go (eqb spare 1)
    where
      go : (b : Bool) → cond b 3 0 ≤ 3
      go true = omega arith
      go false = omega arith

-- as many numbers by another name
pub doubles_as : (l : List Float) (first : ℕ) {m n : ℕ} → m ≡ n → doubles l first m ≡ doubles l first n
doubles_as l first e = rw e

-- `verdict != 1`
module _ (count : ℕ) (flag : Bool) (gap carried : Maxima) (verdict rows : ℕ) (margin_rows : List ℕ) (margins : List Float) where
  pub margins_some : verdict ≡ 1 → head_lines count flag gap carried verdict ++ margin_lines margin_rows margins rows ≡ margin_listing count flag gap carried verdict rows margin_rows margins
  unfolding margin_listing
  margins_some e = rw (eq-eqb verdict 1 e)

  pub margins_none : verdict ≢ 1 → head_lines count flag gap carried verdict ≡ margin_listing count flag gap carried verdict rows margin_rows margins
  unfolding margin_listing
  margins_none n = rw (ne_eqb verdict 1 n) (sym (append-nil (head_lines count flag gap carried verdict)))

  -- the first lines stand first, whatever follows
  pub margins_head : {out : List ℕ} → Room out 0 (margin_listing count flag gap carried verdict rows margin_rows margins) → Room out 0 (head_lines count flag gap carried verdict)
  unfolding margin_listing
  margins_head h = room_first (cond (eqb verdict 1) (margin_lines margin_rows margins rows) []) h

-- a row's line, by the flag that the code reads
pub row_gap_as : (words : List ℕ) (gaps : List Float) (rule_numbers : List ℕ) (tolerances : List Float) (i : ℕ)
    → let x = get_or gaps i nan in
    let tolerance = get_or tolerances (get_or rule_numbers i 0) nan in
    row_gap_line i (get_or words (8 * i + 6) 0) x tolerance (bool_byte (le x tolerance)) ≡ row_gap words gaps rule_numbers tolerances i
row_gap_as words gaps rule_numbers tolerances i = rw (flag_byte (le (get_or gaps i nan) (get_or tolerances (get_or rule_numbers i 0) nan)))

-- `1 < verdict`
module _ (count : ℕ) (flag : Bool) (gap carried : Maxima) (verdict rows : ℕ) (words : List ℕ) (gaps : List Float) (rule_numbers : List ℕ) (tolerances : List Float) where
  pub gaps_some : verdict ≤ 1 → head_lines count flag gap carried verdict ++ gap_lines words gaps rule_numbers tolerances rows ≡ gap_listing count flag gap carried verdict rows words gaps rule_numbers tolerances
  unfolding gap_listing
  gaps_some h = rw (le-leb verdict 1 h)

  pub gaps_none : 1 < verdict → head_lines count flag gap carried verdict ≡ gap_listing count flag gap carried verdict rows words gaps rule_numbers tolerances
  unfolding gap_listing
  gaps_none h = rw (lt-leb verdict 1 h) (sym (append-nil (head_lines count flag gap carried verdict)))

  pub gaps_head : {out : List ℕ} → Room out 0 (gap_listing count flag gap carried verdict rows words gaps rule_numbers tolerances) → Room out 0 (head_lines count flag gap carried verdict)
  unfolding gap_listing
  gaps_head h = room_first (cond (leb verdict 1) (gap_lines words gaps rule_numbers tolerances rows) []) h
