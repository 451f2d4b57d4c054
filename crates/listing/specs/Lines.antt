-- The lines of the listing, each ended by one newline.
use Rattle.std.specs.Prelude.{ℕ, ◌*◌, cond, List, [], ◌∷◌, ◌++◌, eqb, Float}
use Rattle.kapitsa_joint.specs.declared.maxima.Maxima.{Maxima}
use Rattle.listing.specs.Digits.{number, double, doubles}

-- ---- the names, in ASCII

-- "solve"
unfoldable pub solve_name : List ℕ
solve_name = 115 ∷ 111 ∷ 108 ∷ 118 ∷ 101 ∷ []

-- "gap"
unfoldable pub gap_name : List ℕ
gap_name = 103 ∷ 97 ∷ 112 ∷ []

-- "none"
unfoldable pub none_name : List ℕ
none_name = 110 ∷ 111 ∷ 110 ∷ 101 ∷ []

-- "carried"
unfoldable pub carried_name : List ℕ
carried_name = 99 ∷ 97 ∷ 114 ∷ 114 ∷ 105 ∷ 101 ∷ 100 ∷ []

-- "close"
unfoldable pub close_name : List ℕ
close_name = 99 ∷ 108 ∷ 111 ∷ 115 ∷ 101 ∷ []

-- "row"
unfoldable pub row_name : List ℕ
row_name = 114 ∷ 111 ∷ 119 ∷ []

-- "body"
unfoldable pub body_name : List ℕ
body_name = 98 ∷ 111 ∷ 100 ∷ 121 ∷ []

-- "margin"
unfoldable pub margin_name : List ℕ
margin_name = 109 ∷ 97 ∷ 114 ∷ 103 ∷ 105 ∷ 110 ∷ []

-- "measured"
unfoldable pub measured_name : List ℕ
measured_name = 109 ∷ 101 ∷ 97 ∷ 115 ∷ 117 ∷ 114 ∷ 101 ∷ 100 ∷ []

-- "refused"
unfoldable pub refused_name : List ℕ
refused_name = 114 ∷ 101 ∷ 102 ∷ 117 ∷ 115 ∷ 101 ∷ 100 ∷ []

-- "limit"
unfoldable pub limit_name : List ℕ
limit_name = 108 ∷ 105 ∷ 109 ∷ 105 ∷ 116 ∷ []

-- ---- the lines

abbrev pub newline : List ℕ
newline = 10 ∷ []

-- "refusal, count, flag"
unfoldable pub solve_line : ℕ → ℕ → ℕ → List ℕ
solve_line refusal count flag = solve_name ++ number refusal ++ number count ++ number flag ++ newline

-- two numbers, the linear one first
unfoldable pub maxima_words : Maxima → List ℕ
maxima_words m = double m.linear ++ double m.angular

-- document 02, h: "`gap` shows, for each dimension, the largest rounded |r| + E of the closing check, or the words `gap none` where the check gives 18"
unfoldable pub gap_line : Maxima → List ℕ
gap_line gap = gap_name ++ maxima_words gap ++ newline

unfoldable pub no_gap_line : List ℕ
no_gap_line = gap_name ++ (32 ∷ none_name) ++ newline

-- "The old two numbers move to a `carried` line straight after it": the solve's residuals
unfoldable pub carried_line : Maxima → List ℕ
carried_line carried = carried_name ++ maxima_words carried ++ newline

-- "verdict (0 open, 1 closed, 18)"
unfoldable pub close_line : ℕ → List ℕ
close_line verdict = close_name ++ number verdict ++ newline

-- "row and multiplier"
unfoldable pub row_line : ℕ → Float → List ℕ
row_line i multiplier = row_name ++ number i ++ double multiplier ++ newline

-- document 02, d: "For a file of spare 1 the program's body lines end with the three new centre numbers"
unfoldable pub centre_count : ℕ → ℕ
centre_count spare = cond (eqb spare 1) 3 0

-- "body and six impulses", and the centre
unfoldable pub body_line : ℕ → List Float → ℕ → List Float → List ℕ
body_line b impulses spare centres = body_name ++ number b ++ doubles impulses (6 * b) 6 ++ doubles centres (3 * b) (centre_count spare) ++ newline

-- document 02, m: "List each row with the smallest tolerance at which it still closes": row and number
unfoldable pub margin_line : ℕ → Float → List ℕ
margin_line i x = margin_name ++ number i ++ double x ++ newline

-- a row's measured number: row, owner, number, tolerance, and 1 where the number is within the tolerance, 0 where it is beyond
unfoldable pub row_gap_line : ℕ → ℕ → Float → Float → ℕ → List ℕ
row_gap_line i owner x tolerance within = measured_name ++ number i ++ number owner ++ double x ++ double tolerance ++ number within ++ newline

-- where a job was turned back: at a row, with its owner, at a body, or by the limit alone
unfoldable pub refused_row_line : ℕ → ℕ → List ℕ
refused_row_line i owner = refused_name ++ (32 ∷ row_name) ++ number i ++ number owner ++ newline

unfoldable pub refused_body_line : ℕ → List ℕ
refused_body_line b = refused_name ++ (32 ∷ body_name) ++ number b ++ newline

unfoldable pub refused_limit_line : List ℕ
refused_limit_line = refused_name ++ (32 ∷ limit_name) ++ newline
