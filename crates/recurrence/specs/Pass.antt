-- Mode 0's pass over the rows: of each its solution, residual, z and share of s, where those of the step before and its product stood. After all rows they are what `moved_of` and `with_diagonal` say (proofs/OnePass.antt).
use Rattle.std.specs.Prelude.{ℕ, Bool, ◌&&◌, List, get_or, set, Float}
use Rattle.std.specs.Float.{nan, binary64}
use Rattle.std.specs.Float.Ieee.{add, sub, mul, div}
use Rattle.std.specs.Float.Ieee.Scale.{finite}
use Rattle.recurrence.specs.declared.diagonal.Passed.{Passed}

pub record Pass : Type 0 where
  pub solution : List Float
  pub residual : List Float
  pub product : List Float
  pub all : Bool  -- whether the solution is finite so far
  pub sum : Float  -- residual · z so far

unfoldable pub row_of : Float → List Float → List Float → ℕ → Pass → Pass
row_of alpha direction diagonal i p =
    let x = add binary64 (get_or p.solution i nan) (mul binary64 alpha (get_or direction i nan)) in
    let r = sub binary64 (get_or p.residual i nan) (mul binary64 alpha (get_or p.product i nan)) in
    let z = div binary64 r (get_or diagonal i nan) in
    record { solution = set p.solution i x; residual = set p.residual i r; product = set p.product i z; all = p.all && finite x; sum = add binary64 p.sum (mul binary64 r z) }

-- what is told of the rows passed, and the lists as they stand
abbrev pub pass_out : Passed → List Float → List Float → List Float → Pass
pass_out t solution residual product = record { solution = solution; residual = residual; product = product; all = t.all; sum = t.sum }
