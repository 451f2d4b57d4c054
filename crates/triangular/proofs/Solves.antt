-- The ways through the functions of the triangular solves. Assumes nothing.
use Prim.Native.Nat.{ℕ, ◌-◌, ◌<◌, ◌≤◌}
use mathlib.Core.Path.{◌≡◌, refl, ◌∙◌}
use mathlib.Core.Bool.{Bool, true, false, not}
use mathlib.Core.List.{List}
use lib.ListN.{get_or, set, length}
use lib.Ieee.{Float, nan, binary64, sub, mul, div}
use lib.Ieee.Scale.{finite}
use Rattle.std.specs.Prelude.{Result, Ok, Err}
use Rattle.loops.specs.Run.{Run, going, ended, on}
use Rattle.loops.proofs.Loop.{check_pass, check_fail}
use Rattle.sparse.specs.Count.{count}
use Rattle.sparse.specs.Triangle.{Sparse}
use Rattle.sparse.specs.Cholesky.{less}
use Rattle.triangular.specs.Triangular.{transposed, along_turn, written, forward_turn, forward_run, backward_of, backward_turn, backward_run, solve_run, or_sixteen}
use Rattle.sparse.specs.Kept.{Row, numbers}
use Rattle.triangular.specs.Column.{place_at, home_at}
use Rattle.triangular.specs.Index.{Spread}
use Rattle.triangular.specs.Answers.{solve_out, solved_out}
use Rattle.triangular.specs.declared.substitution.Overflow.{Overflow}
use Rattle.sparse.proofs.Hop.{plain, Skips}
use Rattle.sparse.proofs.Rows.{numbers_some, numbers_none}
use Rattle.triangular.proofs.Homes.{homes, home_at_lem}
use Rattle.triangular.proofs.Down.{down_some, down_none}

module _ {starts columns : List ℕ} {i a b : ℕ} (row : Row starts columns i a b) where
  pub along_skip : (values y : List Float) (v : Float) → Skips (plain (along_turn (numbers starts columns values i) y)) columns a b v
  unfolding plain along_turn less
  along_skip values y v = record { skip = λ k m. rw (numbers_none row values k m) }

  pub along_way : (values y : List Float) (p k : ℕ) (v x : Float) → x ≡ get_or values p nan → k ≡ get_or columns p 0 → a ≤ p → p < b
      → plain (along_turn (numbers starts columns values i) y) (get_or columns p 0) v ≡ going (sub binary64 v (mul binary64 x (get_or y k nan)))
  unfolding plain along_turn less
  along_way values y p k v x ex ek p1 p2 = rw (numbers_some row values p p1 p2, ex, ek)

-- the two ways to write a quotient
module _ (y : List Float) (i : ℕ) (x : Float) (t : Bool) (et : t ≡ finite x) where
  pub written_on : not t ≡ false → written y i x ≡ going (set y i x)
  unfolding written
  written_on h = check_pass _ _ _ et h refl

  pub written_out : not t ≡ true → written y i x ≡ ended (set y i x)
  unfolding written
  written_out h = check_fail _ _ _ et h refl

pub forward_way : (L : Sparse) (pivots residual y : List Float) (i : ℕ) (v : Float) {o : Run (List Float) (List Float)}
    → v ≡ count (along_turn (L i) y) (get_or residual i nan) i → written y i (div binary64 v (get_or pivots i nan)) ≡ o → forward_turn L pivots residual i y ≡ o
unfolding forward_turn
forward_way L pivots residual y i v e h = rw (← e) h

module _ {f : Run (List Float) (List Float)} (r : Result Unit Overflow) (y : List Float) (called : f ≡ solve_out r y) where
  pub solved_on : r ≡ Ok tt → f ≡ going y
  solved_on told = called ∙ rw told

  pub solved_out_lem : {e : Overflow} → r ≡ Err e → f ≡ ended y
  solved_out_lem told = called ∙ rw told

-- the number of an answer
pub sixteen : {f : Run (List Float) (List Float)} (r : Result Unit Overflow) (y : List Float) → f ≡ solve_out r y → or_sixteen f ≡ solved_out r y
unfolding on
sixteen r y e = rw e (by r)
  where
    by : (q : Result Unit Overflow) → or_sixteen (solve_out q y) ≡ solved_out q y
    by (Ok _) = refl
    by (Err _) = refl

-- ---- along a column
module _ {starts columns order : List ℕ} {n count j a b : ℕ} (spread : Spread starts columns order n count j a b) where
  pub down_skip : (values y : List Float) (v : Float) → Skips (plain (along_turn (transposed (numbers starts columns values) j) y)) (homes order n) a b v
  unfolding plain along_turn transposed less
  down_skip values y v = record { skip = λ k m. rw (down_none spread values k m) }

  pub down_way : (values y : List Float) (q p r : ℕ) (v x : Float) → a ≤ q → q < b → p ≡ place_at order n q → r ≡ home_at order n q → x ≡ mul binary64 (get_or values p nan) (get_or y r nan)
      → plain (along_turn (transposed (numbers starts columns values) j) y) (get_or (homes order n) q 0) v ≡ going (sub binary64 v x)
  unfolding plain along_turn transposed less
  down_way values y q p r v x l h ep er ex = rw (home_at_lem order n q, down_some spread values q l h, ex, ep, er)

pub backward_way : (L : Sparse) (pivots y : List Float) (i n : ℕ) (v : Float) {o : Run (List Float) (List Float)}
    → v ≡ count (along_turn (transposed L i) y) (get_or y i nan) n → n ≡ length pivots → written y i (div binary64 v (get_or pivots i nan)) ≡ o → backward_of L pivots i y ≡ o
unfolding backward_of
backward_way L pivots y i n v e l h = rw (← l, ← e) h

pub backward_at : (L : Sparse) (pivots y : List Float) (t n : ℕ) {o : Run (List Float) (List Float)} → n ≡ length pivots → backward_of L pivots (n - 1 - t) y ≡ o → backward_turn L pivots t y ≡ o
unfolding backward_turn
backward_at L pivots y t n e h = rw (← e) h

-- the ways through `solve`
module _ (L : Sparse) (pivots residual y y' : List Float) (r : Result Unit Overflow) (called : forward_run L pivots residual y ≡ solve_out r y') where
  pub solve_out_lem : {e : Overflow} → r ≡ Err e → solve_run L pivots residual y ≡ ended y'
  unfolding solve_run on
  solve_out_lem told = rw (called, told)

  pub solve_on : {o : Run (List Float) (List Float)} → r ≡ Ok tt → backward_run L pivots y' ≡ o → solve_run L pivots residual y ≡ o
  unfolding solve_run on
  solve_on told h = rw (called, told) h
