-- The order in which a solve is judged, place by place: document 01, "Why a job was turned back", "in this order".
use Rattle.std.specs.Prelude.{ℕ, Bool, false, true, List, [], ◌∷◌, ◌≡◌}
use Rattle.loops.specs.Numbers.{numbers_of, once}
use Rattle.position.specs.Problem.{Problem}
use Rattle.steps.specs.Numbers.{Places, order_of}
use Rattle.solve_method.specs.Method.{opening_tests}

-- in step 0: 7 to 9, and 10 to 13 where the factor stands before the count 0 test
abbrev pub begin_place : Bool → List ℕ
begin_place true = 7 ∷ (8 ∷ (9 ∷ (10 ∷ (11 ∷ (12 ∷ (13 ∷ []))))))
begin_place false = 7 ∷ (8 ∷ (9 ∷ []))

-- in the factor, where it stands after the count 0 test
abbrev pub factor_place : Bool → List ℕ
factor_place true = []
factor_place false = 10 ∷ (11 ∷ (12 ∷ (13 ∷ [])))

-- of a problem: its numbers before step 0 are those of its tests, in their order, whatever each of them answers
abbrev pub places_of : Problem → Places
places_of p = record {
  opening = numbers_of (opening_tests true p 0);
  begin = begin_place p.factor_first;
  factor = factor_place p.factor_first;
}

-- what is asked of the tests that a problem brings: no number stands twice, and 0 is none
pub record Apart (p : Problem) : Type 0 where
  pub each : once (0 ∷ order_of (places_of p)) ≡ true

-- of velocities, to be read beside document 02 a: 20 right after 6, 7 to 9, then 10 to 13 before the count 0 test
abbrev pub velocity_places : Places
velocity_places = record { opening = 3 ∷ (25 ∷ (4 ∷ (27 ∷ (28 ∷ (5 ∷ (6 ∷ (20 ∷ []))))))); begin = 7 ∷ (8 ∷ (9 ∷ (10 ∷ (11 ∷ (12 ∷ (13 ∷ [])))))); factor = [] }

-- of positions, to be read beside documents 01 and 02: 3, 25, 4, 27, 28, 5, 6, then 7 to 9, the count 0 test, 10 to 13
abbrev pub position_places : Places
position_places = record { opening = 3 ∷ (25 ∷ (4 ∷ (27 ∷ (28 ∷ (5 ∷ (6 ∷ [])))))); begin = 7 ∷ (8 ∷ (9 ∷ [])); factor = 10 ∷ (11 ∷ (12 ∷ (13 ∷ []))) }
