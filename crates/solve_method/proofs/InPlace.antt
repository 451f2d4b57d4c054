-- A solve refuses with the numbers of its places, each exactly there, and is accepted exactly where none turns it back. Assumes nothing.
use Prim.Native.Nat.{◌<◌, ℕ}
use mathlib.Core.Bool.{Bool, cond, false, not, true, false≢true}
use mathlib.Core.List.{List, [], ◌∷◌, ◌++◌}
use mathlib.Core.Path.{◌≡◌, refl, ap, subst}
use lib.Ieee.{Float}
use Rattle.loops.specs.Numbers.{In, numbers_of, once, stands}
use Rattle.loops.specs.Run.{Goes, Run, check, ended, going}
use Rattle.loops.proofs.Inverse.{next_going}
use Rattle.loops.proofs.Numbers.{judge_numbers}
use Rattle.loops.proofs.Ranges.{Among, Listed, among_check, among_going, among_judge, among_judged, among_next}
use Rattle.kapitsa_math.specs.declared.vector.Vec3.{Vec3}
use Rattle.kapitsa_joint.specs.Table.{Table}
use Rattle.rules.specs.Rules.{Rules, ruled_by}
use Rattle.mass_operator.specs.System.{system_of}
use Rattle.preconditioner.specs.Factor.{factor_judged}
use Rattle.preconditioner.specs.declared.mode.Mode.{Mode}
use Rattle.preconditioner.proofs.Numbers.{factor_numbers, z_numbers}
use Rattle.recurrence.specs.Step.{Carried, Iterate}
use Rattle.position.specs.Problem.{Problem}
use Rattle.solve_method.specs.Position.{shifted_problem, moving_problem}
use Rattle.position.specs.Prepare.{diagonals, diagonals_judged, row_judged, rows_judged, valid_judged}
use Rattle.steps.specs.InPlace.{InPlace}
use Rattle.steps.specs.Numbers.{Numbers, advancing, order_of, renewing}
use Rattle.steps.specs.Solve.{solve}
use Rattle.steps.proofs.InPlace as steps
use Rattle.solve_method.specs.Method.{begin_of, factor_here, first_of, method_of, opening_of, opening_tests, table_tests, owner_of}
use Rattle.solve_method.specs.Places.{Apart, begin_place, factor_place, places_of, position_places, velocity_places}
use Rattle.solve_method.proofs.Parts.{advance_numbers, finish_numbers, first_numbers, renew_numbers}

-- the numbers of tests that come after others
numbers_after : (l a b : List (ℕ × Bool)) → numbers_of a ≡ numbers_of b → numbers_of (l ++ a) ≡ numbers_of (l ++ b)
unfolding numbers_of
numbers_after [] a b e = e
numbers_after (t ∷ l) a b e = ap (λ (m : List ℕ). t.0 ∷ m) (numbers_after l a b e)

-- ---- the numbers of step 0 and of what follows from it, with the factor before the count 0 test or after it
abbrev Beginning : Bool → ℕ → Type 0
Beginning before n = In n (begin_place before)

abbrev Following : Bool → ℕ → Type 0
Following before n = In n (factor_place before ++ renewing)

abbrev Renewed : ℕ → Type 0
Renewed n = In n renewing

abbrev Advanced : ℕ → Type 0
Advanced n = In n advancing

rows_there : (before : Bool) → Beginning before 7 × Beginning before 8 × Beginning before 9
unfolding stands
rows_there true = (refl, refl, refl)
rows_there false = (refl, refl, refl)

products_there : (before : Bool) → Following before 14 × Following before 16
unfolding stands
products_there true = (refl, refl)
products_there false = (refl, refl)

renewed : Renewed 14 × Renewed 16
unfolding stands
renewed = (refl, refl)

advanced : Advanced 15 × Advanced 16
unfolding stands
advanced = (refl, refl)

module _ (p : Problem) (mode : Mode) where
  -- the factor, where it stands here, and what follows from step 0
  abbrev factor_at : Bool → Run Unit ℕ
  factor_at here = factor_here here mode (system_of p.table) (owner_of p.table) (diagonals p.table)

  abbrev followed : Iterate → Run Carried ℕ
  followed v = first_of p.factor_first mode (system_of p.table) (owner_of p.table) (diagonals p.table) v

  -- the factor stands before the test or after it
  factor_there : (b : Bool) → Goes (factor_at b) → Goes (factor_at (not b)) → Goes (factor_judged mode (system_of p.table) (owner_of p.table) (diagonals p.table))
  unfolding factor_here check
  factor_there true g h = g
  factor_there false g h = h

  begun_factor : (v : Iterate) → begin_of p mode ≡ going v → Goes (factor_at p.factor_first)
  unfolding begin_of
  begun_factor v h =
      let (_, _, q) = (next_going (rows_judged p) _ v).0 h in
      let (f, e, _) = (next_going (factor_at p.factor_first) _ v).0 q in
      (f, e)

  first_factor : (v : Iterate) → Goes (followed v) → Goes (factor_at (not p.factor_first))
  unfolding first_of
  first_factor v g = let (f, e, _) = (next_going (factor_at (not p.factor_first)) _ g.0).0 g.1 in (f, e)

  -- ---- the numbers of each part
  rows_numbers : Among (Beginning p.factor_first) (rows_judged p)
  unfolding rows_judged valid_judged diagonals_judged row_judged Listed
  rows_numbers =
      let P = Beginning p.factor_first in
      let (p7, p8, p9) = rows_there p.factor_first in
      among_check P _ _ _ (among_next P _ _ (among_judged P _ _ (λ i. among_judge P _ (p7, tt))) (λ _ _. among_judged P _ _ (λ i. among_judge P _ (p8, (p9, tt)))))
      (among_judged P _ _ (λ i. among_judge P _ (p7, (p8, (p9, tt)))))

  here_numbers : (b : Bool) → Among (Beginning b) (factor_at b)
  unfolding factor_here check stands
  here_numbers true = factor_numbers (Beginning true) refl refl refl refl mode _ _ _
  here_numbers false = among_going (Beginning false) tt

  there_numbers : (b : Bool) → Among (Following b) (factor_at (not b))
  unfolding factor_here check stands
  there_numbers true = among_going (Following true) tt
  there_numbers false = factor_numbers (Following false) refl refl refl refl mode _ _ _

  begin_numbers : Among (Beginning p.factor_first) (begin_of p mode)
  unfolding begin_of
  begin_numbers =
      let P = Beginning p.factor_first in
      among_next P _ _ rows_numbers (λ _ _. among_next P _ _ (here_numbers p.factor_first) (λ _ _. among_going P _))

  following_numbers : (v : Iterate) → begin_of p mode ≡ going v → Among (Following p.factor_first) (followed v)
  unfolding first_of
  following_numbers v b =
      let P = Following p.factor_first in
      let (p14, p16) = products_there p.factor_first in
      among_next P _ _ (there_numbers p.factor_first)
      (λ f e. first_numbers P p14 p16 _ _ (z_numbers P p16 mode _ _ _ _ (factor_there p.factor_first (begun_factor v b) (f, e))))

  module _ (fits : Bool) where
    -- whatever the tests answer, their numbers are the same
    opening_numbers : (limit n : ℕ) → opening_of fits p limit ≡ ended n → In n (places_of p).opening
    unfolding opening_of numbers_of
    opening_numbers limit n h =
        let tables : numbers_of (table_tests p limit) ≡ numbers_of (table_tests p 0) = ap (λ (l : List ℕ). 4 ∷ l) (numbers_after p.tolerance_tests _ _ refl) in
        subst (λ (l : List ℕ). In n (3 ∷ l)) (numbers_after p.options (table_tests p limit) (table_tests p 0) tables) (judge_numbers (opening_tests fits p limit) n h)

    -- each part refuses with the numbers of its place, if no number stands twice: those of `lent` are not named here
    pub problem_numbers : once (order_of (places_of p)) ≡ true → Numbers (method_of fits p mode) (places_of p)
    problem_numbers o = record {
      apart = o;
      opening = opening_numbers;
      begin = begin_numbers;
      first = λ v n b. following_numbers v b n;
      advance = advance_numbers Advanced advanced.0 advanced.1 (system_of p.table);
      renew = λ u v c n b g. renew_numbers Renewed renewed.0 renewed.1 _ _ c (z_numbers Renewed renewed.1 mode _ _ _ _ (factor_there p.factor_first (begun_factor u b) (first_factor u g))) n;
      finish = finish_numbers p.table p.accumulated p.centres;
    }

    module _ (limit : ℕ) (apart : Apart p) where
      nought : (stands 0 (order_of (places_of p)) ≡ false) × (once (order_of (places_of p)) ≡ true)
      unfolding once
      nought = go (stands 0 (order_of (places_of p))) refl apart.each
        where
          go : (b : Bool) → stands 0 (order_of (places_of p)) ≡ b → cond b false (once (order_of (places_of p))) ≡ true → (stands 0 (order_of (places_of p)) ≡ false) × (once (order_of (places_of p)) ≡ true)
          go true e h = absurd (false≢true h)
          go false e h = (e, h)

      -- Demand 3: "accepted exactly when none of these papers' refusals, each judged in its place, turns it back".
      pub problem_in_place : InPlace (method_of fits p mode) (places_of p) limit
      problem_in_place = steps.in_place (method_of fits p mode) (places_of p) (problem_numbers nought.1) limit

      -- and 0 is no refusal
      pub problem_not_zero : (n : ℕ) → solve (method_of fits p mode) limit ≡ ended n → 0 < n
      problem_not_zero = steps.refusal_not_zero (method_of fits p mode) (places_of p) limit problem_in_place nought.0

-- ---- positions
pub position_apart : (t : Table) (rules : Rules) (shift : Float) (centre : ℕ → Vec3) → Apart (shifted_problem t (ruled_by rules t) shift centre)
unfolding once stands numbers_of
position_apart t rules shift centre = record { each = refl }

module _ (fits : Bool) (t : Table) (rules : Rules) (shift : Float) (centre : ℕ → Vec3) (mode : Mode) (limit : ℕ) where
  -- to be read beside document 01: the places are those of `position_places`
  pub position_in_place : InPlace (method_of fits (shifted_problem t (ruled_by rules t) shift centre) mode) position_places limit
  unfolding numbers_of
  position_in_place = problem_in_place (shifted_problem t (ruled_by rules t) shift centre) mode fits limit (position_apart t rules shift centre)

-- ---- velocities
pub velocity_apart : (t : Table) (rules : Rules) (shift : Float) (residual : ℕ → Float) → Apart (moving_problem t (ruled_by rules t) shift residual)
unfolding once stands numbers_of
velocity_apart t rules shift residual = record { each = refl }

module _ (fits : Bool) (t : Table) (rules : Rules) (shift : Float) (residual : ℕ → Float) (mode : Mode) (limit : ℕ) where
  -- to be read beside document 02, a: the places are those of `velocity_places`
  pub velocity_in_place : InPlace (method_of fits (moving_problem t (ruled_by rules t) shift residual) mode) velocity_places limit
  unfolding numbers_of
  velocity_in_place = problem_in_place (moving_problem t (ruled_by rules t) shift residual) mode fits limit (velocity_apart t rules shift residual)
