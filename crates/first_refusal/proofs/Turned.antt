-- Where a position solve is turned back by a number that judges rows, bodies or rules one by one, there is a place. Assumes nothing.
use Prim.Native.Nat.{ℕ, ◌+◌, ◌*◌, ◌<◌}
use mathlib.Core.Path.{◌≡◌, refl, ap, ◌∙◌}
use mathlib.Core.Bool.{Bool, true, false, not, cond, ◌&&◌, true≢false}
use mathlib.Core.List.{List, [], ◌∷◌}
use mathlib.Core.Logic.{◌⊎◌, inl, inr}
use native.Mathlib.Omega.{arith}
use lib.Dec.{leb, eqb}
use lib.Ieee.{Float}
use Rattle.loops.specs.Run.{Run, going, ended, on, check}
use Rattle.loops.specs.Judge.{FirstToFail}
use Rattle.loops.specs.Numbers.{In, stands}
use Rattle.loops.specs.Every.{every}
use Rattle.loops.proofs.Every.{every_false}
use Rattle.loops.proofs.Judge.{judge_ended, judged_ended}
use Rattle.loops.proofs.Inverse.{apart, next_ended}
use Rattle.kapitsa_math.specs.Lent.{vec_of}
use Rattle.kapitsa_math.specs.Vector.{is_finite_of}
use Rattle.kapitsa_joint.specs.Table.{Table, table_of}
use Rattle.kapitsa_joint.specs.declared.kind.Kind.TheVariants.{Position}
use Rattle.joint_refusals.specs.Refusals.{words_fit_of, mass_finite_of, passes4, passes6, centres_finite}
use Rattle.rules.specs.Rules.{Rules, rule_count, rule_fits, passes27, passes28}
use Rattle.position.specs.Problem.{Problem}
use Rattle.position.specs.Prepare.{row_judged, rows_judged, diagonals}
use Rattle.solve_method.specs.Method.{passes5, opening_of, factor_here, begin_of, first_of, owner_of, Delivered, method_of}
use Rattle.solve_method.specs.Places.{position_places}
use Rattle.solve_method.proofs.InPlace.{position_in_place}
use Rattle.preconditioner.specs.Shift.{passes25}
use Rattle.preconditioner.specs.declared.mode.Mode.{Mode}
use Rattle.preconditioner.specs.Factor.{factor_judged}
use Rattle.preconditioner.specs.Apply.{preconditioned}
use Rattle.preconditioner.proofs.Numbers.{z_numbers}
use Rattle.recurrence.specs.Step.{Iterate, Carried, first_from}
use Rattle.solve_method.proofs.Parts.{first_numbers}
use Rattle.mass_operator.specs.System.{system_of}
use Rattle.block_factor.specs.Blocks.{one_pair}
use Rattle.block_jacobi.specs.Runs.{begins, run_length}
use Rattle.kapitsa_joint.specs.Row.{jacobian_of}
use Rattle.steps.specs.Method.{Method}
use Rattle.steps.specs.Steps.{step_at}
use Rattle.steps.specs.Solve.{solve}
use Rattle.steps.specs.InPlace.{InPlace}
use Rattle.solve_method.specs.Position.{position_of}
use Rattle.first_refusal.specs.Place.{given_in, body_fits, row_passes, run_fits, passes_at, count_of, place_of}
use Rattle.first_refusal.specs.declared.place.Place.TheVariants as places
use Rattle.first_refusal.proofs.Somewhere.{somewhere, limited}
use Rattle.first_refusal.proofs.Block.{Other, factor_11}

-- ---- before step 0: the first test that fails is that of its number
pub record Failed (n : ℕ) (c d e f g : Bool) : Type 0 where
  pub four : n ≡ 4 → c ≡ false
  pub rules : n ≡ 27 → d ≡ false
  pub ruled : n ≡ 28 → e ≡ false
  pub five : n ≡ 5 → f ≡ false
  pub six : n ≡ 6 → g ≡ false

other : {n : ℕ} {c d e f g : Bool} → (n ≡ 4 → ⊥) → (n ≡ 27 → ⊥) → (n ≡ 28 → ⊥) → (n ≡ 5 → ⊥) → (n ≡ 6 → ⊥) → Failed n c d e f g
other h i j k l = record { four = λ z. absurd (h z); rules = λ z. absurd (i z); ruled = λ z. absurd (j z); five = λ z. absurd (k z); six = λ z. absurd (l z) }

failed : (a b c d e f g : Bool) {n : ℕ} → FirstToFail ((3, a) ∷ (25, b) ∷ (4, c) ∷ (27, d) ∷ (28, e) ∷ (5, f) ∷ (6, g) ∷ []) n → Failed n c d e f g
unfolding FirstToFail
failed a b c d e f g (inl (h, q)) = other (λ z. omega arith) (λ z. omega arith) (λ z. omega arith) (λ z. omega arith) (λ z. omega arith)
failed a b c d e f g (inr (_, inl (h, q))) = other (λ z. omega arith) (λ z. omega arith) (λ z. omega arith) (λ z. omega arith) (λ z. omega arith)
failed a b c d e f g (inr (_, inr (_, inl (h, q)))) = record { four = λ _. h; rules = λ z. absurd (omega arith); ruled = λ z. absurd (omega arith); five = λ z. absurd (omega arith); six = λ z. absurd (omega arith) }
failed a b c d e f g (inr (_, inr (_, inr (_, inl (h, q))))) = record { four = λ z. absurd (omega arith); rules = λ _. h; ruled = λ z. absurd (omega arith); five = λ z. absurd (omega arith); six = λ z. absurd (omega arith) }
failed a b c d e f g (inr (_, inr (_, inr (_, inr (_, inl (h, q)))))) = record { four = λ z. absurd (omega arith); rules = λ z. absurd (omega arith); ruled = λ _. h; five = λ z. absurd (omega arith); six = λ z. absurd (omega arith) }
failed a b c d e f g (inr (_, inr (_, inr (_, inr (_, inr (_, inl (h, q))))))) = record { four = λ z. absurd (omega arith); rules = λ z. absurd (omega arith); ruled = λ z. absurd (omega arith); five = λ _. h; six = λ z. absurd (omega arith) }
failed a b c d e f g (inr (_, inr (_, inr (_, inr (_, inr (_, inr (_, inl (h, q)))))))) = record { four = λ z. absurd (omega arith); rules = λ z. absurd (omega arith); ruled = λ z. absurd (omega arith); five = λ z. absurd (omega arith); six = λ _. h }
failed a b c d e f g (inr (_, inr (_, inr (_, inr (_, inr (_, inr (_, inr z))))))) = absurd z.1

one_false : (a b : Bool) → (a && b) ≡ false → (a ≡ false) ⊎ (b ≡ false)
one_false true b h = inr h
one_false false b h = inl refl

and_false : (a : Bool) → (a && false) ≡ false
and_false true = refl
and_false false = refl

module _ (rows bodies : ℕ) (numbers : List Float) (words : List ℕ) (masses centres : List Float) (s : Rules) (shift : Float) where
  abbrev t : Table
  t = table_of rows bodies numbers words masses

  abbrev p : Problem
  p = position_of rows bodies numbers words masses centres s shift

  met_4 : (limit : ℕ) → passes4 t ≡ false → place_of Position rows bodies numbers words masses centres s 4 limit ≡ places.None → ⊥
  unfolding passes4 count_of passes_at
  met_4 limit h = let (i, l, f) = every_false (λ i. words_fit_of (t.row i).words) rows h in somewhere Position rows bodies numbers words masses centres s 4 limit i l f

  met_27 : (limit : ℕ) → passes27 s ≡ false → place_of Position rows bodies numbers words masses centres s 27 limit ≡ places.None → ⊥
  unfolding passes27 count_of passes_at
  met_27 limit h = let (i, l, f) = every_false (rule_fits s) (rule_count s) h in somewhere Position rows bodies numbers words masses centres s 27 limit i l f

  met_28 : (limit : ℕ) → passes28 s t ≡ false → place_of Position rows bodies numbers words masses centres s 28 limit ≡ places.None → ⊥
  unfolding passes28 count_of passes_at
  met_28 limit h = let (i, l, f) = every_false _ rows h in somewhere Position rows bodies numbers words masses centres s 28 limit i l f

  met_5 : (limit : ℕ) → passes5 rows p.opens limit ≡ false → place_of Position rows bodies numbers words masses centres s 5 limit ≡ places.None → ⊥
  unfolding passes5 count_of passes_at
  met_5 limit h = go (eqb rows 0) (eqb limit 0) refl refl h
    where
      go : (a b : Bool) → eqb rows 0 ≡ a → eqb limit 0 ≡ b → cond a true (not b && every p.opens rows) ≡ false → place_of Position rows bodies numbers words masses centres s 5 limit ≡ places.None → ⊥
      go true b e f q = absurd (true≢false q)
      go false true e f q = limited Position rows bodies numbers words masses centres s limit (rw (e, f))
      go false false e f q = let (i, l, g) = every_false p.opens rows q in somewhere Position rows bodies numbers words masses centres s 5 limit i l g

  met_6 : (limit : ℕ) → (passes6 t && p.placed) ≡ false → place_of Position rows bodies numbers words masses centres s 6 limit ≡ places.None → ⊥
  unfolding passes6 centres_finite count_of passes_at body_fits
  met_6 limit h = go (one_false (passes6 t) p.placed h)
    where
      go : (passes6 t ≡ false) ⊎ (p.placed ≡ false) → place_of Position rows bodies numbers words masses centres s 6 limit ≡ places.None → ⊥
      go (inl q) = let (b, l, f) = every_false (λ b. mass_finite_of (t.mass b)) bodies q in somewhere Position rows bodies numbers words masses centres s 6 limit b l (rw f)
      go (inr q) = let (b, l, f) = every_false (λ b. is_finite_of (vec_of centres (3 * b))) bodies q in somewhere Position rows bodies numbers words masses centres s 6 limit b l (rw f (and_false (mass_finite_of (t.mass b))))

  -- the solve's own judgement of a row, whatever else it is given
  row_same : (i : ℕ) → row_judged (given_in Position rows bodies numbers words masses centres s) i ≡ row_judged p i
  unfolding row_judged
  row_same i = refl

  there_7 : {number : ℕ} → number ≡ 7 → (i : ℕ) → i < rows → i < count_of Position rows bodies numbers words masses centres s number
  unfolding count_of
  there_7 q i l = rw q l

  stops_7 : {number : ℕ} → number ≡ 7 → (i : ℕ) → row_judged p i ≡ ended number → passes_at Position rows bodies numbers words masses centres s number i ≡ false
  unfolding passes_at row_passes on
  stops_7 q i e = rw (q, row_same i, e ∙ ap ended q)

  there_8 : {number : ℕ} → number ≡ 8 → (i : ℕ) → i < rows → i < count_of Position rows bodies numbers words masses centres s number
  unfolding count_of
  there_8 q i l = rw q l

  stops_8 : {number : ℕ} → number ≡ 8 → (i : ℕ) → row_judged p i ≡ ended number → passes_at Position rows bodies numbers words masses centres s number i ≡ false
  unfolding passes_at row_passes on
  stops_8 q i e = rw (q, row_same i, e ∙ ap ended q)

  there_9 : {number : ℕ} → number ≡ 9 → (i : ℕ) → i < rows → i < count_of Position rows bodies numbers words masses centres s number
  unfolding count_of
  there_9 q i l = rw q l

  stops_9 : {number : ℕ} → number ≡ 9 → (i : ℕ) → row_judged p i ≡ ended number → passes_at Position rows bodies numbers words masses centres s number i ≡ false
  unfolding passes_at row_passes on
  stops_9 q i e = rw (q, row_same i, e ∙ ap ended q)

  -- "7 to 9 run row by row": the row at which step 0 ends
  met_row : {number : ℕ} → (number ≡ 7) ⊎ ((number ≡ 8) ⊎ (number ≡ 9)) → (limit : ℕ) → rows_judged p ≡ ended number → place_of Position rows bodies numbers words masses centres s number limit ≡ places.None → ⊥
  unfolding rows_judged check
  met_row n limit h = let (i, l, _, e) = (judged_ended (row_judged p) rows _).0 h in somewhere Position rows bodies numbers words masses centres s _ limit i (there n i l) (stops n i e)
    where
      there : {number : ℕ} → (number ≡ 7) ⊎ ((number ≡ 8) ⊎ (number ≡ 9)) → (i : ℕ) → i < rows → i < count_of Position rows bodies numbers words masses centres s number
      there (inl q) i l = there_7 q i l
      there (inr (inl q)) i l = there_8 q i l
      there (inr (inr q)) i l = there_9 q i l

      stops : {number : ℕ} → (number ≡ 7) ⊎ ((number ≡ 8) ⊎ (number ≡ 9)) → (i : ℕ) → row_judged p i ≡ ended number → passes_at Position rows bodies numbers words masses centres s number i ≡ false
      stops (inl q) i e = stops_7 q i e
      stops (inr (inl q)) i e = stops_8 q i e
      stops (inr (inr q)) i e = stops_9 q i e

  -- ---- of the solve
  module _ (fits : Bool) (mode : Mode) (limit : ℕ) where
    abbrev m : Method Iterate Carried Delivered
    m = method_of fits p mode

    in_place : InPlace m position_places limit
    in_place = position_in_place fits t s shift (λ b. vec_of centres (3 * b)) mode limit

    opening_failed : {n : ℕ} → In n position_places.opening → solve m limit ≡ ended n → Failed n (passes4 t) (passes27 s) (passes28 s t) (passes5 rows p.opens limit) (passes6 t && p.placed)
    unfolding opening_of
    opening_failed {n} i h = failed fits (passes25 shift) (passes4 t) (passes27 s) (passes28 s t) (passes5 rows p.opens limit) (passes6 t && p.placed) ((judge_ended _ n).0 ((in_place.at_opening n i).0 h))

    -- before step 0
    pub met_opening : (solve m limit ≡ ended 4 → place_of Position rows bodies numbers words masses centres s 4 limit ≡ places.None → ⊥)
        × (solve m limit ≡ ended 27 → place_of Position rows bodies numbers words masses centres s 27 limit ≡ places.None → ⊥)
        × (solve m limit ≡ ended 28 → place_of Position rows bodies numbers words masses centres s 28 limit ≡ places.None → ⊥)
        × (solve m limit ≡ ended 5 → place_of Position rows bodies numbers words masses centres s 5 limit ≡ places.None → ⊥)
        × (solve m limit ≡ ended 6 → place_of Position rows bodies numbers words masses centres s 6 limit ≡ places.None → ⊥)
    unfolding stands
    met_opening = (
      λ h. met_4 limit ((opening_failed refl h).four refl),
      λ h. met_27 limit ((opening_failed refl h).rules refl),
      λ h. met_28 limit ((opening_failed refl h).ruled refl),
      λ h. met_5 limit ((opening_failed refl h).five refl),
      λ h. met_6 limit ((opening_failed refl h).six refl),
    )

    -- in step 0, which of positions has no factor
    begun_rows : {n : ℕ} → begin_of p mode ≡ ended n → rows_judged p ≡ ended n
    unfolding begin_of factor_here check on
    begun_rows {n} h = go ((next_ended (rows_judged p) _ n).0 h)
      where
        go : {X : Type 0} {v : X} → (rows_judged p ≡ ended n) ⊎ ((u : Unit) × (rows_judged p ≡ going u) × (◌≡◌ {A = Run X ℕ} (going v) (ended n))) → rows_judged p ≡ ended n
        go (inl e) = e
        go {v = v} (inr (u, e, q)) = absurd (apart (going v) refl q)

    pub met_begin : {n : ℕ} → (n ≡ 7) ⊎ ((n ≡ 8) ⊎ (n ≡ 9)) → In n position_places.begin → solve m limit ≡ ended n → place_of Position rows bodies numbers words masses centres s n limit ≡ places.None → ⊥
    unfolding step_at
    met_begin {n} k i h = met_row k limit (begun_rows ((in_place.at_begin n i).0 h).then)

    -- in the factor, after the count 0 test: mode 2's
    factored : (v : Iterate) → begin_of p mode ≡ going v → m.first v ≡ ended 11 → factor_judged mode (system_of t) (owner_of t) (diagonals t) ≡ ended 11
    unfolding first_of factor_here check
    factored v b h = go ((next_ended (factor_judged mode (system_of t) (owner_of t) (diagonals t)) _ 11).0 h)
      where
        go : (factor_judged mode (system_of t) (owner_of t) (diagonals t) ≡ ended 11)
            ⊎ ((u : Unit) × (factor_judged mode (system_of t) (owner_of t) (diagonals t) ≡ going u) × (first_from (preconditioned mode (system_of t) (owner_of t) (diagonals t) v.residual) v.residual ≡ ended 11)) → factor_judged mode (system_of t) (owner_of t) (diagonals t) ≡ ended 11
        go (inl e) = e
        go (inr (u, e, q)) = absurd (first_numbers Other (λ z. omega arith) (λ z. omega arith) _ _ (z_numbers Other (λ z. omega arith) mode (system_of t) (owner_of t) (diagonals t) v.residual (u, e)) 11 q refl)

    met_11 : (i : ℕ) → i < rows → begins (owner_of t) i ≡ true → (leb (run_length (owner_of t) i rows) 6 && every (λ k. one_pair (jacobian_of (t.row (i + k))) (jacobian_of (t.row i))) (run_length (owner_of t) i rows)) ≡ false
        → place_of Position rows bodies numbers words masses centres s 11 limit ≡ places.None → ⊥
    unfolding count_of passes_at run_fits check
    met_11 i l b f = somewhere Position rows bodies numbers words masses centres s 11 limit i l (rw (b, f))

    pub met_factor : solve m limit ≡ ended 11 → place_of Position rows bodies numbers words masses centres s 11 limit ≡ places.None → ⊥
    unfolding stands step_at
    met_factor h =
        let f = ((in_place.at_factor 11 refl).0 h).then in
        let (i, l, b, e) = factor_11 mode (system_of t) (owner_of t) (diagonals t) (factored f.step f.made f.refused) in
        met_11 i l b e
