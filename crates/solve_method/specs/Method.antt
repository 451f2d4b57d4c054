-- The parts of a solve: document 01, "Flag, count and residuals". Everything is made from what it is given, the mode, and whether refusal 3 passes.
use Rattle.std.specs.Prelude.{ℕ, zero, suc, ◌*◌, Bool, not, ◌&&◌, cond, true, List, ◌∷◌, ◌++◌, eqb, Float}
use Rattle.loops.specs.Run.{Run, check, going, next}
use Rattle.loops.specs.Judge.{judge, test}
use Rattle.loops.specs.Every.{every}
use Rattle.loops.specs.Tabulate.{tabulate}
use Rattle.kapitsa_joint.specs.Table.{Table}
use Rattle.kapitsa_joint.specs.Tolerance.{dimension_of}
use Rattle.kapitsa_joint.specs.Centre.{Centres, flat_centres}
use Rattle.kapitsa_joint.specs.declared.impulse.GeneralizedImpulse.{GeneralizedImpulse}
use Rattle.joint_refusals.specs.Refusals.{passes4, passes6, centres_finite}
use Rattle.mass_operator.specs.System.{System, system_of}
use Rattle.mass_operator.specs.Operator.{impulse_at}
use Rattle.mass_operator.specs.Flat.{coefficients, impulses_of}
use Rattle.mass_operator.specs.Applied.{all_finite_of}
use Rattle.loops.specs.Cleared.{zeros}
use Rattle.preconditioner.specs.Factor.{factor_judged}
use Rattle.preconditioner.specs.Apply.{preconditioned}
use Rattle.preconditioner.specs.declared.mode.Mode.{Mode}
use Rattle.recurrence.specs.Step.{Iterate, Carried, advance_of, first_from, renew_from}
use Rattle.position.specs.Centres.{moved_by}
use Rattle.position.specs.Multipliers.{gain_by}
use Rattle.position.specs.Problem.{Problem}
use Rattle.position.specs.Prepare.{rows_judged, diagonals, residuals}
use Rattle.position.specs.Residual.{meets_of, maxima_of}
use Rattle.kapitsa_joint.specs.declared.maxima.Maxima.{Maxima}
use Rattle.steps.specs.Method.{Recurrence, Method}

-- the joint of each row
abbrev pub owner_of : Table → ℕ → ℕ
owner_of t i = (t.row i).words.owner

-- ---- what is judged before step 0

-- "5. There are rows and the limit is 0, or a row fails the Rust's opening test"
unfoldable pub passes5 : ℕ → (ℕ → Bool) → ℕ → Bool
passes5 rows opens limit = cond (eqb rows 0) true (not (eqb limit 0) && every opens rows)

-- once 3 has passed: first what is chosen, then, in this order
abbrev pub table_tests : Problem → ℕ → List (ℕ × Bool)
table_tests p limit = let t = p.table in (4, passes4 t) ∷ (p.tolerance_tests ++ ((5, passes5 t.rows p.opens limit) ∷ ((6, passes6 t && p.placed) ∷ p.lent)))

abbrev pub after_three : Problem → ℕ → List (ℕ × Bool)
after_three p limit = p.options ++ table_tests p limit

-- fits is whether 3 passes
abbrev pub opening_tests : Bool → Problem → ℕ → List (ℕ × Bool)
opening_tests fits p limit = (3, fits) ∷ after_three p limit

unfoldable pub opening_of : Bool → Problem → ℕ → Run Unit ℕ
opening_of fits p limit = judge (opening_tests fits p limit)

-- ---- step 0 and what follows from it

-- the factor (10 to 13), where it stands here
unfoldable pub factor_here : Bool → Mode → System → (ℕ → ℕ) → List Float → Run Unit ℕ
factor_here here mode s owner diagonal = check here (factor_judged mode s owner diagonal) (going tt)

-- "Step 0 has the starting residual, replaced rows at 0.0", and the solution "0 at first"
unfoldable pub begin_of : Problem → Mode → Run Iterate ℕ
begin_of p mode =
    let t = p.table in
    next (rows_judged p) (λ _. next (factor_here p.factor_first mode (system_of t) (owner_of t) (diagonals t)) (λ _. going (record { solution = zeros t.rows; residual = residuals t p.start })))

-- where step 0 misses: the factor, unless it is there, then z, s and direction (16, 14)
unfoldable pub first_of : Bool → Mode → System → (ℕ → ℕ) → List Float → Iterate → Run Carried ℕ
first_of factorThere mode s owner diagonal v = next (factor_here (not factorThere) mode s owner diagonal) (λ _. first_from (preconditioned mode s owner diagonal v.residual) v.residual)

-- the steps of n rows, by how one is made and by the z of a residual
abbrev pub steps_by : (List Float → Run (List Float) ℕ) → (Iterate → Carried → Run Iterate ℕ) → ℕ → (ℕ → Float) → Recurrence Iterate Carried
steps_by z advance n tolerance = record {
  advance = advance;
  meets = λ v. meets_of tolerance v.residual n;
  renew = λ v c. renew_from (z v.residual) v.residual c;
}

abbrev pub steps_of : Mode → System → (ℕ → ℕ) → List Float → (ℕ → Float) → Recurrence Iterate Carried
steps_of mode s owner diagonal tolerance = steps_by (preconditioned mode s owner diagonal) (advance_of s) s.rows tolerance

-- ---- what is delivered: document 01, "Multipliers, solution, impulses", and document 02, d, "the new centre of each link with the impulses"
pub record Delivered : Type 0 where
  pub accumulated : List Float  -- the rows' accumulated numbers, afterwards
  pub impulses : List Float  -- six doubles a body
  pub centres : List Float  -- three doubles a body
  pub maxima : Maxima

unfoldable pub gains_of : (ℕ → Float) → ℕ → List Float → List Float
gains_of accumulated rows solution = tabulate (gain_by accumulated solution) rows

unfoldable pub maxima_in : Table → Iterate → Maxima
maxima_in t v = maxima_of (λ i. dimension_of (t.row i).words.dimension) v.residual t.rows

-- of body b, by the step's solution
abbrev pub impulse_by : Table → Iterate → ℕ → GeneralizedImpulse
impulse_by t v b = impulse_at (system_of t).jacobian (coefficients v.solution) b t.rows

-- "with count 0 it keeps its bits", "With count 0, solution and impulses are +0.0"; "17. A final impulse or multiplier is not finite", nor a centre: "one that comes out so is 17"
unfoldable pub finish_of : Table → (ℕ → Float) → Centres → ℕ → Iterate → Run Delivered ℕ
finish_of t accumulated c zero v = going (record { accumulated = tabulate accumulated t.rows; impulses = zeros (6 * t.bodies); centres = flat_centres c; maxima = maxima_in t v })
finish_of t accumulated c (suc count) v =
    let impulses = impulses_of (system_of t).jacobian (coefficients v.solution) t.rows t.bodies in
    let gains = gains_of accumulated t.rows v.solution in
    let moved = moved_by t.mass (impulse_by t v) c in
    next (test (all_finite_of impulses) 17)
    (λ _. next (test (all_finite_of gains) 17) (λ _. next (test (centres_finite moved) 17) (λ _. going (record { accumulated = gains; impulses = impulses; centres = flat_centres moved; maxima = maxima_in t v }))))

-- ---- the solve
abbrev pub method_of : Bool → Problem → Mode → Method Iterate Carried Delivered
method_of fits p mode = let t = p.table in record {
  opening = opening_of fits p;
  begin = begin_of p mode;
  first = first_of p.factor_first mode (system_of t) (owner_of t) (diagonals t);
  steps = steps_of mode (system_of t) (owner_of t) (diagonals t) p.tolerance;
  finish = finish_of t p.accumulated p.centres;
}
