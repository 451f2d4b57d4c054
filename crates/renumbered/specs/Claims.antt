-- Document 02, n, of a table: "renumbering bodies throughout a job, masses moved along, gives the same refusal or the same flag, count, residuals and multipliers, bit for bit, in all modes, and the same impulses and centres under the new numbers. This covers velocity solves, groups, rule tables and the closing verdict."
use Rattle.std.specs.Prelude.{ℕ, ◌*◌, ◌<◌, ◌≡◌, Bool, List, length, Float}
use Rattle.kapitsa_math.specs.declared.vector.Vec3.{Vec3}
use Rattle.kapitsa_math.specs.Lent.{vec_of}
use Rattle.kapitsa_joint.specs.Table.{Table}
use Rattle.kapitsa_joint.specs.Impulse.{impulse_of}
use Rattle.kapitsa_joint.specs.declared.kind.Kind.{Kind}
use Rattle.rules.specs.Rules.{Rules, ruled_by}
use Rattle.preconditioner.specs.declared.mode.Mode.{Mode}
use Rattle.steps.specs.Alike.{delivering}
use Rattle.steps.specs.Solve.{solve}
use Rattle.solve_method.specs.Method.{method_of}
use Rattle.solve_method.specs.Position.{shifted_problem, moving_problem}
use Rattle.check_range.specs.Closing.{Closing, closing_for}
use Rattle.check_measure.specs.Verdict.{radius, reach}
use Rattle.check_measure.specs.Gap.{gap}
use Rattle.check_answer.specs.Answer.{check_of}
use Rattle.margins_list.specs.Margins.{AllSized}
use Rattle.margins_list.specs.Ranked.{margin_rows, margin_numbers}
use Rattle.renumbered.specs.Renumber.{renumber}
use Rattle.renumbered.specs.Moved.{moved_impulses, moved_centres, moved}

-- two checks that answer and list alike
pub record CheckedAlike (c d : Closing) : Type 0 where
  pub checks : (fits : Bool) → check_of fits d ≡ check_of fits c  -- refusal, or verdict and measured gap
  pub rules : (i : ℕ) → i < c.table.rows → d.rule i ≡ c.rule i
  pub reaches : (i : ℕ) → i < c.table.rows → reach d i ≡ reach c i
  pub margins : AllSized (reach c) c.table.rows → (margin_rows d ≡ margin_rows c) × (margin_numbers d ≡ margin_numbers c)  -- the numbers of a check that gives a verdict are such (`CheckMeaning`)

-- p has the new numbers and q the old ones
pub record Renumbers (p q : ℕ → ℕ) (t : Table) : Type 0 where
  pub rules : (s : Rules) → ruled_by s (renumber p q t) ≡ ruled_by s t  -- each row's tolerance, the number of its rule, and what 27 and 28 judge
  pub positions : (s : Rules) (shift : Float) (centre : ℕ → Vec3) (fits : Bool) (mode : Mode) (limit : ℕ)
      → solve (method_of fits (shifted_problem (renumber p q t) (ruled_by s (renumber p q t)) shift (λ b. centre (q b))) mode) limit ≡ delivering (moved q) (solve (method_of fits (shifted_problem t (ruled_by s t) shift centre) mode) limit)
  pub velocities : (s : Rules) (shift : Float) (residual : ℕ → Float) (fits : Bool) (mode : Mode) (limit : ℕ)
      → solve (method_of fits (moving_problem (renumber p q t) (ruled_by s (renumber p q t)) shift residual) mode) limit ≡ delivering (moved q) (solve (method_of fits (moving_problem t (ruled_by s t) shift residual) mode) limit)
  pub closings : (kind : Kind) (s : Rules) (listed residual : ℕ → Float) (placed : Bool) → CheckedAlike (closing_for kind t listed s residual placed) (closing_for kind (renumber p q t) listed s residual placed)
  -- what a verdict is about: each row's exact gap and its radius
  pub gaps : (kind : Kind) (s : Rules) (listed residual : ℕ → Float) (placed : Bool) (i : ℕ) → i < t.rows
      → (gap (closing_for kind (renumber p q t) listed s residual placed) i ≡ gap (closing_for kind t listed s residual placed) i) × (radius (closing_for kind (renumber p q t) listed s residual placed) i ≡ radius (closing_for kind t listed s residual placed) i)

-- "under the new numbers": the body of new number p b has what body b had
pub record ReadBack (n : ℕ) (p q : ℕ → ℕ) : Type 0 where
  pub impulses : (l : List Float) → length l ≡ 6 * n → (b : ℕ) → b < n → impulse_of (moved_impulses q l) (p b) ≡ impulse_of l b
  pub centres : (l : List Float) → length l ≡ 3 * n → (b : ℕ) → b < n → vec_of (moved_centres q l) (3 * p b) ≡ vec_of l (3 * b)
