-- Document 02, n, of lent lists: "renumbering bodies throughout a job".
use Rattle.std.specs.Prelude.{ℕ, ◌*◌, ◌%◌, Bool, true, ◌||◌, cond, List, ◌≡◌, eqb, length, get_or, Float}
use Rattle.loops.specs.Tabulate.{tabulate}
use Rattle.kapitsa_joint.specs.Table.{Table, table_of}
use Rattle.kapitsa_joint.specs.Centre.{centres_in}
use Rattle.kapitsa_joint.specs.Kind.{by_kind}
use Rattle.kapitsa_joint.specs.declared.kind.Kind.{Kind}
use Rattle.kapitsa_joint.specs.declared.kind.Kind.TheVariants as kinds
use Rattle.joint_refusals.specs.Refusals.{centres_finite}
use Rattle.rules.specs.Rules.{Rules}
use Rattle.mass_operator.specs.Flat.{coefficients}
use Rattle.position.specs.Problem.{Problem}
use Rattle.solve_method.specs.Position.{solve_for}
use Rattle.check_range.specs.Closing.{Closing, closing_for}
use Rattle.renumbered.specs.Moved.{moved_masses, moved_centres}

-- what is lent of a job to solves and checks of either kind: positions have centres, velocities a residual
pub record LentJob : Type 0 where
  pub kind : Kind
  pub rows : ℕ
  pub bodies : ℕ
  pub numbers : List Float
  pub words : List ℕ
  pub masses : List Float
  pub centres : List Float
  pub residual : List Float
  pub rules : Rules

abbrev pub table_in : LentJob → Table
table_in j = table_of j.rows j.bodies j.numbers j.words j.masses

-- the solve of its kind, with a shift
abbrev pub solve_in : LentJob → Float → Problem
solve_in j shift = solve_for j.kind j.rows j.bodies j.numbers j.words j.masses j.centres j.residual j.rules shift

-- the check of its kind by a list of gains: `closing_of` with the centres, or `speeds_of`
abbrev pub check_in : LentJob → List Float → Closing
check_in j listed = closing_for j.kind (table_in j) (coefficients listed) j.rules (coefficients j.residual) (by_kind j.kind (centres_finite (centres_in j.bodies j.centres)) true)

-- where 3 passes, its lists are as long as the counts call for
pub record Long (fits : Bool) (j : LentJob) : Type 0 where
  pub words_long : fits ≡ true → length j.words ≡ 8 * j.rows
  pub masses_long : fits ≡ true → length j.masses ≡ 10 * j.bodies
  pub centres_long : fits ≡ true → j.kind ≡ kinds.Position → length j.centres ≡ 3 * j.bodies

-- ---- under the new numbers: of each row's eight words 2 and 3, body_a and body_b, by p
unfoldable pub renumbered_words : (ℕ → ℕ) → List ℕ → List ℕ
renumbered_words p l = tabulate (λ k. cond (eqb (k % 8) 2 || eqb (k % 8) 3) (p (get_or l k 0)) (get_or l k 0)) (length l)

-- masses and centres moved along; counts, rows' numbers, residual and rules stay
abbrev pub renumbered_job : (ℕ → ℕ) → (ℕ → ℕ) → LentJob → LentJob
renumbered_job p q j = record {
  kind = j.kind;
  rows = j.rows;
  bodies = j.bodies;
  numbers = j.numbers;
  words = renumbered_words p j.words;
  masses = moved_masses q j.masses;
  centres = moved_centres q j.centres;
  residual = j.residual;
  rules = j.rules;
}
