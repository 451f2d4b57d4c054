-- Where a solve was turned back: the first row, body or rule that fails the test of the refusal's number. Document 01, "Why a job was turned back", 4 to 9 and 11; document 02, k, 27 and 28.
use Rattle.std.specs.Prelude.{ℕ, ◌+◌, ◌*◌, Bool, true, not, ◌&&◌, cond, List, leb, ltb, eqb, Float}
use Rattle.loops.specs.Run.{on, check}
use Rattle.loops.specs.Every.{every}
use Rattle.kapitsa_math.specs.Lent.{vec_of}
use Rattle.kapitsa_math.specs.Vector.{is_finite_of}
use Rattle.kapitsa_joint.specs.Kind.{by_kind}
use Rattle.kapitsa_joint.specs.Table.{Table, table_of}
use Rattle.kapitsa_joint.specs.Row.{jacobian_of}
use Rattle.kapitsa_joint.specs.declared.kind.Kind.{Kind}
use Rattle.joint_refusals.specs.Refusals.{words_fit_of, mass_finite_of}
use Rattle.rules.specs.Rules.{Rules, rule_count, rule_fits, rule_of}
use Rattle.position.specs.Problem.{Problem}
use Rattle.position.specs.Prepare.{row_judged}
use Rattle.block_factor.specs.Blocks.{one_pair}
use Rattle.block_jacobi.specs.Runs.{begins, leading, run_length}
use Rattle.solve_method.specs.Method.{owner_of}
use Rattle.solve_method.specs.Position.{kind_of}
use Rattle.first_refusal.specs.declared.place.Place.{Place}
use Rattle.first_refusal.specs.declared.place.Place.TheVariants as places

module _ (kind : Kind) (rows bodies : ℕ) (numbers : List Float) (words : List ℕ) (masses beside : List Float) (s : Rules) where
  abbrev pub table_in : Table
  table_in = table_of rows bodies numbers words masses

  -- what the solve's rows are judged by; `beside` is of positions the centres and of velocities the residual
  abbrev pub given_in : Problem
  given_in = kind_of kind rows bodies numbers words masses beside s

  -- 6: "A mass number is not finite"; document 02, d: "A centre that comes in not finite is refusal 6", of which velocities have none
  unfoldable pub body_fits : ℕ → Bool
  body_fits b = mass_finite_of (table_in.mass b) && by_kind kind (is_finite_of (vec_of beside (3 * b))) true

  -- 7, 8 and 9: "7 to 9 run row by row"; row i's own judgement does not end with this number
  unfoldable pub row_passes : ℕ → ℕ → Bool
  row_passes number i = on (row_judged given_in i) (λ _. true) (λ n. not (eqb n number))

  -- 11: "runs of equal owner, at most 6 rows, all on one body_a and one body_b", of the run that begins at row i, where one does
  unfoldable pub run_fits : ℕ → Bool
  run_fits i =
      let len = run_length (owner_of table_in) i rows in
      check (begins (owner_of table_in) i) (leb len 6 && every (λ k. one_pair (jacobian_of (table_in.row (i + k))) (jacobian_of (table_in.row i))) len) true

  -- the test of a number, at row, body or rule i; numbers that judge nothing one by one pass everywhere
  unfoldable pub passes_at : ℕ → ℕ → Bool
  passes_at number i =
      cond (eqb number 4) (words_fit_of (table_in.row i).words)
      (cond (eqb number 5) (given_in.opens i)
      (cond (eqb number 6) (body_fits i)
      (cond (eqb number 11) (run_fits i)
      (cond (eqb number 27) (rule_fits s i)
      (cond (eqb number 28) (ltb (rule_of s table_in i) (rule_count s))
      (cond (leb 7 number && leb number 9) (row_passes number i) true))))))

  -- how many there are to test
  unfoldable pub count_of : ℕ → ℕ
  count_of number = cond (eqb number 6) bodies (cond (eqb number 27) (rule_count s) rows)

  unfoldable pub named_at : ℕ → ℕ → Place
  named_at number i = cond (eqb number 6) (places.Body i) (cond (eqb number 27) (places.Rule i) (places.Row i))

  -- the first that fails: `leading` is the least index that does, or their count
  unfoldable pub first_of : ℕ → Place
  first_of number = let i = leading (passes_at number) (count_of number) in cond (ltb i (count_of number)) (named_at number i) places.None

  -- "5. There are rows and the limit is 0, or a row fails": that limit is no row's
  unfoldable pub place_of : ℕ → ℕ → Place
  place_of number limit = cond (eqb number 5 && (not (eqb rows 0) && eqb limit 0)) places.Limit (first_of number)
