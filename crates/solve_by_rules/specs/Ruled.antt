-- What a solve by lent rules promises: the solve, and the rule that each row was judged by.
use Rattle.std.specs.Prelude.{ℕ, ◌*◌, ◌≤◌, ◌≡◌, Bool, true, ◌&&◌, List, eqb, length}
use Rattle.loops.specs.Tabulate.{tabulate}
use Rattle.kapitsa_joint.specs.Kind.{by_kind, placed_of}
use Rattle.kapitsa_joint.specs.declared.kind.Kind.{Kind}
use Rattle.rules.specs.Rules.{Rules, rule_lengths_fit, Ruled}
use Rattle.rules.specs.Rows.{rows_ruled}
use Rattle.preconditioner.specs.declared.mode.Mode.{Mode}
use Rattle.position.specs.Problem.{Problem}
use Rattle.position_delivery.specs.Outcome.{Lent}
use Rattle.position_delivery.specs.declared.answer.PositionPcgResult.{PositionPcgResult}
use Rattle.work_memory.specs.Work.{WorkMemory}
use Rattle.loops.specs.Run.{Run, going, ended}
use Rattle.solve_by_rules.specs.SolveHeld.{SolveHeld}

-- 3, of the rules' lengths and of the slice that takes the rows' rules
unfoldable pub rules_lent : ℕ → ℕ → ℕ → ℕ → Bool
rules_lent rows words tolerances numbers = rule_lengths_fit words tolerances && eqb numbers rows

-- of the residual of a velocity solve, a double a row
unfoldable pub residual_lent : ℕ → ℕ → Bool
residual_lent rows residual = eqb residual rows

-- of the centres before and after, three doubles a body
unfoldable pub centres_lent : ℕ → ℕ → ℕ → Bool
centres_lent bodies centres newCentres = eqb centres (3 * bodies) && eqb newCentres (3 * bodies)

-- by kind: of velocities the residual, and no centre
abbrev pub beside_lent : Kind → ℕ → ℕ → ℕ → ℕ → ℕ → Bool
beside_lent kind rows bodies centres newCentres residual = by_kind kind true (residual_lent rows residual) && centres_lent (placed_of kind bodies) centres newCentres

-- document 02, k: "The answer names, for each row, the number of the rule it was judged by"; a refusal touches nothing
abbrev pub named_by : Run PositionPcgResult ℕ → (ℕ → ℕ) → ℕ → List ℕ → List ℕ
named_by (going r) rule n before = tabulate rule n
named_by (ended number) rule n before = before

-- the words of as many rows are there, where they are read
pub record NamingRoom (answer : Run PositionPcgResult ℕ) (numbers words : ℕ) : Type 0 where
  pub room : (r : PositionPcgResult) → answer ≡ going r → 8 * numbers ≤ words

-- and each row is under one rule and no second
pub record NamingRuled (answer : Run PositionPcgResult ℕ) (s : Rules) (words : List ℕ) (numbers : ℕ) : Type 0 where
  pub room : (r : PositionPcgResult) → answer ≡ going r → 8 * numbers ≤ length words
  pub ruled : (r : PositionPcgResult) → answer ≡ going r → rows_ruled s words numbers ≡ true

-- of n rows; `fits` is whether refusal 3 passes
pub record SolveRuled (fits : Bool) (s : Rules) (p : Problem) (mode : Mode) (limit place n : ℕ) (before after : Lent) (numbers numbersAfter : List ℕ) (answer : Run PositionPcgResult ℕ) (work workAfter : WorkMemory) : Type 0 where
  pub held : SolveHeld fits p mode limit place n before after answer work workAfter
  pub named : numbersAfter ≡ named_by answer p.rule n numbers  -- the number of each row's rule
  pub ruled : (r : PositionPcgResult) → answer ≡ going r → Ruled s p.table  -- which is the one that it falls under
