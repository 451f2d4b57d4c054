-- The rules of the rows, over lent words: eight a row, its key first and then its dimension.
use Rattle.std.specs.Prelude.{ℕ, ◌+◌, ◌*◌, Bool, List, ltb, get_or, Float}
use Rattle.loops.specs.Every.{every}
use Rattle.rules.specs.Rules.{Rules, rule_count, rule_for, tolerance_at}

abbrev pub rules_in : List ℕ → List Float → Rules
rules_in words tolerances = record { words = words; tolerances = tolerances }

abbrev pub rule_in : Rules → List ℕ → ℕ → ℕ
rule_in s words i = rule_for s (get_or words (8 * i + 1) 0) (get_or words (8 * i) 0)

abbrev pub tolerance_in : Rules → List ℕ → ℕ → Float
tolerance_in s words i = tolerance_at s (rule_in s words i)

unfoldable pub rows_ruled : Rules → List ℕ → ℕ → Bool
rows_ruled s words n = every (λ i. ltb (rule_in s words i) (rule_count s)) n
