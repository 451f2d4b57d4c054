-- Each row judged by its rule. Assumes nothing.
use Prim.Native.Nat.{ℕ, ◌<◌, ◌≤◌}
use mathlib.Core.Path.{◌≡◌}
use mathlib.Core.Bool.{true}
use mathlib.Core.List.{List}
use native.Mathlib.Omega.{arith}
use borrow.Author.Tests.{ltb-true}
use lib.Dec.{ltb}
use Rattle.loops.proofs.Every.{every_iff}
use Rattle.rules.specs.Rules.{Rules, rule_count, applies, rule_for}
use Rattle.rules.specs.Rows.{rule_in, rows_ruled}
use Rattle.rules.proofs.Only.{only_within}

module _ (s : Rules) (words : List ℕ) where
  pub row_ruled : {n i : ℕ} → rows_ruled s words n ≡ true → i < n → rule_in s words i < rule_count s
  unfolding rows_ruled
  row_ruled {n} {i} h l = ltb-true _ _ ((every_iff (λ j. ltb (rule_in s words j) (rule_count s)) n).0 h i l)

-- ---- what `one_rule` answers
module _ (s : Rules) (dimension key : ℕ) {r : ℕ} where
  pub rule_small : r ≡ rule_for s dimension key → rule_count s ≤ 64 → r < 4294967296
  unfolding rule_for
  rule_small e l = let w = only_within (applies s dimension key) (rule_count s) in omega arith
