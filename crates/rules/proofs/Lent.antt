-- What the code reads of the lent words is what the definitions read of the table. Assumes nothing.
use Prim.Native.Nat.{ℕ}
use mathlib.Core.Path.{◌≡◌, refl}
use mathlib.Core.List.{List}
use lib.Ieee.{Float}
use Rattle.kapitsa_joint.specs.Row.{words_of, row_of}
use Rattle.kapitsa_joint.specs.Table.{table_of}
use Rattle.rules.specs.Rules.{Rules, rule_of, passes28, ruled_by}
use Rattle.rules.specs.Rows.{rule_in, tolerance_in, rows_ruled}

module _ (s : Rules) (rows bodies : ℕ) (numbers : List Float) (words : List ℕ) (masses : List Float) where
  pub lent_rule : (i : ℕ) → rule_in s words i ≡ rule_of s (table_of rows bodies numbers words masses) i
  unfolding row_of words_of
  lent_rule i = refl

  pub lent_tolerance : (i : ℕ) → tolerance_in s words i ≡ (ruled_by s (table_of rows bodies numbers words masses)).row i
  unfolding row_of words_of
  lent_tolerance i = refl

  pub lent_28 : rows_ruled s words rows ≡ passes28 s (table_of rows bodies numbers words masses)
  unfolding rows_ruled passes28 row_of words_of
  lent_28 = refl
