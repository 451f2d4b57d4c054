-- One tolerance for each dimension, whatever the key: two rules over all keys, the linear rows' first. A row's rule is then its dimension (`plain_rule`).
use Rattle.std.specs.Prelude.{ℕ, Bool, ◌&&◌, eqb}
use Rattle.rules.specs.Rules.{Rules, rule_count, rule_dimension, first_key, last_key}

-- rule d is that of dimension d, and of every key
unfoldable pub spans_keys : Rules → ℕ → Bool
spans_keys s d = (eqb (rule_dimension s d) d && eqb (first_key s d) 0) && eqb (last_key s d) 255

unfoldable pub plain_rules : Rules → Bool
plain_rules s = eqb (rule_count s) 2 && (spans_keys s 0 && spans_keys s 1)
