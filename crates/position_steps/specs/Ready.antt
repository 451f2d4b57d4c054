-- What 4, 5 and 28 ask of a row, asked at once.
use Rattle.std.specs.Prelude.{ℕ, ◌*◌, Bool, ◌&&◌, List, ltb, Float}
use Rattle.kapitsa_joint.specs.Row.{words_of}
use Rattle.kapitsa_joint.specs.declared.kind.Kind.{Kind}
use Rattle.joint_refusals.specs.Refusals.{words_fit_of}
use Rattle.rules.specs.Rules.{Rules, rule_count}
use Rattle.rules.specs.Rows.{rule_in}
use Rattle.position_steps.specs.Opening.{opens_in}

unfoldable pub row_ready : Kind → Rules → List Float → List ℕ → ℕ → Bool
row_ready kind rules numbers words i = (words_fit_of (words_of words (8 * i)) && opens_in kind numbers words i) && ltb (rule_in rules words i) (rule_count rules)
