-- `first_refusal::tests::rule_fits` meets its contract. Assumes nothing.
use native.Mathlib.Omega.{arith}
use Prim.Native.Nat.{◌+◌, ◌-◌, ◌*◌}
use mathlib.Core.Path.{refl, ◌∙◌}
use Rattle.first_refusal.proofs.Parts.{rule_alone, part_long, rules_long}
use Rattle.first_refusal.proofs.tests.rule_fits.Goals as goal

pub rules_fit-requires : goal.rules_fit-requires
rules_fit-requires c =
    rules_long c.args.rule_words.now c.args.rule_tolerances.now c.args.r {m = 3 * c.args.r + 3 - 3 * c.args.r} {k = c.args.r + 1 - c.args.r} (omega arith) (omega arith) (omega (arith, c.requires.0, c.requires.1)) (omega (arith, c.requires.0))

pub returns : goal.returns
returns c =
    c.rules_fit.ensures ∙ rule_alone c.args.rule_words.now c.args.rule_tolerances.now c.args.r {m = 3 * c.args.r + 3 - 3 * c.args.r} {k = c.args.r + 1 - c.args.r} (omega arith) (omega arith) (part_long 1 c.args.r c.args.rule_tolerances.now refl (omega (arith, c.requires.0)))
