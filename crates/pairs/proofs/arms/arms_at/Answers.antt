-- `pairs::arms::arms_at` meets its contract. Assumes nothing.
use borrow.Author.Rules.{rules}
use Rattle.pairs.proofs.Crosses.{mass_a, mass_b}
use Rattle.pairs.specs.Gather.{arms_of}
use Rattle.pairs.proofs.arms.arms_at.Goals as goal

ruleset known = (mass_a, mass_b, rules)

pub arm_at-requires : goal.arm_at-requires
unfolding arms_of
arm_at-requires c =
    search known

pub arm_at-requires-2 : goal.arm_at-requires-2
unfolding arms_of
arm_at-requires-2 c =
    search known

pub returns : goal.returns
unfolding arms_of
returns c =
    rw (c.arm_at-2.ensures, c.arm_at.ensures, c.compact_at-row.ensures)
