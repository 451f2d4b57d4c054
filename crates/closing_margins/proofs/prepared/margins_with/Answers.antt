-- `closing_margins::prepared::margins_with` meets its contract. Assumes nothing.
use mathlib.Core.Path.{refl}
use native.Mathlib.Omega.{arith}
use lib.ListN.{length}
use Rattle.rules.specs.Rows.{rules_in}
use Rattle.closing_gaps.specs.Gaps.{gaps_lent}
use Rattle.closing_margins.proofs.Entry.{held_on, places_are, same_fits, sized_on}
use Rattle.closing_margins.proofs.prepared.margins_with.Goals as goal

pub list_closed-requires : goal.list_closed-requires
list_closed-requires c =
    record { rows_bound = (c.requires.0, omega (arith, c.gaps-1.given, c.requires.2), (places_are c.args.rows _ _ c.requires.1).0, (places_are c.args.rows _ _ c.requires.1).1); closed_sized = sized_on c.args.kind c.args.rows c.args.bodies _ _ (gaps_lent c.args.rows (length c.args.gaps.now)) _ refl c.gaps_prepared-answer.ensures }

pub returns : goal.returns
returns c =
    held_on c.args.kind c.args.rows c.args.bodies c.args.numbers.now c.args.words.now c.args.masses.now c.args.beside.now c.args.multipliers.now (rules_in c.args.rule_words.now c.args.rule_tolerances.now)
    (same_fits _ c.requires.2 c.requires.1) c.gaps_prepared-answer.ensures c.list_closed.ensures
