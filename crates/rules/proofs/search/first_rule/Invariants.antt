-- `rules::search::first_rule` meets its contract: no rule from `start` on and below r applies. Assumes nothing.
use lib.ListN.{length}
use Rattle.rules.specs.Rules.{applies}
use Rattle.rules.specs.Rows.{rules_in}
use Rattle.rules.proofs.Finding.{Passed}
use Rattle.rules.proofs.search.first_rule.Given as goal

abbrev pub invariant-loop-r : goal.invariant-loop-r
invariant-loop-r l =
    Passed (applies (rules_in l.words l.tolerances) l.dimension l.key) (length l.tolerances) l.start l.r
