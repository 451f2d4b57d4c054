-- `position::prepare::prepare_row` meets its contract. Assumes nothing.
use borrow.Author.Rules.{rules}
use Rattle.position.proofs.Valid.{mass_a, mass_b}
use Rattle.position.proofs.Ways.{row_on, row_seven}
use Rattle.position.proofs.prepare.prepare_row.Goals as goal

ruleset known = (mass_a, mass_b, rules)

pub returns-then-not-is_valid_at : goal.returns-then-not-is_valid_at
returns-then-not-is_valid_at c =
    row_seven _ _ _ _ _ c.args.tolerances.now c.args.residual _ _ c.is_valid_at.ensures (search rules)

pub row_diagonal-requires : goal.row_diagonal-requires
row_diagonal-requires c =
    search known

pub returns : goal.returns
returns c =
    row_on _ _ _ _ _ c.args.tolerances.now c.args.residual _ _ c.is_valid_at.ensures _ _ (search rules) c.row_at-row.ensures c.row_diagonal.ensures c.judge_diagonal.ensures
