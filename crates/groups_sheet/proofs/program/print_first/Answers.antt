-- `groups_sheet::program::print_first` meets its contract: the line is within the text. Assumes nothing.
use borrow.Author.Rules.{rules}
use Rattle.groups_sheet.proofs.Words.{groups_room}
use Rattle.groups_sheet.proofs.program.print_first.Goals as goal

pub groups_line-end-requires : goal.groups_line-end-requires
groups_line-end-requires c =
    groups_room _ _ _ (search rules) (search rules) (search rules)
