-- `groups_sheet::lines::put_rows` meets its contract: the words of the rows below i are written. Assumes nothing.
use Rattle.listing.proofs.Pieces.{Writing}
use Rattle.groups_sheet.specs.Text.{row_word}
use Rattle.groups_sheet.proofs.lines.put_rows.Given as goal

abbrev pub invariant-loop-i : goal.invariant-loop-i
invariant-loop-i l = Writing l.initial.out l.at (row_word l.groups l.g) l.rows l.i l.out l.next
