-- `sparse::cholesky::factor_at` meets its contract. Assumes nothing.
use Rattle.loops.proofs.Loop.{loops}
use Rattle.sparse.proofs.Marks.{column_on, column_out_lem, row_marks, written_there}
use Rattle.sparse.proofs.cholesky.factor_at.Goals as goal

ruleset known = (column_on, column_out_lem, row_marks, loops)

pub returns-then-not-is_finite : goal.returns-then-not-is_finite
returns-then-not-is_finite c =
    record {
      values_value = search (known, c.requires.row, c.requires.values_len, c.requires.first_le_p, c.requires.p_lt_end);
      marked_2 = search (known, c.requires.row, c.requires.starts_len, c.requires.first_le_p, c.requires.p_lt_end, c.requires.mark_value, c.requires.marked);
      values_after = search (written_there, loops, c.requires.row, c.requires.values_len, c.requires.first_le_p, c.requires.p_lt_end);
    }

pub returns : goal.returns
returns c =
    record {
      values_value = search (known, c.requires.row, c.requires.values_len, c.requires.first_le_p, c.requires.p_lt_end);
      marked_2 = search (known, c.requires.row, c.requires.starts_len, c.requires.first_le_p, c.requires.p_lt_end, c.requires.mark_value, c.requires.marked);
      values_after = search (written_there, loops, c.requires.row, c.requires.values_len, c.requires.first_le_p, c.requires.p_lt_end);
    }
