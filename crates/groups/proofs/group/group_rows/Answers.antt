-- `groups::group::group_rows` meets its contract. Assumes nothing.
use native.Mathlib.Omega.{arith}
use Rattle.groups.proofs.Number.{group_keys, grouped, zeroed_long}
use Rattle.groups.proofs.group.group_rows.Goals as goal

pub number_rows-count-requires-clause-keys_below : goal.number_rows-count-requires-clause-keys_below
number_rows-count-requires-clause-keys_below c =
    group_keys _ _ _ _ c.requires.linked _ c.join_rows.ensures.labels _ _ c.key_rows.ensures _
    (omega (arith, zeroed_long c.zero.ensures, c.join_rows.ensures.labels_len_unchanged, c.requires.rows_in_bounds_2.0))

pub returns-clause-grouped : goal.returns-clause-grouped
returns-clause-grouped c =
    grouped _ _ _ _ c.requires.linked _ c.join_rows.ensures.labels _ _ c.key_rows.ensures _ _ c.number_rows-count.ensures.numbered
