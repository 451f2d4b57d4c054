-- `position_steps::ready::row_ready_at` meets its contract. Assumes nothing.
use borrow.Author.Rules.{rules}
use Rattle.position_steps.proofs.AtOnce.{row_unready, row_ruled, fit_words}
use Rattle.position_steps.proofs.ready.row_ready_at.Goals as goal

pub returns-then-not-row_words_fit-opens_by_kind : goal.returns-then-not-row_words_fit-opens_by_kind
returns-then-not-row_words_fit-opens_by_kind c =
    row_unready _ _ _ _ _ c.words_at-w.ensures c.scalars_at-s.ensures c.row_words_fit.ensures c.opens_by_kind.ensures c.if-not-row_words_fit-opens_by_kind.true-raw

pub one_rule_of-requires : goal.one_rule_of-requires
one_rule_of-requires c =
    record { tolerances_in_bounds = search rules; plain_value = search rules; key_bound = fit_words _ _ c.row_words_fit.ensures c.if-not-row_words_fit-opens_by_kind.false-raw }

pub returns : goal.returns
returns c =
    row_ruled _ _ _ _ _ c.words_at-w.ensures c.scalars_at-s.ensures c.row_words_fit.ensures c.opens_by_kind.ensures c.if-not-row_words_fit-opens_by_kind.false-raw c.one_rule_of.ensures
