-- `closing_gaps::small::gaps_small` meets its contract. Assumes nothing.
use lib.ListN.{length}
use Rattle.closing_check.proofs.Entry.{passed_3}
use Rattle.closing_gaps.specs.Gaps.{gaps_lent}
use Rattle.closing_gaps.proofs.OwnMemory.{gaps_alone_3}
use Rattle.closing_gaps.proofs.small.gaps_small.Goals as goal

pub returns-then-not-given_fits : goal.returns-then-not-given_fits
returns-then-not-given_fits c =
    gaps_alone_3 (gaps_lent c.args.n (length c.args.gaps.now)) _ _ _ _ c.given_fits.ensures c.if-not-given_fits.true-raw

pub with_small_memory-requires : goal.with_small_memory-requires
with_small_memory-requires c =
    record { rule_numbers_value = passed_3 c.given_fits.ensures c.if-not-given_fits.false-raw; n_bound = c.requires }

pub returns : goal.returns
returns c =
    c.with_small_memory.ensures
