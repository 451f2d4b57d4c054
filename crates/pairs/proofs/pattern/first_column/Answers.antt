-- `pairs::pattern::first_column` meets its contract. Assumes nothing.
use native.Mathlib.Omega.{arith}
use Rattle.pairs.proofs.Firsts.{begin_lower, firsts_more}
use Rattle.pairs.proofs.pattern.first_column.Goals as goal

pub returns-then-a-b : goal.returns-then-a-b
returns-then-a-b c =
    record {
      begin = begin_lower _ _ _ _ _ _ _ _ c.wide-at.ensures c.requires.firsts c.first_row-a.ensures c.first_row-b.ensures _ (omega arith) (omega arith);
      firsts_2 = firsts_more _ _ _ _ _ _ _ _ c.wide-at.ensures c.requires.firsts c.first_row-a.ensures c.first_row-b.ensures;
    }

pub returns : goal.returns
returns c =
    record {
      begin = begin_lower _ _ _ _ _ _ _ _ c.wide-at.ensures c.requires.firsts c.first_row-a.ensures c.first_row-b.ensures _ (omega arith) (omega arith);
      firsts_2 = firsts_more _ _ _ _ _ _ _ _ c.wide-at.ensures c.requires.firsts c.first_row-a.ensures c.first_row-b.ensures;
    }
