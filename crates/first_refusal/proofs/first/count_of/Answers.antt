-- `first_refusal::first::count_of` meets its contract. Assumes nothing.
use Rattle.first_refusal.proofs.Places.{count_bodies, count_rules, count_rows}
use Rattle.first_refusal.proofs.first.count_of.Goals as goal

pub returns-then-number-eq6 : goal.returns-then-number-eq6
returns-then-number-eq6 c =
    count_bodies _ _ _ _ c.if-number-eq6.true

pub returns-then-number-eq27 : goal.returns-then-number-eq27
returns-then-number-eq27 c =
    count_rules _ _ _ _ c.if-number-eq6.false c.if-number-eq27.true

pub returns : goal.returns
returns c =
    count_rows _ _ _ _ c.if-number-eq6.false c.if-number-eq27.false
