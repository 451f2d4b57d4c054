-- `inertia::inverse::inverse_spd` meets its contract. Assumes nothing.
use borrow.Author.Rules.{rules}
use Rattle.loops.specs.Run.{on}
use Rattle.inertia.specs.Inverse.{inverse_run}
use Rattle.inertia.proofs.Inverting.{inverse_done}
use Rattle.inertia.proofs.NoMinusZero.{inverse_means, inverse_none}
use Rattle.inertia.proofs.inverse.inverse_spd.Goals as goal

pub returns-in_err-factor_spd : goal.returns-in_err-factor_spd
unfolding inverse_run on
returns-in_err-factor_spd c = search (inverse_none, rules)

pub returns : goal.returns
returns c =
    let made = c.factor_spd.ensures.m_value in
    let factor = c.in_ok-factor_spd.was in
    record { m_value = inverse_done _ made _ factor c.columns.ensures; inverse_meaning = inverse_means _ made _ factor c.columns.ensures }
