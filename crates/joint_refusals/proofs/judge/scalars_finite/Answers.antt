-- `joint_refusals::judge::scalars_finite` meets its contract. Assumes nothing.
use Rattle.joint_refusals.specs.Refusals.{scalars_finite_of}
use Rattle.joint_refusals.proofs.judge.scalars_finite.Goals as goal

pub returns : goal.returns
unfolding scalars_finite_of
returns c =
    rw (c.is_finite.ensures, c.is_finite-2.ensures, c.is_finite-3.ensures, c.is_finite-4.ensures, c.is_finite-5.ensures, c.is_finite-6.ensures, c.is_finite-7.ensures, c.is_finite-8.ensures)
