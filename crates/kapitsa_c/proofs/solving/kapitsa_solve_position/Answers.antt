-- `kapitsa_c::solving::kapitsa_solve_position` meets its contract. Assumes nothing.
use Rattle.solve_method.proofs.InPlace.{position_apart}
use Rattle.kapitsa_c.proofs.Telling.{told_lengths, told_on, untold}
use Rattle.kapitsa_c.proofs.solving.kapitsa_solve_position.Goals as goal

pub told_fits-requires : goal.told_fits-requires
told_fits-requires c =
    record {}

pub returns-then-not-told_fits : goal.returns-then-not-told_fits
returns-then-not-told_fits c =
    untold _ _ _ _ _ _ _ _ _ _ _ (position_apart _ _ _ _) _ _ _ c.told_fits.ensures c.if-not-told_fits.true-raw

pub solve_position_pcg_prepared-answer-requires : goal.solve_position_pcg_prepared-answer-requires
solve_position_pcg_prepared-answer-requires c =
    record {}

pub tell-requires : goal.tell-requires
tell-requires c =
    told_lengths c.args.counts.now c.args.maxima.now _ c.told_fits.ensures c.if-not-told_fits.false-raw

pub returns : goal.returns
returns c =
    told_on _ _ _ _ _ _ _ _ _ _ _ (position_apart _ _ _ _) _ _ _ c.told_fits.ensures _ _ _ _ _ c.if-not-told_fits.false-raw c.solve_position_pcg_prepared-answer.ensures c.tell.ensures
