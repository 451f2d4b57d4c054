-- `kapitsa_groups_c::benches::kapitsa_solve_velocity_groups` meets its contract. Assumes nothing.
use Rattle.kapitsa_groups_c.proofs.Grouping.{bench_on, bench_untold, count_length}
use Rattle.kapitsa_groups_c.proofs.benches.kapitsa_solve_velocity_groups.Goals as goal

pub returns-then-not-count_fits : goal.returns-then-not-count_fits
returns-then-not-count_fits c =
    bench_untold _ _ _ _ c.count_fits.ensures c.if-not-count_fits.true-raw

pub tell_groups-requires : goal.tell_groups-requires
tell_groups-requires c =
    count_length _ c.count_fits.ensures c.if-not-count_fits.false-raw

pub returns : goal.returns
returns c =
    bench_on _ _ _ _
    c.count_fits.ensures
    c.if-not-count_fits.false-raw
    c.solve_velocity_groups-answer.ensures
    c.tell_groups.ensures
