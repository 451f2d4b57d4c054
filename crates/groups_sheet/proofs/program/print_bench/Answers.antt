-- `groups_sheet::program::print_bench` meets its contract. Assumes nothing.
use Rattle.groups_sheet.proofs.Alone.{bench_after}
use Rattle.groups_sheet.proofs.program.print_bench.Goals as goal

pub print_each-requires : goal.print_each-requires
print_each-requires c =
    bench_after c.requires.bench_room c.numbers-1.given c.words-1.given c.masses-1.given c.centres-1.given c.groups-1.given
