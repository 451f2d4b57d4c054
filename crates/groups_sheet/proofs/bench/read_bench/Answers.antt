-- `groups_sheet::bench::read_bench` meets its contract. Assumes nothing.
use mathlib.Core.Path.{refl}
use Rattle.job_sheet.proofs.Ways.{rows_held, masses_held}
use Rattle.groups_sheet.proofs.Opened.{opened_first}
use Rattle.groups_sheet.proofs.Whole.{read_is}
use Rattle.groups_sheet.proofs.Alone.{bench_after}
use Rattle.groups_sheet.proofs.bench.read_bench.Goals as goal

pub read_rows-requires : goal.read_rows-requires
read_rows-requires c =
    (rows_held c.args.file.now c.args.trailer (opened_first c.args.file.now c.args.trailer c.requires.file_value), c.requires.bench_room.numbers_long, c.requires.bench_room.words_long)

pub read_masses-requires : goal.read_masses-requires
read_masses-requires c =
    (masses_held c.args.file.now c.args.trailer (opened_first c.args.file.now c.args.trailer c.requires.file_value), c.requires.bench_room.masses_long)

pub read_centres-requires : goal.read_centres-requires
read_centres-requires c =
    (masses_held c.args.file.now c.args.trailer (opened_first c.args.file.now c.args.trailer c.requires.file_value), c.requires.bench_room.centres_long)

pub group_job-requires : goal.group_job-requires
group_job-requires c =
    bench_after c.requires.bench_room c.numbers-1.given c.words-1.given c.masses-1.given c.centres-1.given refl

pub returns : goal.returns
returns c =
    read_is c.args.file.now c.args.trailer c.requires.file_value c.read_rows.ensures.0 c.read_rows.ensures.1 c.read_masses.ensures c.read_centres.ensures c.group_job.ensures
