-- `job_sheet::sheet::write_file` meets its contract. Assumes nothing.
use mathlib.Core.Path.{refl}
use Rattle.listing.proofs.Joined.{wrote_as}
use Rattle.job_sheet.proofs.Ways.{room_after, rows_held, masses_held, sheet_read, sheet_turned}
use Rattle.job_sheet.proofs.sheet.write_file.Goals as goal

pub read_rows-requires : goal.read_rows-requires
read_rows-requires c =
    (rows_held c.args.file.now c.args.trailer c.requires.file_value, c.requires.job_room.numbers_long, c.requires.job_room.words_long)

pub read_masses-requires : goal.read_masses-requires
read_masses-requires c =
    (masses_held c.args.file.now c.args.trailer c.requires.file_value, c.requires.job_room.masses_long)

pub read_centres-requires : goal.read_centres-requires
read_centres-requires c =
    (masses_held c.args.file.now c.args.trailer c.requires.file_value, c.requires.job_room.centres_long)

pub keys_fit-requires : goal.keys_fit-requires
keys_fit-requires c =
    rows_held c.args.file.now c.args.trailer c.requires.file_value

pub write_turned-requires : goal.write_turned-requires
write_turned-requires c =
    c.requires.in_bounds

pub returns-then-not-keys_fit : goal.returns-then-not-keys_fit
returns-then-not-keys_fit c =
    wrote_as (sheet_turned c.args.file.now c.args.trailer c.requires.file_value c.args.sheet c.keys_fit.ensures c.read_rows.ensures.0 c.read_rows.ensures.1 c.read_masses.ensures c.read_centres.ensures c.if-not-keys_fit.true) c.write_turned.ensures

pub write_job-requires : goal.write_job-requires
write_job-requires c =
    record { job_room = room_after c.requires.job_room c.numbers-1.given c.words-1.given c.masses-1.given c.centres-1.given refl refl refl; in_bounds = c.requires.in_bounds }

pub returns : goal.returns
returns c =
    wrote_as (sheet_read c.args.file.now c.args.trailer c.requires.file_value c.args.sheet c.keys_fit.ensures c.read_rows.ensures.0 c.read_rows.ensures.1 c.read_masses.ensures c.read_centres.ensures c.if-not-keys_fit.false) c.write_job.ensures
