-- `job_sheet::solved::write_solved` meets its contract. Assumes nothing.
use Rattle.listing.proofs.Joined.{wrote_as}
use Rattle.job_sheet.proofs.Ways.{check_room, job_shown, margins_shown, gaps_shown}
use Rattle.job_sheet.proofs.solved.write_solved.Goals as goal

pub write_accepted-requires : goal.write_accepted-requires
write_accepted-requires c =
    record { job_room = c.requires.job_room; in_bounds = c.requires.in_bounds }

pub write_margins_accepted-requires : goal.write_margins_accepted-requires
write_margins_accepted-requires c =
    record { check_room = check_room c.requires.job_room; in_bounds = c.requires.in_bounds }

pub write_gaps_accepted-requires : goal.write_gaps_accepted-requires
write_gaps_accepted-requires c =
    record { check_room = check_room c.requires.job_room; in_bounds = c.requires.in_bounds }

pub returns-in-Job : goal.returns-in-Job
returns-in-Job c =
    wrote_as (job_shown _ _ _ _ _ _ c.in-Job.is) c.write_accepted.ensures

pub returns-in-Margins : goal.returns-in-Margins
returns-in-Margins c =
    wrote_as (margins_shown _ _ _ _ _ _ c.in-Margins.is) c.write_margins_accepted.ensures

pub returns-in-Gaps : goal.returns-in-Gaps
returns-in-Gaps c =
    wrote_as (gaps_shown _ _ _ _ _ _ c.in-Gaps.is) c.write_gaps_accepted.ensures
