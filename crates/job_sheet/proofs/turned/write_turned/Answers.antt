-- `job_sheet::turned::write_turned` meets its contract. Assumes nothing.
use native.Mathlib.Omega.{arith}
use borrow.Author.Rules.{rules}
use Rattle.listing.proofs.Joined.{wrote_as}
use Rattle.listing.proofs.Length.{refused_room}
use Rattle.job_sheet.proofs.Places.{job_turned, margins_turned, gaps_turned_lem}
use Rattle.job_sheet.proofs.turned.write_turned.Goals as goal

pub write_refusal-requires : goal.write_refusal-requires
write_refusal-requires c =
    refused_room _ _ (search rules) (omega (arith, c.requires))

pub write_refusal-requires-in-Margins : goal.write_refusal-requires-in-Margins
write_refusal-requires-in-Margins c =
    refused_room _ _ (search rules) (omega (arith, c.requires))

pub write_gaps_turned-requires : goal.write_gaps_turned-requires
write_gaps_turned-requires c =
    c.requires

pub returns-in-Job : goal.returns-in-Job
returns-in-Job c =
    wrote_as (job_turned _ _ c.in-Job.is) c.write_refusal.ensures

pub returns-in-Margins : goal.returns-in-Margins
returns-in-Margins c =
    wrote_as (margins_turned _ _ c.in-Margins.is) c.write_refusal-in-Margins.ensures

pub returns-in-Gaps : goal.returns-in-Gaps
returns-in-Gaps c =
    wrote_as (gaps_turned_lem _ _ c.in-Gaps.is) c.write_gaps_turned.ensures
