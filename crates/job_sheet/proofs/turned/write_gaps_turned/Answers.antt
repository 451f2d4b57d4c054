-- `job_sheet::turned::write_gaps_turned` meets its contract. Assumes nothing.
use native.Mathlib.Omega.{arith}
use borrow.Author.Rules.{rules}
use Rattle.listing.proofs.Joined.{wrote_as}
use Rattle.listing.proofs.Length.{refused_room}
use Rattle.job_sheet.proofs.Places.{row_room, body_room, limit_room, row_inside, row_turned, body_turned, rule_turned, limit_turned, none_turned}
use Rattle.job_sheet.proofs.turned.write_gaps_turned.Goals as goal

pub bounds-words-row : goal.bounds-words-row
bounds-words-row c =
    let h = row_inside c.args.trailer _ _ _ _ _ c.first_refused-place.ensures c.in-Row.is in omega (arith, h)

pub write_refused_row-requires : goal.write_refused_row-requires
write_refused_row-requires c =
    row_room _ _ _ c.args.words.now _ (search rules) (search rules) (λ k. let word = c.shared_slice_known-2-1.given k in search (rules, word)) c.requires

pub write_refused_body-requires : goal.write_refused_body-requires
write_refused_body-requires c =
    body_room _ _ _ (search rules) (search rules) c.requires

pub write_refusal-requires : goal.write_refusal-requires
write_refusal-requires c =
    refused_room _ _ (search rules) (omega (arith, c.requires))

pub write_refused_limit-requires : goal.write_refused_limit-requires
write_refused_limit-requires c =
    limit_room _ _ (search rules) c.requires

pub write_refusal-requires-in-None : goal.write_refusal-requires-in-None
write_refusal-requires-in-None c =
    refused_room _ _ (search rules) (omega (arith, c.requires))

pub returns-in-Row : goal.returns-in-Row
returns-in-Row c =
    wrote_as (row_turned c.args.trailer _ _ _ _ _ c.first_refused-place.ensures c.in-Row.is) c.write_refused_row.ensures

pub returns-in-Body : goal.returns-in-Body
returns-in-Body c =
    wrote_as (body_turned c.args.trailer _ _ _ _ _ c.first_refused-place.ensures c.in-Body.is) c.write_refused_body.ensures

pub returns-in-Rule : goal.returns-in-Rule
returns-in-Rule c =
    wrote_as (rule_turned c.args.trailer _ _ _ _ _ c.first_refused-place.ensures c.in-Rule.is) c.write_refusal.ensures

pub returns-in-Limit : goal.returns-in-Limit
returns-in-Limit c =
    wrote_as (limit_turned c.args.trailer _ _ _ _ _ c.first_refused-place.ensures c.in-Limit.is) c.write_refused_limit.ensures

pub returns-in-None : goal.returns-in-None
returns-in-None c =
    wrote_as (none_turned c.args.trailer _ _ _ _ _ c.first_refused-place.ensures c.in-None.is) c.write_refusal-in-None.ensures
