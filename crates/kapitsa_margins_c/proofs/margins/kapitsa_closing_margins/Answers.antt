-- `kapitsa_margins_c::margins::kapitsa_closing_margins` meets its contract. Assumes nothing.
use mathlib.Core.List.{[]}
use Rattle.kapitsa_joint.specs.declared.kind.Kind.TheVariants as kinds
use Rattle.mass_operator.specs.Flat.{coefficients}
use Rattle.kapitsa_c.proofs.Verdicts.{told_lengths}
use Rattle.kapitsa_margins_c.proofs.Listed.{listed_on, unlisted}
use Rattle.kapitsa_margins_c.proofs.margins.kapitsa_closing_margins.Goals as goal

pub returns-then-not-verdict_fits : goal.returns-then-not-verdict_fits
returns-then-not-verdict_fits c =
    unlisted kinds.Position _ _ _ (coefficients []) _ _ _ _ _ _ _ _ c.verdict_fits.ensures c.if-not-verdict_fits.true-raw

pub tell_verdict-requires : goal.tell_verdict-requires
tell_verdict-requires c =
    told_lengths _ _ c.verdict_fits.ensures c.if-not-verdict_fits.false-raw

pub returns : goal.returns
returns c =
    listed_on kinds.Position _ _ _ (coefficients []) _ _ _ _ _ _ _ _
    c.verdict_fits.ensures
    c.if-not-verdict_fits.false-raw
    c.closing_margins-answer.ensures
    c.tell_verdict.ensures
