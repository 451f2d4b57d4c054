-- `position_steps::opening::all_ready` meets its contract. Assumes nothing.
use mathlib.Core.Path.{sym}
use mathlib.Core.Bool.{true≢false}
use Rattle.position_steps.proofs.AtOnce.{all_at_once}
use Rattle.position_steps.proofs.opening.all_ready.Goals as goal

pub returns-then-not-placed : goal.returns-then-not-placed
returns-then-not-placed c =
    λ e. absurd (true≢false (sym e))

pub returns-then-not-shift_fits : goal.returns-then-not-shift_fits
returns-then-not-shift_fits c =
    λ e. absurd (true≢false (sym e))

pub returns-then-limit-eq0 : goal.returns-then-limit-eq0
returns-then-limit-eq0 c =
    λ e. absurd (true≢false (sym e))

pub returns-then-not-rules_fit : goal.returns-then-not-rules_fit
returns-then-not-rules_fit c =
    λ e. absurd (true≢false (sym e))

pub returns-then-not-rows_ready : goal.returns-then-not-rows_ready
returns-then-not-rows_ready c =
    λ e. absurd (true≢false (sym e))

pub returns-then-not-masses_finite : goal.returns-then-not-masses_finite
returns-then-not-masses_finite c =
    λ e. absurd (true≢false (sym e))

pub returns : goal.returns
returns c =
    λ e. all_at_once c.args.kind c.args.rows c.args.bodies c.args.numbers.now c.args.words.now c.args.masses.now c.args.given.now _ _ _ _
    c.if-not-placed.false-raw c.shift_fits.ensures c.if-not-shift_fits.false-raw c.if-limit-eq0.false c.rules_fit.ensures c.if-not-rules_fit.false-raw c.wide.ensures c.rows_ready.ensures c.if-not-rows_ready.false-raw c.wide-2.ensures c.masses_finite.ensures c.if-not-masses_finite.false-raw c.given_fits.ensures e
