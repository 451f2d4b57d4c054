-- `job_stream::chunk::write_jobs` meets its contract, and ends: each turn takes bytes. Assumes nothing.
use Prim.Native.Nat.{◌-◌}
use mathlib.Core.Path.{sym, ◌∙◌}
use native.Mathlib.Omega.{arith}
use Rattle.job_stream.proofs.Going.{goes, going_none, going_within, going_on, going_end, turn_less}
use Rattle.job_stream.proofs.chunk.write_jobs.Goals as goal

pub loop-out-init : goal.loop-out-init
loop-out-init c =
    going_none _ _ _

pub overflow_sub-out : goal.overflow_sub-out
overflow_sub-out c =
    going_within c.loop-out.invariant

pub write_at-end-requires : goal.write_at-end-requires
write_at-end-requires c =
    let t = goes c.loop-out.next _ c.loop-out.at c.args.bytes.now (sym c.goes_on.ensures ∙ c.loop-out-test.true) in record { at_in_bounds = omega arith; end_in_bounds = omega arith }

pub next_place-at-requires : goal.next_place-at-requires
next_place-at-requires c =
    (goes c.loop-out.next _ c.loop-out.at c.args.bytes.now (sym c.goes_on.ensures ∙ c.loop-out-test.true)).begun

pub overflow_add-next : goal.overflow_add-next
overflow_add-next c =
    let n = (goes c.loop-out.next _ c.loop-out.at c.args.bytes.now (sym c.goes_on.ensures ∙ c.loop-out-test.true)).numbered in omega arith

pub loop-out-smaller : goal.loop-out-smaller
loop-out-smaller c =
    turn_less c.args.bytes.now c.loop-out.at (goes c.loop-out.next _ c.loop-out.at c.args.bytes.now (sym c.goes_on.ensures ∙ c.loop-out-test.true)).begun c.next_place-at.ensures

pub loop-out-preserved : goal.loop-out-preserved
loop-out-preserved c =
    going_on c.loop-out.invariant (sym c.goes_on.ensures ∙ c.loop-out-test.true) c.write_at-end.ensures c.next_place-at.ensures

pub returns : goal.returns
returns c =
    going_end c.loop-out.invariant (sym c.goes_on.ensures ∙ c.loop-out-test.false)
