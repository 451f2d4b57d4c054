-- `job_stream::program::print_ready` meets its contract, and ends: each turn reads a byte at least. Assumes nothing.
use mathlib.Core.Path.{refl}
use native.Mathlib.Omega.{arith}
use borrow.Author.Rules.{rules}
use Rattle.job_stream.proofs.Progress.{kept_few, none_goes, some_read}
use Rattle.job_stream.proofs.Printing.{upto_none, upto_on, upto_left, upto_past}
use Rattle.job_stream.proofs.program.print_ready.Goals as goal

pub loop-at-init : goal.loop-at-init
loop-at-init c =
    (upto_none _ _, search rules, search rules)

pub returns-then-jobs-next : goal.returns-then-jobs-next
returns-then-jobs-next c =
    record { left = upto_left c.loop-at.invariant.0 (none_goes c.args.bytes.now c.loop-at.at c.write_jobs-jobs.ensures (search rules) (search rules) (omega (arith, c.requires)) (search rules)) refl (omega arith) (kept_few c.args.bytes.now c.loop-at.at c.write_jobs-jobs.ensures (search rules) (search rules) (omega (arith, c.requires)) (search rules)) }

pub returns-then-left-jobs : goal.returns-then-left-jobs
returns-then-left-jobs c =
    record { left = upto_past (upto_on c.loop-at.invariant.0 c.loop-at.invariant.1 c.write_jobs-jobs.ensures) (omega arith) (omega arith) }

pub loop-at-smaller : goal.loop-at-smaller
loop-at-smaller c =
    let s = some_read c.write_jobs-jobs.ensures (search rules) in omega (arith, c.loop-at-test.true)

pub loop-at-preserved : goal.loop-at-preserved
loop-at-preserved c =
    (upto_on c.loop-at.invariant.0 c.loop-at.invariant.1 c.write_jobs-jobs.ensures, search rules, search rules)

pub returns : goal.returns
returns c =
    record { left = upto_past c.loop-at.invariant.0 (search rules) (omega arith) }
