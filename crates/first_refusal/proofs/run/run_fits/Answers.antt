-- `first_refusal::run::run_fits` meets its contract. Assumes nothing.
use native.Mathlib.Omega.{arith}
use Rattle.first_refusal.proofs.Runs.{run_none, run_some_fits, run_inside}
use Rattle.first_refusal.proofs.run.run_fits.Goals as goal

pub run_begins-requires : goal.run_begins-requires
run_begins-requires c =
    omega (arith, c.requires.0, c.requires.1)

pub returns-then-not-run_begins : goal.returns-then-not-run_begins
returns-then-not-run_begins c =
    run_none c.args.words.now c.args.rows c.args.i c.run_begins.ensures c.if-not-run_begins.true-raw

pub run_length-len-requires : goal.run_length-len-requires
run_length-len-requires c =
    c.requires

pub one_pair-requires : goal.one_pair-requires
one_pair-requires c =
    (omega (arith, c.requires.0, run_inside c.args.words.now c.args.rows c.args.i c.requires.1 c.run_length-len.ensures), omega (arith, c.requires.0, c.requires.1))

pub returns : goal.returns
returns c =
    run_some_fits c.args.words.now c.args.rows c.args.i c.run_begins.ensures c.if-not-run_begins.false-raw c.run_length-len.ensures c.one_pair.ensures
