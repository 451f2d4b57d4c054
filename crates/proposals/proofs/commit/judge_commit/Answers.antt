-- `proposals::commit::judge_commit` meets its contract. Assumes nothing.
use mathlib.Core.Path.{refl}
use native.Mathlib.Omega.{arith}
use Rattle.loops.proofs.Judge.{judge_done, judge_fail, judge_pass}
use Rattle.proposals.specs.Commit.{commit_tests}
use Rattle.proposals.proofs.Judging.{lent_lengths}
use Rattle.proposals.proofs.commit.judge_commit.Goals as goal

pub returns-then-not-commit_lent : goal.returns-then-not-commit_lent
unfolding commit_tests
returns-then-not-commit_lent c =
    judge_fail 3 _ _ c.commit_lent.ensures c.if-not-commit_lent.true-raw

pub bounds-proposal-3 : goal.bounds-proposal-3
unfolding commit_tests
bounds-proposal-3 c =
    let l = lent_lengths _ _ _ _ _ c.commit_lent.ensures c.if-not-commit_lent.false-raw in omega (arith, l.0)

pub returns-then-not-proposal : goal.returns-then-not-proposal
unfolding commit_tests
returns-then-not-proposal c =
    judge_pass 3 _ _ c.commit_lent.ensures c.if-not-commit_lent.false-raw (judge_fail 29 _ _ refl c.if-not-proposal.true-raw)

pub bounds-proposal-0 : goal.bounds-proposal-0
unfolding commit_tests
bounds-proposal-0 c =
    let l = lent_lengths _ _ _ _ _ c.commit_lent.ensures c.if-not-commit_lent.false-raw in omega (arith, l.0)

pub starts_from-requires : goal.starts_from-requires
unfolding commit_tests
starts_from-requires c =
    let l = lent_lengths _ _ _ _ _ c.commit_lent.ensures c.if-not-commit_lent.false-raw in (l.1, l.3)

pub returns-then-not-starts_from : goal.returns-then-not-starts_from
unfolding commit_tests
returns-then-not-starts_from c =
    judge_pass 3 _ _ c.commit_lent.ensures c.if-not-commit_lent.false-raw (judge_pass 29 _ _ refl c.if-not-proposal.false-raw (judge_fail 30 _ _ c.starts_from.ensures c.if-not-starts_from.true-raw))

pub returns : goal.returns
unfolding commit_tests
returns c =
    judge_pass 3 _ _ c.commit_lent.ensures c.if-not-commit_lent.false-raw (judge_pass 29 _ _ refl c.if-not-proposal.false-raw (judge_pass 30 _ _ c.starts_from.ensures c.if-not-starts_from.false-raw judge_done))
