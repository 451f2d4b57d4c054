-- `proposals::commit::commit_proposal` meets its contract. Assumes nothing.
use mathlib.Core.Path.{refl}
use native.Mathlib.Omega.{arith}
use Rattle.proposals.proofs.Judging.{committed_done, committed_refused, passed_lengths}
use Rattle.proposals.proofs.commit.commit_proposal.Goals as goal

pub returns-in_err-judge_commit : goal.returns-in_err-judge_commit
returns-in_err-judge_commit c = committed_refused _ _ _ _ _ c.judge_commit.ensures _ _ c.in_err-judge_commit.was c.from_residual.ensures.1

pub bounds-proposal-2 : goal.bounds-proposal-2
bounds-proposal-2 c = let l = passed_lengths _ _ _ _ _ c.judge_commit.ensures c.in_ok-judge_commit.was in omega (arith, l.0)

pub gain_after-requires : goal.gain_after-requires
gain_after-requires c = let l = passed_lengths _ _ _ _ _ c.judge_commit.ensures c.in_ok-judge_commit.was in (omega arith, l.1)

pub bounds-proposal-3 : goal.bounds-proposal-3
bounds-proposal-3 c = let l = passed_lengths _ _ _ _ _ c.judge_commit.ensures c.in_ok-judge_commit.was in omega (arith, l.0)

pub returns : goal.returns
returns c = committed_done _ _ _ _ _ c.judge_commit.ensures c.in_ok-judge_commit.was c.gain_after.ensures refl
