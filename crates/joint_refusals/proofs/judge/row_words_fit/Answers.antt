-- `joint_refusals::judge::row_words_fit` meets its contract. Assumes nothing.
use mathlib.Core.Path.{refl}
use Rattle.joint_refusals.specs.Refusals.{words_fit_of}
use Rattle.joint_refusals.proofs.judge.row_words_fit.Goals as goal

pub returns : goal.returns
unfolding words_fit_of
returns c =
    refl
