-- `position_steps::running::run_steps` meets its contract. Assumes nothing.
use mathlib.Core.Path.{◌≡◌, ap}
use borrow.Author.Rules.{rules}
use Rattle.std.proofs.lemmas.Result.{err_from_is_err_and}
use Rattle.refusals.specs.Told.{told}
use Rattle.position_steps.proofs.Factored.{factor_told, factor_holds, factor_stands, factor_runs}
use Rattle.position_steps.proofs.Stepping.{run_refused, run_met, run_unbuilt, run_built, run_on}
use Rattle.position_steps.proofs.running.run_steps.Goals as goal

pub returns-in_err-begun-clause-limit_value : goal.returns-in_err-begun-clause-limit_value
returns-in_err-begun-clause-limit_value c =
    let p = err_from_is_err_and c.from_residual.result c.from_residual.ensures.1 in
    rw (p.1, p.2) (run_refused _ _ _ _ _ _ _ _ _ _ _ c.in_err-begun.was)

pub returns-then-meets-factor_first-clause-limit_value : goal.returns-then-meets-factor_first-clause-limit_value
returns-then-meets-factor_first-clause-limit_value c =
    run_met _ _ _ _ _ _ _ _ _ _ c.in_ok-begun.was _ c.position_vector_converged-meets.ensures c.requires.body_impulses_len.3 c.if-meets-factor_first.true

pub build_preconditioner-requires-clause-linked : goal.build_preconditioner-requires-clause-linked
build_preconditioner-requires-clause-linked c = c.requires.linking.linked c.in_ok-begun.was

pub returns-in_err-preconditioner-clause-limit_value : goal.returns-in_err-preconditioner-clause-limit_value
returns-in_err-preconditioner-clause-limit_value c =
    let p = err_from_is_err_and c.from_residual-in_err-preconditioner.result c.from_residual-in_err-preconditioner.ensures.1 in
    rw (p.1, p.2)
    (run_unbuilt _ _ _ _ _ _ c.args.limit _ _ _ c.in_ok-begun.was _ c.position_vector_converged-meets.ensures c.requires.body_impulses_len.3 (told c.build_preconditioner.result)
    (factor_told _ _ c.args.words.now _ _ _ _ _ _ _ c.build_preconditioner.ensures) _ c.if-meets-factor_first.false (ap told c.in_err-preconditioner.was))

pub returns-then-meets-clause-limit_value : goal.returns-then-meets-clause-limit_value
returns-then-meets-clause-limit_value c =
    run_built _ _ _ _ _ _ _ _ _ _ c.in_ok-begun.was _ c.position_vector_converged-meets.ensures c.requires.body_impulses_len.3 (told c.build_preconditioner.result)
    (factor_told _ _ c.args.words.now _ _ _ _ _ _ _ c.build_preconditioner.ensures) _ (ap told c.in_ok-preconditioner.was) c.if-meets-factor_first.false c.if-meets.true

pub step_on-requires-clause-standing : goal.step_on-requires-clause-standing
step_on-requires-clause-standing c =
    factor_stands _ _ c.args.words.now _ _ _ _ _ _ _ c.build_preconditioner.ensures c.requires.words_len.0 c.requires.roomy _ (ap told c.in_ok-preconditioner.was) _ _ c.requires.words_len.1 c.requires.words_len.1 c.requires.words_len.2
    c.requires.words_len.3 c.requires.words_len.4 (c.requires.linking.linked c.in_ok-begun.was) (search rules) (search rules) (search rules) (search rules)

pub returns-clause-limit_value : goal.returns-clause-limit_value
returns-clause-limit_value c =
    run_on _ _ _ _ _ _ _ _ _ _ c.in_ok-begun.was _ c.position_vector_converged-meets.ensures c.requires.body_impulses_len.3 (told c.build_preconditioner.result)
    (factor_told _ _ c.args.words.now _ _ _ _ _ _ _ c.build_preconditioner.ensures) _ (ap told c.in_ok-preconditioner.was) _ c.if-meets.false
    (factor_holds _ _ c.args.words.now _ _ _ _ _ _ _ c.build_preconditioner.ensures c.requires.words_len.0 c.requires.roomy _ (ap told c.in_ok-preconditioner.was))
    (factor_runs _ _ c.args.words.now _ _ _ _ _ _ _ c.build_preconditioner.ensures c.requires.words_len.0 c.requires.roomy _ (ap told c.in_ok-preconditioner.was) _ _ _ _ c.requires.words_len.1 c.step_on.ensures)
