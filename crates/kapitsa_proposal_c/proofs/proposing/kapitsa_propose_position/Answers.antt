-- `kapitsa_proposal_c::proposing::kapitsa_propose_position` meets its contract. Assumes nothing.
use mathlib.Core.List.{[]}
use mathlib.Core.Path.{refl}
use Rattle.kapitsa_joint.specs.declared.kind.Kind.TheVariants as kinds
use Rattle.rules.specs.Rows.{rules_in}
use Rattle.preconditioner.specs.Mode.{mode_of}
use Rattle.solve_method.proofs.InPlace.{position_apart}
use Rattle.solve_by_rules.proofs.Naming.{ruled_three}
use Rattle.position_proposal.proofs.Entry.{unproposed}
use Rattle.kapitsa_proposal_c.specs.Proposing.{maxima_fit}
use Rattle.kapitsa_proposal_c.proofs.Proposals.{maxima_fit_lem, maxima_unfit, proposal_on, proposal_told, told_three}
use Rattle.kapitsa_proposal_c.proofs.proposing.kapitsa_propose_position.Goals as goal

pub returns-then-maxima-ne2 : goal.returns-then-maxima-ne2
returns-then-maxima-ne2 c =
    proposal_told (position_apart _ _ _ _)
    (unproposed {m = (record { words = c.args.proposal.now; solution = c.args.solution.now; impulses = c.args.impulses.now; centres = c.args.new_centres.now; started = c.args.started.now })} (ruled_three kinds.Position (rules_in c.args.rule_words.now c.args.rule_tolerances.now) c.args.rows c.args.bodies c.args.numbers.now c.args.words.now c.args.masses.now c.args.centres.now [] c.args.shift (mode_of c.args.mode c.args.shift) c.args.limit (record { numbers = c.args.numbers.now; solution = c.args.solution.now; impulses = c.args.impulses.now; centres = c.args.new_centres.now }) _ _ (maxima_fit c.args.maxima.now) (maxima_fit c.args.maxima.now) _ refl (maxima_unfit c.args.maxima.now c.if-maxima-ne2.true)))
    (told_three c.args.maxima.now)

pub propose_position-answer-requires : goal.propose_position-answer-requires
propose_position-answer-requires c =
    record {}

pub tell_maxima-requires : goal.tell_maxima-requires
tell_maxima-requires c =
    c.if-maxima-ne2.false

pub returns : goal.returns
returns c =
    proposal_on (position_apart _ _ _ _) (maxima_fit_lem c.args.maxima.now _ c.if-maxima-ne2.false) c.propose_position-answer.ensures c.tell_maxima.ensures
