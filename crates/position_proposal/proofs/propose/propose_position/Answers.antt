-- `position_proposal::propose::propose_position` meets its contract. Assumes nothing.
use mathlib.Core.List.{[]}
use Rattle.kapitsa_joint.specs.declared.kind.Kind.TheVariants as kinds
use Rattle.loops.proofs.Loop.{loops}
use Rattle.rules.specs.Rows.{rules_in}
use Rattle.preconditioner.specs.Mode.{mode_of}
use Rattle.work_memory.proofs.Lengths.{rows_room}
use Rattle.solve_by_rules.proofs.Naming.{naming_room, ruled_on, ruled_three}
use Rattle.position_proposal.proofs.Entry.{fitting, noting_room, proposed_of, unproposed}
use Rattle.position_proposal.proofs.propose.propose_position.Goals as goal

pub proposal_lent-requires : goal.proposal_lent-requires
proposal_lent-requires c =
    search loops

pub returns-then-not-proposal_lent : goal.returns-then-not-proposal_lent
returns-then-not-proposal_lent c =
    unproposed {m = (record { words = c.args.proposal.now; solution = c.args.solution.now; impulses = c.args.impulses.now; centres = c.args.new_centres.now; started = c.args.started.now })} (ruled_three kinds.Position (rules_in c.args.rule_words.now c.args.rule_tolerances.now) c.args.rows c.args.bodies c.args.numbers.now c.args.words.now c.args.masses.now c.args.centres.now [] c.args.shift (mode_of c.args.mode c.args.shift) c.args.limit (record { numbers = c.args.numbers.now; solution = c.args.solution.now; impulses = c.args.impulses.now; centres = c.args.new_centres.now }) _ _ _ _ _ c.proposal_lent.ensures c.if-not-proposal_lent.true-raw)

pub slice_bounds-propose_by_rules-end : goal.slice_bounds-propose_by_rules-end
slice_bounds-propose_by_rules-end c =
    search loops

pub propose_by_rules-answer-requires : goal.propose_by_rules-answer-requires
propose_by_rules-answer-requires c =
    let l = fitting _ _ _ _ _ _ _ _ _ c.proposal_lent.ensures c.if-not-proposal_lent.false-raw in record { rule_tolerances_in_bounds = l.rules_long.0; centres_len = l.beside _ }

pub name_accepted-requires : goal.name_accepted-requires
name_accepted-requires c =
    let l = fitting _ _ _ _ _ _ _ _ _ c.proposal_lent.ensures c.if-not-proposal_lent.false-raw in record { rule_tolerances_in_bounds = l.rules_long; naming_room = naming_room _ _ _ _ _ _ _ _ c.propose_by_rules-answer.ensures (λ f. (rows_room _ _ _ c.args.numbers.now c.args.words.now c.args.masses.now c.args.solution.now c.args.impulses.now _ f).words_long) l.numbers_long }

pub note_accepted-requires : goal.note_accepted-requires
note_accepted-requires c =
    let l = fitting _ _ _ _ _ _ _ _ _ c.proposal_lent.ensures c.if-not-proposal_lent.false-raw in noting_room _ _ _ _ _ _ _ _ c.propose_by_rules-answer.ensures (λ f. (rows_room _ _ _ c.args.numbers.now c.args.words.now c.args.masses.now c.args.solution.now c.args.impulses.now _ f).numbers_long) (l.four, l.started_long)

pub returns : goal.returns
returns c =
    let l = fitting _ _ _ _ _ _ _ _ _ c.proposal_lent.ensures c.if-not-proposal_lent.false-raw in
    proposed_of {m = (record { words = c.args.proposal.now; solution = c.args.solution.now; impulses = c.args.impulses.now; centres = c.args.new_centres.now; started = c.args.started.now })} l.started_long
    (ruled_on kinds.Position (rules_in c.args.rule_words.now c.args.rule_tolerances.now) c.args.rows c.args.bodies c.args.numbers.now c.args.words.now c.args.masses.now c.args.centres.now [] c.args.shift (mode_of c.args.mode c.args.shift) c.args.limit (record { numbers = c.args.numbers.now; solution = c.args.solution.now; impulses = c.args.impulses.now; centres = c.args.new_centres.now }) _ _ _ _ _ c.proposal_lent.ensures c.if-not-proposal_lent.false-raw c.propose_by_rules-answer.ensures _ _ l.numbers_long c.name_accepted.ensures)
    c.note_accepted.ensures.proposal_after c.note_accepted.ensures.started_after c.solution-1.given
