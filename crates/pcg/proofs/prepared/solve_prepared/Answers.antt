-- `pcg::prepared::solve_prepared` meets its contract. Assumes nothing.
use mathlib.Core.Path.{◌∙◌}
use lib.ListN.{length}
use Rattle.loops.proofs.Loop.{loops}
use Rattle.rules.specs.Rows.{rules_in}
use Rattle.preconditioner.specs.Mode.{mode_of}
use Rattle.position_delivery.specs.Outcome.{Lent}
use Rattle.work_memory.proofs.Lengths.{lent_room, rows_room}
use Rattle.solve_by_rules.proofs.Naming.{commit_room, committed_held, lent_tests, lent_beside, lent_numbers, lent_rules, naming_ruled, ruled_on, ruled_three}
use Rattle.pcg.proofs.prepared.solve_prepared.Goals as goal

pub rules_lent-requires : goal.rules_lent-requires
rules_lent-requires c =
    search loops

pub beside_lent-requires : goal.beside_lent-requires
beside_lent-requires c =
    search loops

pub returns-then-not-lent : goal.returns-then-not-lent
returns-then-not-lent c =
    let lent = lent_tests c.args.kind c.args.rows _ _ _ c.args.bodies (length c.args.centres.now) (length c.args.new_centres.now) (length c.args.given.now) c.rules_lent.ensures c.beside_lent.ensures in
    let before : Lent = record { numbers = c.args.numbers.now; solution = c.args.solution.now; impulses = c.args.impulses.now; centres = c.args.new_centres.now } in
    ruled_three c.args.kind (rules_in c.args.rule_words.now c.args.rule_tolerances.now) c.args.rows c.args.bodies c.args.numbers.now c.args.words.now c.args.masses.now c.args.centres.now c.args.given.now c.args.shift (mode_of c.args.mode c.args.shift) c.args.limit before _ _ _ _ _ lent c.if-not-lent.true-raw

pub propose_by_rules-answer-requires : goal.propose_by_rules-answer-requires
propose_by_rules-answer-requires c =
    let lent = lent_tests c.args.kind c.args.rows _ _ _ c.args.bodies (length c.args.centres.now) (length c.args.new_centres.now) (length c.args.given.now) c.rules_lent.ensures c.beside_lent.ensures in
    record { rule_tolerances_in_bounds = (lent_rules c.args.kind c.args.rows _ _ _ c.args.bodies (length c.args.centres.now) (length c.args.new_centres.now) (length c.args.given.now) lent c.if-not-lent.false-raw).0; centres_len = lent_beside c.args.kind c.args.rows _ _ _ c.args.bodies (length c.args.centres.now) (length c.args.new_centres.now) (length c.args.given.now) lent c.if-not-lent.false-raw }

pub place_of-requires : goal.place_of-requires
place_of-requires c =
    search loops

pub commit-requires : goal.commit-requires
commit-requires c =
    let a = c.args in
    commit_room c.args.kind _ _ _ _ _ _ _ c.propose_by_rules-answer.ensures c.place_of.ensures (λ f. (rows_room _ _ _ a.numbers.now a.words.now a.masses.now a.solution.now a.impulses.now _ f).numbers_long)
    (λ f. c.solution-1.given ∙ (lent_room _ _ _ a.numbers.now a.words.now a.masses.now a.solution.now a.impulses.now _ f).0)

pub name_ruled-requires : goal.name_ruled-requires
name_ruled-requires c =
    let a = c.args in
    let before : Lent = record { numbers = a.numbers.now; solution = a.solution.now; impulses = a.impulses.now; centres = a.new_centres.now } in
    let lent = lent_tests c.args.kind c.args.rows _ _ _ c.args.bodies (length c.args.centres.now) (length c.args.new_centres.now) (length c.args.given.now) c.rules_lent.ensures c.beside_lent.ensures in record {
      rule_tolerances_in_bounds = lent_rules c.args.kind c.args.rows _ _ _ c.args.bodies (length c.args.centres.now) (length c.args.new_centres.now) (length c.args.given.now) lent c.if-not-lent.false-raw;
      naming_ruled = naming_ruled a.kind (rules_in a.rule_words.now a.rule_tolerances.now) a.rows a.bodies a.numbers.now a.words.now a.masses.now a.centres.now a.given.now a.shift (mode_of a.mode a.shift) a.limit before c.propose_by_rules-answer.ensures (λ f. (rows_room _ _ _ a.numbers.now a.words.now a.masses.now a.solution.now a.impulses.now _ f).words_long)
          (lent_numbers c.args.kind c.args.rows _ _ _ c.args.bodies (length c.args.centres.now) (length c.args.new_centres.now) (length c.args.given.now) lent c.if-not-lent.false-raw);
    }

pub returns : goal.returns
returns c =
    let lent = lent_tests c.args.kind c.args.rows _ _ _ c.args.bodies (length c.args.centres.now) (length c.args.new_centres.now) (length c.args.given.now) c.rules_lent.ensures c.beside_lent.ensures in
    let before : Lent = record { numbers = c.args.numbers.now; solution = c.args.solution.now; impulses = c.args.impulses.now; centres = c.args.new_centres.now } in
    ruled_on c.args.kind (rules_in c.args.rule_words.now c.args.rule_tolerances.now) c.args.rows c.args.bodies c.args.numbers.now c.args.words.now c.args.masses.now c.args.centres.now c.args.given.now c.args.shift (mode_of c.args.mode c.args.shift) c.args.limit before _ _ _ _ _ lent c.if-not-lent.false-raw (committed_held c.args.kind c.args.numbers.now c.place_of.ensures c.commit.ensures c.propose_by_rules-answer.ensures) _ _ (lent_numbers c.args.kind c.args.rows _ _ _ c.args.bodies (length c.args.centres.now) (length c.args.new_centres.now) (length c.args.given.now) lent c.if-not-lent.false-raw) c.name_ruled.ensures
