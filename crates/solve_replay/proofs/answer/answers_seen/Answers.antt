-- `solve_replay::answer::answers_seen` meets its contract. Assumes nothing.
use Prim.Native.Nat.{◌*◌}
use mathlib.Core.Path.{◌∙◌}
use native.Mathlib.Omega.{arith}
use Rattle.kapitsa_joint.specs.Kind.{placed_of}
use Rattle.solve_replay.proofs.Beside.{place_below, placed_few}
use Rattle.solve_replay.proofs.Filling.{filled_long, group_fits, group_near}
use Rattle.solve_replay.proofs.Showing.{unpacked, accepted_shown}
use Rattle.solve_replay.proofs.answer.answers_seen.Goals as goal

pub wide-n-requires : goal.wide-n-requires
wide-n-requires c =
    record {}

pub wide-b-requires : goal.wide-b-requires
wide-b-requires c =
    record {}

pub placed_of-requires : goal.placed_of-requires
placed_of-requires c =
    record {}

pub wide-placed-requires : goal.wide-placed-requires
wide-placed-requires c =
    record {}

pub place_of-place-requires : goal.place_of-place-requires
place_of-place-requires c =
    record {}

pub unpack-bodies_at-requires : goal.unpack-bodies_at-requires
unpack-bodies_at-requires c =
    group_fits c.args.answers.now 2 c.args.header.rows _ _ c.requires.answers_value.0 c.wide-n.ensures (omega (arith, c.requires.at_bound.1)) (omega (arith, c.requires.at_bound.0))

pub unpack-centres_at-requires : goal.unpack-centres_at-requires
unpack-centres_at-requires c =
    group_fits c.args.body_words.now 6 c.args.header.bodies _ _ c.requires.answers_value.1 c.wide-b.ensures (omega (arith, c.requires.at_bound.2)) (omega (arith, c.requires.at_bound.0, group_near c.args.answers.now 2 c.args.header.rows _ _ c.requires.answers_value.0 c.wide-n.ensures (omega (arith, c.requires.at_bound.1)) _ c.unpack-bodies_at.ensures.upper_bound))

pub unpack-end-requires : goal.unpack-end-requires
unpack-end-requires c =
    group_fits c.args.centre_words.now 3 (placed_of c.args.kind c.args.header.bodies) _ _ c.requires.answers_value.2 (c.wide-placed.ensures ∙ c.placed_of.ensures) (omega (arith, c.requires.at_bound.2, placed_few c.args.kind c.args.header.bodies)) (omega (arith, c.requires.at_bound.0, group_near c.args.answers.now 2 c.args.header.rows _ _ c.requires.answers_value.0 c.wide-n.ensures (omega (arith, c.requires.at_bound.1)) _ c.unpack-bodies_at.ensures.upper_bound, group_near c.args.body_words.now 6 c.args.header.bodies _ _ c.requires.answers_value.1 c.wide-b.ensures (omega (arith, c.requires.at_bound.2)) _ c.unpack-centres_at.ensures.upper_bound))

pub flag-requires : goal.flag-requires
flag-requires c =
    record {}

pub overflow_add-result : goal.overflow_add-result
overflow_add-result c =
    omega (arith, c.flag.ensures.upper_bound)

pub same_result-requires : goal.same_result-requires
same_result-requires c =
    record {}

pub same_answers-requires : goal.same_answers-requires
same_answers-requires c =
    (omega (arith, c.requires.rows_len.1, c.requires.rows_len.2), omega (arith, c.requires.rows_len.2, c.answers-1.given, filled_long 0 (2 * c.args.header.rows) c.args.answers.now c.requires.answers_value.0), omega (arith, c.requires.rows_len.2, c.requires.at_bound.1), place_below c.args.kind c.place_of-place.ensures)

pub same_doubles-requires : goal.same_doubles-requires
same_doubles-requires c =
    omega (arith, c.requires.rows_len.3, c.body_words-1.given, filled_long 0 (6 * c.args.header.bodies) c.args.body_words.now c.requires.answers_value.1)

pub same_doubles-requires-2 : goal.same_doubles-requires-2
same_doubles-requires-2 c =
    omega (arith, c.requires.rows_len.4, c.centre_words-1.given, filled_long 0 (3 * placed_of c.args.kind c.args.header.bodies) c.args.centre_words.now c.requires.answers_value.2)

pub kept_numbers-requires : goal.kept_numbers-requires
kept_numbers-requires c =
    (omega (arith, c.requires.rows_len.0, c.requires.rows_len.1), omega (arith, c.requires.rows_len.1, c.requires.at_bound.1))

pub returns : goal.returns
returns c =
    accepted_shown c.args.kind _ _ _ _ _ _ c.place_of-place.ensures (unpacked _ _ _ c.requires.answers_value.0 c.wide-n.ensures c.unpack-bodies_at.ensures.words_after) (unpacked _ _ _ c.requires.answers_value.1 c.wide-b.ensures c.unpack-centres_at.ensures.words_after) (unpacked _ _ _ c.requires.answers_value.2 (c.wide-placed.ensures ∙ c.placed_of.ensures) c.unpack-end.ensures.words_after) c.flag.ensures.value c.same_result.ensures c.same_answers.ensures c.same_doubles.ensures c.same_doubles-2.ensures c.kept_numbers.ensures
