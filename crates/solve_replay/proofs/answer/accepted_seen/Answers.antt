-- `solve_replay::answer::accepted_seen` meets its contract. Assumes nothing.
use Prim.Native.Nat.{ℕ, ◌*◌}
use mathlib.Core.Path.{sym, ap, ◌∙◌}
use native.Mathlib.Omega.{arith}
use lib.Seq.{length-take-le}
use Rattle.solve_replay.proofs.Beside.{placed_few}
use Rattle.solve_replay.proofs.Filling.{within, long_filled, filled_part}
use Rattle.solve_replay.proofs.answer.accepted_seen.Goals as goal

pub answer_room-answers-requires : goal.answer_room-answers-requires
answer_room-answers-requires c =
    record {}

pub body_word_room-body_words-requires : goal.body_word_room-body_words-requires
body_word_room-body_words-requires c =
    record {}

pub centre_word_room-centre_words-requires : goal.centre_word_room-centre_words-requires
centre_word_room-centre_words-requires c =
    record {}

pub wide-n-requires : goal.wide-n-requires
wide-n-requires c =
    record {}

pub wide-b-requires : goal.wide-b-requires
wide-b-requires c =
    record {}

pub overflow_mul-two : goal.overflow_mul-two
overflow_mul-two c =
    omega (arith, c.wide-n.ensures, c.requires.at_bound.1)

pub overflow_mul-six : goal.overflow_mul-six
overflow_mul-six c =
    omega (arith, c.wide-b.ensures, c.requires.at_bound.2)

pub placed_of-requires : goal.placed_of-requires
placed_of-requires c =
    record {}

pub wide-three-requires : goal.wide-three-requires
wide-three-requires c =
    record {}

pub overflow_mul-three : goal.overflow_mul-three
overflow_mul-three c =
    omega (arith, c.wide-three.ensures, c.placed_of.ensures, c.requires.at_bound.2, placed_few c.args.kind c.args.header.bodies)

pub slice_bounds-answers-end : goal.slice_bounds-answers-end
slice_bounds-answers-end c =
    within {A = ℕ} _ c.answer_room-answers.result _ _ (long_filled 0 1026 c.answer_room-answers.result c.answer_room-answers.ensures) (ap (λ (x : ℕ). 2 * x) c.wide-n.ensures) (omega (arith, c.requires.at_bound.1))

pub slice_bounds-answers_seen-end : goal.slice_bounds-answers_seen-end
slice_bounds-answers_seen-end c =
    sym (length-take-le _ _ (within {A = ℕ} _ c.answer_room-answers.result _ _ (long_filled 0 1026 c.answer_room-answers.result c.answer_room-answers.ensures) (ap (λ (x : ℕ). 2 * x) c.wide-n.ensures) (omega (arith, c.requires.at_bound.1))))

pub slice_bounds-body_words-end : goal.slice_bounds-body_words-end
slice_bounds-body_words-end c =
    within {A = ℕ} _ c.body_word_room-body_words.result _ _ (long_filled 0 1542 c.body_word_room-body_words.result c.body_word_room-body_words.ensures) (ap (λ (x : ℕ). 6 * x) c.wide-b.ensures) (omega (arith, c.requires.at_bound.2))

pub slice_bounds-answers_seen-end-2 : goal.slice_bounds-answers_seen-end-2
slice_bounds-answers_seen-end-2 c =
    sym (length-take-le _ _ (within {A = ℕ} _ c.body_word_room-body_words.result _ _ (long_filled 0 1542 c.body_word_room-body_words.result c.body_word_room-body_words.ensures) (ap (λ (x : ℕ). 6 * x) c.wide-b.ensures) (omega (arith, c.requires.at_bound.2))))

pub slice_bounds-centre_words-end : goal.slice_bounds-centre_words-end
slice_bounds-centre_words-end c =
    within {A = ℕ} _ c.centre_word_room-centre_words.result _ _ (long_filled 0 771 c.centre_word_room-centre_words.result c.centre_word_room-centre_words.ensures) (ap (λ (x : ℕ). 3 * x) (c.wide-three.ensures ∙ c.placed_of.ensures)) (omega (arith, c.requires.at_bound.2, placed_few c.args.kind c.args.header.bodies))

pub slice_bounds-answers_seen-end-3 : goal.slice_bounds-answers_seen-end-3
slice_bounds-answers_seen-end-3 c =
    sym (length-take-le _ _ (within {A = ℕ} _ c.centre_word_room-centre_words.result _ _ (long_filled 0 771 c.centre_word_room-centre_words.result c.centre_word_room-centre_words.ensures) (ap (λ (x : ℕ). 3 * x) (c.wide-three.ensures ∙ c.placed_of.ensures)) (omega (arith, c.requires.at_bound.2, placed_few c.args.kind c.args.header.bodies))))

pub answers_seen-requires : goal.answers_seen-requires
answers_seen-requires c =
    record { at_bound = c.requires.at_bound; rows_len = c.requires.rows_len; answers_value = (filled_part 0 1026 c.answer_room-answers.result _ _ c.answer_room-answers.ensures (ap (λ (x : ℕ). 2 * x) c.wide-n.ensures) (omega (arith, c.requires.at_bound.1)), filled_part 0 1542 c.body_word_room-body_words.result _ _ c.body_word_room-body_words.ensures (ap (λ (x : ℕ). 6 * x) c.wide-b.ensures) (omega (arith, c.requires.at_bound.2)), filled_part 0 771 c.centre_word_room-centre_words.result _ _ c.centre_word_room-centre_words.ensures (ap (λ (x : ℕ). 3 * x) (c.wide-three.ensures ∙ c.placed_of.ensures)) (omega (arith, c.requires.at_bound.2, placed_few c.args.kind c.args.header.bodies))) }

pub returns : goal.returns
returns c =
    c.answers_seen.ensures
