-- `solve_replay::replay::sized_seen` meets its contract. Assumes nothing.
use Prim.Native.Nat.{ℕ, ◌*◌}
use mathlib.Core.Path.{sym, ap, ◌∙◌}
use native.Mathlib.Omega.{arith}
use lib.Seq.{length-take-le}
use lib.Ieee.{Float}
use Rattle.solve_replay.proofs.Beside.{size_few, size_same}
use Rattle.solve_replay.proofs.Filling.{within, lent_long, long_filled, filled_part}
use Rattle.solve_replay.proofs.replay.sized_seen.Goals as goal

pub row_word_room-rows-requires : goal.row_word_room-rows-requires
row_word_room-rows-requires c =
    record {}

pub mass_word_room-mass_words-requires : goal.mass_word_room-mass_words-requires
mass_word_room-mass_words-requires c =
    record {}

pub beside_word_room-beside_words-requires : goal.beside_word_room-beside_words-requires
beside_word_room-beside_words-requires c =
    record {}

pub number_room-numbers-requires : goal.number_room-numbers-requires
number_room-numbers-requires c =
    record {}

pub word_room-words-requires : goal.word_room-words-requires
word_room-words-requires c =
    record {}

pub mass_room-masses-requires : goal.mass_room-masses-requires
mass_room-masses-requires c =
    record {}

pub beside_room-beside-requires : goal.beside_room-beside-requires
beside_room-beside-requires c =
    record {}

pub wide-n-requires : goal.wide-n-requires
wide-n-requires c =
    record {}

pub wide-b-requires : goal.wide-b-requires
wide-b-requires c =
    record {}

pub overflow_mul-row_words : goal.overflow_mul-row_words
overflow_mul-row_words c =
    omega (arith, c.wide-n.ensures, c.requires.1)

pub overflow_mul-row_numbers : goal.overflow_mul-row_numbers
overflow_mul-row_numbers c =
    omega (arith, c.wide-n.ensures, c.requires.1)

pub overflow_mul-eight : goal.overflow_mul-eight
overflow_mul-eight c =
    omega (arith, c.wide-n.ensures, c.requires.1)

pub overflow_mul-ten : goal.overflow_mul-ten
overflow_mul-ten c =
    omega (arith, c.wide-b.ensures, c.requires.2)

pub size_of_beside-beside_size-requires : goal.size_of_beside-beside_size-requires
size_of_beside-beside_size-requires c =
    (omega (arith, c.wide-n.ensures, c.requires.1), omega (arith, c.wide-b.ensures, c.requires.2))

pub slice_bounds-rows-end : goal.slice_bounds-rows-end
slice_bounds-rows-end c =
    within {A = ℕ} _ c.row_word_room-rows.result _ _ (long_filled 0 17955 c.row_word_room-rows.result c.row_word_room-rows.ensures) (ap (λ (x : ℕ). 35 * x) c.wide-n.ensures) (omega (arith, c.requires.1))

pub slice_bounds-table_seen-end : goal.slice_bounds-table_seen-end
slice_bounds-table_seen-end c =
    sym (length-take-le _ _ (within {A = ℕ} _ c.row_word_room-rows.result _ _ (long_filled 0 17955 c.row_word_room-rows.result c.row_word_room-rows.ensures) (ap (λ (x : ℕ). 35 * x) c.wide-n.ensures) (omega (arith, c.requires.1))))

pub slice_bounds-mass_words-end : goal.slice_bounds-mass_words-end
slice_bounds-mass_words-end c =
    within {A = ℕ} _ c.mass_word_room-mass_words.result _ _ (long_filled 0 2570 c.mass_word_room-mass_words.result c.mass_word_room-mass_words.ensures) (ap (λ (x : ℕ). 10 * x) c.wide-b.ensures) (omega (arith, c.requires.2))

pub slice_bounds-table_seen-end-2 : goal.slice_bounds-table_seen-end-2
slice_bounds-table_seen-end-2 c =
    sym (length-take-le _ _ (within {A = ℕ} _ c.mass_word_room-mass_words.result _ _ (long_filled 0 2570 c.mass_word_room-mass_words.result c.mass_word_room-mass_words.ensures) (ap (λ (x : ℕ). 10 * x) c.wide-b.ensures) (omega (arith, c.requires.2))))

pub slice_bounds-beside_words-end : goal.slice_bounds-beside_words-end
slice_bounds-beside_words-end c =
    within {A = ℕ} _ c.beside_word_room-beside_words.result _ _ (long_filled 0 771 c.beside_word_room-beside_words.result c.beside_word_room-beside_words.ensures) (c.size_of_beside-beside_size.ensures ∙ size_same c.args.kind c.wide-n.ensures c.wide-b.ensures) (size_few c.args.kind c.args.header.rows c.args.header.bodies c.requires.1 c.requires.2)

pub slice_bounds-table_seen-end-3 : goal.slice_bounds-table_seen-end-3
slice_bounds-table_seen-end-3 c =
    sym (length-take-le _ _ (within {A = ℕ} _ c.beside_word_room-beside_words.result _ _ (long_filled 0 771 c.beside_word_room-beside_words.result c.beside_word_room-beside_words.ensures) (c.size_of_beside-beside_size.ensures ∙ size_same c.args.kind c.wide-n.ensures c.wide-b.ensures) (size_few c.args.kind c.args.header.rows c.args.header.bodies c.requires.1 c.requires.2)))

pub slice_bounds-numbers-end : goal.slice_bounds-numbers-end
slice_bounds-numbers-end c =
    within {A = Float} _ c.number_room-numbers.result _ _ c.number_room-numbers.ensures (ap (λ (x : ℕ). 27 * x) c.wide-n.ensures) (omega (arith, c.requires.1))

pub slice_bounds-table_seen-end-4 : goal.slice_bounds-table_seen-end-4
slice_bounds-table_seen-end-4 c =
    sym (length-take-le _ _ (within {A = Float} _ c.number_room-numbers.result _ _ c.number_room-numbers.ensures (ap (λ (x : ℕ). 27 * x) c.wide-n.ensures) (omega (arith, c.requires.1))))

pub slice_bounds-words-end : goal.slice_bounds-words-end
slice_bounds-words-end c =
    within {A = ℕ} _ c.word_room-words.result _ _ c.word_room-words.ensures (ap (λ (x : ℕ). 8 * x) c.wide-n.ensures) (omega (arith, c.requires.1))

pub slice_bounds-table_seen-end-5 : goal.slice_bounds-table_seen-end-5
slice_bounds-table_seen-end-5 c =
    sym (length-take-le _ _ (within {A = ℕ} _ c.word_room-words.result _ _ c.word_room-words.ensures (ap (λ (x : ℕ). 8 * x) c.wide-n.ensures) (omega (arith, c.requires.1))))

pub slice_bounds-masses-end : goal.slice_bounds-masses-end
slice_bounds-masses-end c =
    within {A = Float} _ c.mass_room-masses.result _ _ c.mass_room-masses.ensures (ap (λ (x : ℕ). 10 * x) c.wide-b.ensures) (omega (arith, c.requires.2))

pub slice_bounds-table_seen-end-6 : goal.slice_bounds-table_seen-end-6
slice_bounds-table_seen-end-6 c =
    sym (length-take-le _ _ (within {A = Float} _ c.mass_room-masses.result _ _ c.mass_room-masses.ensures (ap (λ (x : ℕ). 10 * x) c.wide-b.ensures) (omega (arith, c.requires.2))))

pub slice_bounds-beside-end : goal.slice_bounds-beside-end
slice_bounds-beside-end c =
    within {A = Float} _ c.beside_room-beside.result _ _ c.beside_room-beside.ensures (c.size_of_beside-beside_size.ensures ∙ size_same c.args.kind c.wide-n.ensures c.wide-b.ensures) (size_few c.args.kind c.args.header.rows c.args.header.bodies c.requires.1 c.requires.2)

pub slice_bounds-table_seen-end-7 : goal.slice_bounds-table_seen-end-7
slice_bounds-table_seen-end-7 c =
    sym (length-take-le _ _ (within {A = Float} _ c.beside_room-beside.result _ _ c.beside_room-beside.ensures (c.size_of_beside-beside_size.ensures ∙ size_same c.args.kind c.wide-n.ensures c.wide-b.ensures) (size_few c.args.kind c.args.header.rows c.args.header.bodies c.requires.1 c.requires.2)))

pub table_seen-requires : goal.table_seen-requires
table_seen-requires c =
    record { at_bound = c.requires; numbers_len = (lent_long {A = Float} _ c.number_room-numbers.result _ _ c.number_room-numbers.ensures (ap (λ (x : ℕ). 27 * x) c.wide-n.ensures) (omega (arith, c.requires.1)), lent_long {A = ℕ} _ c.word_room-words.result _ _ c.word_room-words.ensures (ap (λ (x : ℕ). 8 * x) c.wide-n.ensures) (omega (arith, c.requires.1)), lent_long {A = Float} _ c.mass_room-masses.result _ _ c.mass_room-masses.ensures (ap (λ (x : ℕ). 10 * x) c.wide-b.ensures) (omega (arith, c.requires.2)), lent_long {A = Float} _ c.beside_room-beside.result _ _ c.beside_room-beside.ensures (c.size_of_beside-beside_size.ensures ∙ size_same c.args.kind c.wide-n.ensures c.wide-b.ensures) (size_few c.args.kind c.args.header.rows c.args.header.bodies c.requires.1 c.requires.2)); rows_value = (filled_part 0 17955 c.row_word_room-rows.result _ _ c.row_word_room-rows.ensures (ap (λ (x : ℕ). 35 * x) c.wide-n.ensures) (omega (arith, c.requires.1)), filled_part 0 2570 c.mass_word_room-mass_words.result _ _ c.mass_word_room-mass_words.ensures (ap (λ (x : ℕ). 10 * x) c.wide-b.ensures) (omega (arith, c.requires.2)), filled_part 0 771 c.beside_word_room-beside_words.result _ _ c.beside_word_room-beside_words.ensures (c.size_of_beside-beside_size.ensures ∙ size_same c.args.kind c.wide-n.ensures c.wide-b.ensures) (size_few c.args.kind c.args.header.rows c.args.header.bodies c.requires.1 c.requires.2)) }

pub returns : goal.returns
returns c =
    c.table_seen.ensures
