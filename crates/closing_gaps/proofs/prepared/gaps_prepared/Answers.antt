-- `closing_gaps::prepared::gaps_prepared` meets its contract. Assumes nothing.
use mathlib.Core.Path.{sym, ◌∙◌}
use Rattle.kapitsa_joint.specs.Table.{table_of}
use Rattle.mass_operator.specs.Flat.{coefficients}
use Rattle.rules.specs.Rows.{rules_in}
use Rattle.closing_check.specs.Beside.{placed_in}
use Rattle.closing_check.proofs.Entry.{checked_3, checked_on, cleared_same, placed_3, residual_3, room_3, rows_3, rules_3}
use Rattle.closing_check.proofs.Held.{held_of}
use Rattle.closing_gaps.proofs.Told.{told_3}
use Rattle.closing_gaps.proofs.Entry.{fits_both, held_on, others_passed, room_passed, values_3}
use Rattle.closing_gaps.proofs.prepared.gaps_prepared.Goals as goal

pub returns-then-not-room-fits : goal.returns-then-not-room-fits
returns-then-not-room-fits c =
    record { checked = checked_3 c.args.kind _ _ _ (coefficients c.args.beside.now) (placed_in c.args.kind c.args.bodies c.args.beside.now) _ _ (fits_both c.gaps_fit-room.ensures c.fits.ensures) c.if-not-room-fits.true-raw; told = told_3 _ _ _ }

pub beside_placed-placed-requires : goal.beside_placed-placed-requires
beside_placed-placed-requires c =
    placed_3 c.args.kind c.args.rows c.args.bodies _ _ (others_passed c.gaps_fit-room.ensures c.fits.ensures c.if-not-room-fits.false-raw)

pub judged_check-answer-requires : goal.judged_check-answer-requires
judged_check-answer-requires c =
    record { room = room_3 c.args.kind _ _ _ _ _ _ _ _ _ _ _ (others_passed c.gaps_fit-room.ensures c.fits.ensures c.if-not-room-fits.false-raw); rule_words_len = rules_3 c.args.kind c.args.rows c.args.bodies _ _ (others_passed c.gaps_fit-room.ensures c.fits.ensures c.if-not-room-fits.false-raw); rows_bound = (rows_3 c.args.kind c.args.rows c.args.bodies _ _ (others_passed c.gaps_fit-room.ensures c.fits.ensures c.if-not-room-fits.false-raw), residual_3 c.args.kind c.args.rows c.args.bodies _ _ (others_passed c.gaps_fit-room.ensures c.fits.ensures c.if-not-room-fits.false-raw)) }

pub keep_gaps-requires : goal.keep_gaps-requires
keep_gaps-requires c =
    room_passed c.args.rows _ c.gaps_fit-room.ensures c.fits.ensures c.if-not-room-fits.false-raw ∙ sym (c.values-1.given ∙ values_3 c.args.kind c.args.rows c.args.bodies _ _ (others_passed c.gaps_fit-room.ensures c.fits.ensures c.if-not-room-fits.false-raw))

pub returns : goal.returns
returns c =
    held_on c.args.kind c.args.rows c.args.bodies c.args.numbers.now c.args.words.now c.args.masses.now c.args.beside.now c.args.multipliers.now (rules_in c.args.rule_words.now c.args.rule_tolerances.now) c.args.gaps.now c.beside_placed-placed.ensures
    (c.values-1.given ∙ values_3 c.args.kind c.args.rows c.args.bodies _ _ (others_passed c.gaps_fit-room.ensures c.fits.ensures c.if-not-room-fits.false-raw))
    c.judged_check-answer.ensures.reached
    (held_of c.args.kind c.args.rows c.args.bodies c.args.numbers.now c.args.words.now c.args.masses.now c.args.beside.now c.args.multipliers.now c.args.rule_words.now c.args.rule_tolerances.now (placed_in c.args.kind c.args.bodies c.args.beside.now)
    c.shared_slice_known-1.given c.shared_slice_known-3-1.given c.shared_slice_known-4-1.given c.shared_slice_known-5-1.given c.shared_slice_known-7-1.given)
    (rows_3 c.args.kind c.args.rows c.args.bodies _ _ (others_passed c.gaps_fit-room.ensures c.fits.ensures c.if-not-room-fits.false-raw))
    (checked_on c.args.kind (rules_in c.args.rule_words.now c.args.rule_tolerances.now) (table_of c.args.rows c.args.bodies c.args.numbers.now c.args.words.now c.args.masses.now) (coefficients c.args.multipliers.now) (coefficients c.args.beside.now) (placed_in c.args.kind c.args.bodies c.args.beside.now) _ _
    (fits_both c.gaps_fit-room.ensures c.fits.ensures)
    c.if-not-room-fits.false-raw
    (held_of c.args.kind c.args.rows c.args.bodies c.args.numbers.now c.args.words.now c.args.masses.now c.args.beside.now c.args.multipliers.now c.args.rule_words.now c.args.rule_tolerances.now (placed_in c.args.kind c.args.bodies c.args.beside.now)
    c.shared_slice_known-1.given c.shared_slice_known-3-1.given c.shared_slice_known-4-1.given c.shared_slice_known-5-1.given c.shared_slice_known-7-1.given)
    (rows_3 c.args.kind c.args.rows c.args.bodies _ _ (others_passed c.gaps_fit-room.ensures c.fits.ensures c.if-not-room-fits.false-raw))
    c.beside_placed-placed.ensures
    c.judged_check-answer.ensures.value
    c.judged_check-answer.ensures.rule_numbers_after
    (cleared_same c.impulses-1.given c.size_impulses-1.given c.values-1.given c.sizes-1.given c.clear_work.ensures))
    c.keep_gaps.ensures
