-- `group_step::own::solve_own` meets its contract. Assumes nothing.
use native.Mathlib.Omega.{arith}
use Rattle.rules.specs.Rows.{rules_in}
use Rattle.group_table.specs.Pick.{rows_of}
use Rattle.group_table.proofs.Rows.{rows_within}
use Rattle.group_step.proofs.Owned.{own_fits, own_solved}
use Rattle.group_step.proofs.own.solve_own.Goals as goal

pub pick_group-requires : goal.pick_group-requires
pick_group-requires c =
    record { rows_in_bounds = (c.requires.rows_in_bounds.0, c.requires.rows_in_bounds.1, c.requires.bench_room.words_long, c.requires.bench_room.given_long); own_numbers_len = (omega (arith, c.requires.rows_in_bounds.2, c.requires.own_room.table.numbers_long), omega (arith, c.requires.rows_in_bounds.2, c.requires.own_room.words_long), omega (arith, c.requires.rows_in_bounds.2, c.requires.own_room.given_long)) }

pub returns : goal.returns
returns c =
    own_solved c.args.kind c.args.rows c.args.bodies c.args.words.now c.args.masses.now c.args.centres.now c.args.given.now (rules_in c.args.rule_words.now c.args.rule_tolerances.now) c.args.limit c.args.mode c.args.shift c.args.numbers.now (rows_of c.args.groups.now c.args.g c.args.rows) c.args.k c.requires.rows_in_bounds.2 c.pick_group.ensures (own_fits c.args.kind c.args.rows c.args.bodies c.args.mode c.args.k (rows_of c.args.groups.now c.args.g c.args.rows) c.requires.rows_in_bounds.2 (omega (arith, c.requires.rows_in_bounds.2, rows_within c.args.groups.now c.args.g c.args.rows)) c.args.numbers.now c.args.words.now c.args.given.now c.args.masses.now c.args.centres.now c.args.rule_words.now c.args.rule_tolerances.now _ _ _ _ _ _ _ _ _ _ c.requires.bench_room c.requires.own_room c.pick_group.ensures) c.solve_table.ensures
