-- `group_step::step::solve_group` meets its contract. Assumes nothing.
use mathlib.Core.Path.{refl}
use native.Mathlib.Omega.{arith}
use Rattle.rules.specs.Rows.{rules_in}
use Rattle.group_step.specs.Bench.{bench_of}
use Rattle.group_step.proofs.Stepping.{own_left, group_step}
use Rattle.group_step.proofs.step.solve_group.Goals as goal

pub solve_own-answer-requires : goal.solve_own-answer-requires
solve_own-answer-requires c =
    record { rows_in_bounds = (omega (arith, c.requires.groups_len.0), c.requires.table_room.0.numbers_long, c.requires.groups_len.3); bench_room = c.requires.bench_room; own_room = c.requires.own_room }

pub deliver_group-requires : goal.deliver_group-requires
deliver_group-requires c =
    record { rows_in_bounds = (omega (arith, c.requires.groups_len.0), c.requires.groups_len.1, omega (arith, c.requires.groups_len.2, c.requires.bench_room.rows_few)); table_room = own_left c.requires.groups_len.3 c.requires.own_room.table c.own_numbers-1.given c.own_solution-1.given c.own_impulses-1.given c.own_centres-1.given c.own_rules-1.given; table_room_2 = c.requires.table_room.0 }

pub tell_group-requires : goal.tell_group-requires
tell_group-requires c =
    (omega (arith, c.requires.groups_len.2, c.requires.table_room.1.answers_long), omega (arith, c.requires.groups_len.2, c.requires.table_room.1.maxima_long))

pub returns : goal.returns
returns c =
    group_step (bench_of c.args.kind c.args.rows c.args.bodies c.args.words.now c.args.masses.now c.args.centres.now c.args.given.now (rules_in c.args.rule_words.now c.args.rule_tolerances.now) c.args.limit c.args.mode c.args.shift) _ _ _ _ _ refl c.solve_own-answer.ensures c.deliver_group.ensures.delivered c.deliver_group.ensures.table_kept c.tell_group.ensures
