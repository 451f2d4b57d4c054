-- `groups_solve::bench::solve_bench` meets its contract. Assumes nothing.
use mathlib.Core.Path.{◌∙◌}
use Rattle.rules.specs.Rows.{rules_in}
use Rattle.group_step.specs.Bench.{bench_of}
use Rattle.groups_solve.proofs.Benches.{zeros_there, grouped_table, marks_table, bench_solved}
use Rattle.groups_solve.proofs.bench.solve_bench.Goals as goal

pub returns : goal.returns
returns c =
    bench_solved (bench_of c.args.kind c.args.rows c.args.bodies c.args.words.now c.args.masses.now c.args.centres.now c.args.given.now (rules_in c.args.rule_words.now c.args.rule_tolerances.now) c.args.limit c.args.mode c.args.shift) c.requires.bench_room.bodies_few _ _ _ _ _ _ _ _ _ _ _ _ _ _ (marks_table (bench_of c.args.kind c.args.rows c.args.bodies c.args.words.now c.args.masses.now c.args.centres.now c.args.given.now (rules_in c.args.rule_words.now c.args.rule_tolerances.now) c.args.limit c.args.mode c.args.shift) _ _ _ c.mark_bodies.ensures.marks) c.still_bodies.ensures c.solve_each.ensures (grouped_table (bench_of c.args.kind c.args.rows c.args.bodies c.args.words.now c.args.masses.now c.args.centres.now c.args.given.now (rules_in c.args.rule_words.now c.args.rule_tolerances.now) c.args.limit c.args.mode c.args.shift) _ _ _ c.group_rows-count.ensures.grouped) (record { numbers = c.numbers-1.given; solution = c.solution-1.given; impulses = c.impulses-2-1.given ∙ c.impulses-1.given; centres = c.new_centres-2-1.given ∙ c.new_centres-1.given; rules = c.rule_numbers-1.given; groups = c.group_numbers-1.given; answers = c.group_answers-1.given; maxima = c.group_maxima-1.given })

pub mark_bodies-requires-clause-zeros : goal.mark_bodies-requires-clause-zeros
mark_bodies-requires-clause-zeros c = zeros_there 256
