-- `groups_solve::bench::solve_each` meets its contract: the groups below g are solved. Assumes nothing.
use Rattle.rules.specs.Rows.{rules_in}
use Rattle.group_step.specs.Bench.{bench_of}
use Rattle.groups_solve.proofs.Rounds.{Round, Arrays}
use Rattle.groups_solve.proofs.bench.solve_each.Given as goal

abbrev pub invariant-loop-g : goal.invariant-loop-g
invariant-loop-g l =
    Round (bench_of l.kind l.rows l.bodies l.words l.masses l.centres l.given (rules_in l.rule_words l.rule_tolerances) l.limit l.mode l.shift) l.marks l.groups l.count l.g (record { numbers = l.initial.numbers; solution = l.initial.solution; impulses = l.initial.impulses; centres = l.initial.new_centres }) l.initial.rule_numbers l.initial.group_answers l.initial.group_maxima (record { numbers = l.numbers; solution = l.solution; impulses = l.impulses; centres = l.new_centres }) l.rule_numbers l.group_answers l.group_maxima × Arrays l.own_numbers l.own_words l.own_given l.own_solution l.own_impulses l.own_centres l.own_rules
