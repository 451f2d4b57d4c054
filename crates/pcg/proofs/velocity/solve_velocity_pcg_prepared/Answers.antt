-- `pcg::velocity::solve_velocity_pcg_prepared` meets its contract. Assumes nothing.
use lib.ListN.{length}
use Rattle.loops.proofs.Loop.{loops}
use Rattle.work_memory.specs.Work.{work_memory}
use Rattle.work_memory.specs.Lengths.{passes3}
use Rattle.solve_by_rules.specs.Ruled.{rules_lent}
use Rattle.pcg.proofs.Moving.{moving_ruled}
use Rattle.pcg.proofs.velocity.solve_velocity_pcg_prepared.Goals as goal

pub slice_bounds-solve_prepared-end : goal.slice_bounds-solve_prepared-end
slice_bounds-solve_prepared-end c =
    search loops

pub slice_bounds-solve_prepared-end-2 : goal.slice_bounds-solve_prepared-end-2
slice_bounds-solve_prepared-end-2 c =
    search loops

pub solve_prepared-requires : goal.solve_prepared-requires
solve_prepared-requires c =
    search loops

pub returns : goal.returns
returns c =
    let rules = rules_lent c.args.rows (length c.args.rule_words.now) (length c.args.rule_tolerances.now) (length c.args.rule_numbers.now) in
    let passed = passes3 c.args.rows c.args.bodies c.args.mode c.args.numbers.now c.args.words.now c.args.masses.now c.args.solution.now c.args.impulses.now (work_memory c.args.jacobians.now c.args.links.now c.args.tolerances.now c.args.diagonal.now c.args.residual.now c.args.pending.now c.args.direction.now c.args.product.now c.args.body_impulses.now c.args.pattern.now c.args.order.now c.args.values.now) in
    moving_ruled rules c.args.rows (length c.args.given.now) passed _ c.no_centres-2-1.given c.solve_prepared.ensures
