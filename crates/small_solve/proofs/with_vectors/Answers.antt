-- `small_solve::with_vectors` meets its contract. Assumes nothing.
use mathlib.Core.Path.{refl, sym}
use native.Mathlib.Omega.{arith}
use lib.ListN.{length}
use lib.Seq.{length-take-le}
use Rattle.kapitsa_joint.specs.declared.kind.Kind.TheVariants.{Position}
use Rattle.own_memory.proofs.Lending.{lent_room, job_solved}
use Rattle.small_solve.proofs.with_vectors.Goals as goal

pub overflow_mul-jacobian_numbers : goal.overflow_mul-jacobian_numbers
overflow_mul-jacobian_numbers c =
    omega (arith, c.requires.rows_bound)

pub overflow_mul-body_links : goal.overflow_mul-body_links
overflow_mul-body_links c =
    omega (arith, c.requires.rows_bound)

pub overflow_mul-body_numbers : goal.overflow_mul-body_numbers
overflow_mul-body_numbers c =
    omega (arith, c.requires.rows_bound)

pub slice_bounds-jacobians-end : goal.slice_bounds-jacobians-end
slice_bounds-jacobians-end c =
    omega (arith, c.requires.rows_bound)

pub slice_bounds-solve_position_pcg_prepared-end : goal.slice_bounds-solve_position_pcg_prepared-end
slice_bounds-solve_position_pcg_prepared-end c =
    sym (length-take-le _ _ (omega (arith, c.requires.rows_bound)))

pub slice_bounds-links-end : goal.slice_bounds-links-end
slice_bounds-links-end c =
    omega (arith, c.requires.rows_bound)

pub slice_bounds-solve_position_pcg_prepared-end-2 : goal.slice_bounds-solve_position_pcg_prepared-end-2
slice_bounds-solve_position_pcg_prepared-end-2 c =
    sym (length-take-le _ _ (omega (arith, c.requires.rows_bound)))

pub slice_bounds-tolerances-end : goal.slice_bounds-tolerances-end
slice_bounds-tolerances-end c =
    omega (arith, c.requires.rows_bound)

pub slice_bounds-solve_position_pcg_prepared-end-3 : goal.slice_bounds-solve_position_pcg_prepared-end-3
slice_bounds-solve_position_pcg_prepared-end-3 c =
    sym (length-take-le _ _ (omega (arith, c.requires.rows_bound)))

pub slice_bounds-diagonal-end : goal.slice_bounds-diagonal-end
slice_bounds-diagonal-end c =
    omega (arith, c.requires.rows_bound)

pub slice_bounds-solve_position_pcg_prepared-end-4 : goal.slice_bounds-solve_position_pcg_prepared-end-4
slice_bounds-solve_position_pcg_prepared-end-4 c =
    sym (length-take-le _ _ (omega (arith, c.requires.rows_bound)))

pub slice_bounds-residual-end : goal.slice_bounds-residual-end
slice_bounds-residual-end c =
    omega (arith, c.requires.rows_bound)

pub slice_bounds-solve_position_pcg_prepared-end-5 : goal.slice_bounds-solve_position_pcg_prepared-end-5
slice_bounds-solve_position_pcg_prepared-end-5 c =
    sym (length-take-le _ _ (omega (arith, c.requires.rows_bound)))

pub slice_bounds-pending-end : goal.slice_bounds-pending-end
slice_bounds-pending-end c =
    omega (arith, c.requires.rows_bound)

pub slice_bounds-solve_position_pcg_prepared-end-6 : goal.slice_bounds-solve_position_pcg_prepared-end-6
slice_bounds-solve_position_pcg_prepared-end-6 c =
    sym (length-take-le _ _ (omega (arith, c.requires.rows_bound)))

pub slice_bounds-direction-end : goal.slice_bounds-direction-end
slice_bounds-direction-end c =
    omega (arith, c.requires.rows_bound)

pub slice_bounds-solve_position_pcg_prepared-end-7 : goal.slice_bounds-solve_position_pcg_prepared-end-7
slice_bounds-solve_position_pcg_prepared-end-7 c =
    sym (length-take-le _ _ (omega (arith, c.requires.rows_bound)))

pub slice_bounds-product-end : goal.slice_bounds-product-end
slice_bounds-product-end c =
    omega (arith, c.requires.rows_bound)

pub slice_bounds-solve_position_pcg_prepared-end-8 : goal.slice_bounds-solve_position_pcg_prepared-end-8
slice_bounds-solve_position_pcg_prepared-end-8 c =
    sym (length-take-le _ _ (omega (arith, c.requires.rows_bound)))

pub slice_bounds-body_impulses-end : goal.slice_bounds-body_impulses-end
slice_bounds-body_impulses-end c =
    omega (arith, c.requires.rows_bound)

pub slice_bounds-solve_position_pcg_prepared-end-9 : goal.slice_bounds-solve_position_pcg_prepared-end-9
slice_bounds-solve_position_pcg_prepared-end-9 c =
    sym (length-take-le _ _ (omega (arith, c.requires.rows_bound)))

pub returns : goal.returns
returns c =
    job_solved Position c.args.rows c.args.bodies c.args.mode c.args.numbers.now c.args.words.now c.args.masses.now c.args.solution.now c.args.impulses.now _ (length c.args.centres.now) (length c.args.new_centres.now) (length c.args.rule_words.now) (length c.args.rule_tolerances.now) (length c.args.rule_numbers.now) 0 c.requires.rule_numbers_value (lent_room 128 64 c.requires.rows_bound c.requires.factor_room _ _ _ _ _ _ _ _ _ refl refl refl refl refl refl refl refl refl) c.solve_position_pcg_prepared.ensures
