-- V1 to V5 and V1's check, computed together from the definitions. Assumes nothing.
use mathlib.Core.Path.{refl}
use lib.Ieee.{of_int, neg, of_bits, add, sub, mul, div, le, lt, eq}
use Rattle.loops.specs.Every.{every}
use Rattle.loops.specs.Tabulate.{tabulate}
use Rattle.loops.specs.Run.{check, on, turns}
use Rattle.loops.specs.Judge.{judge, judged, test}
use Rattle.binary64.specs.Order.{absolute, larger}
use Rattle.binary64.specs.Answer.{root_of}
use Rattle.binary64.specs.SquareRoot.{square_root}
use Rattle.binary64.specs.Units.{units_of}
use Rattle.kapitsa_math.specs.Vector.{dot_of, add_of, scale_of, abs_of, is_finite_of}
use Rattle.kapitsa_math.specs.Matrix.{mul_vector_of, abs_columns_of, finite_columns_of}
use Rattle.kapitsa_joint.specs.Row.{jacobian_of}
use Rattle.kapitsa_joint.specs.Mass.{cross_of, diagonal_of}
use Rattle.kapitsa_joint.specs.Tolerance.{dimension_of}
use Rattle.kapitsa_joint.specs.Maxima.{raised_by, maxima_by}
use Rattle.joint_refusals.specs.Tolerances.{tolerance_fits}
use Rattle.joint_refusals.specs.Refusals.{words_fit_of, passes4, opens_of, velocity_opens_of, mass_finite_of, passes6, centres_finite, passes20, bodies_below_of, jacobians_finite_of, scalars_finite_of, scalars_in_range_of, is_valid_of, passes7}
use Rattle.rules.specs.Rules.{rule_fits, passes27, applies, only_below, rule_for, passes28}
use Rattle.mass_operator.specs.Operator.{add_impulse_of, add_row_of, impulse_at, response_of, response_at, row_value_of, value_at}
use Rattle.mass_operator.specs.Flat.{product_of, impulses_of, flat_impulses}
use Rattle.mass_operator.specs.Applied.{all_finite_of}
use Rattle.sparse.specs.Count.{count}
use Rattle.sparse.specs.Triangle.{put}
use Rattle.sparse.specs.Cholesky.{less, less_turn, reduced_of, quotient_of, factored, column_of, column_turn, factors_run, squares_of, fit, root_value, pivot_of, row_turn, factor_run}
use Rattle.pairs.specs.Pairs.{shares_of, pattern_of, row_pairs, pair_count, arm_of, cross_at, sum_of, pair_of, pairs_of, finite_pair, finite_pairs}
use Rattle.pairs.specs.Answers.{judged_pairs, pairs_run}
use Rattle.incomplete_cholesky.specs.Build.{cholesky_run}
use Rattle.block_factor.specs.Blocks.{block_value, one_pair, block_less, less_of, block_pivot, block_factor, cell_of}
use Rattle.block_factor.specs.Answers.{cell_run, block_column_turn, block_row_turn, rows_run, block_of}
use Rattle.block_jacobi.specs.Runs.{begins, leading, run_length}
use Rattle.preconditioner.specs.Factor.{block_at, block_judged, factor_judged}
use Rattle.preconditioner.specs.Shift.{shifted_by, shifted, passes25}
use Rattle.preconditioner.specs.Apply.{diagonal_solve_of, preconditioned}
use Rattle.recurrence.specs.Vectors.{dot_to, dot_product_of, plus_scaled, less_scaled}
use Rattle.recurrence.specs.Step.{alpha_of, updated_of, advance_of, product_fit, first_from}
use Rattle.position.specs.Prepare.{row_diagonal, passes8, is_low, passes9, row_judged, valid_judged, diagonals_judged, rows_judged, prepared_diagonal, prepared_residual, diagonals, residuals}
use Rattle.position.specs.Residual.{meets_of, maxima_of}
use Rattle.check_range.specs.Range.{in_range, vec_in_range, mat_in_range, jacobian_in_range, mass_in_range, row_in_range, table_in_range}
use Rattle.check_measure.specs.Verdict.{size_of_row, size_of_mass, measured_of, weight_of, radius_factor, radius_of, reach_of, value_of, size_of, radius, reach, closes, largest_reaches}
use Rattle.check_answer.specs.Answer.{verdict_of, check_of}
use Rattle.steps.specs.Solve.{turn, counting, solve}
use Rattle.solve_method.specs.Method.{passes5, opening_of, factor_here, begin_of, first_of, gains_of, maxima_in, finish_of}
use Rattle.theorems.specs.Sheets.{AllSame}
use Rattle.theorems.specs.Speeds.{speed_sheets}

pub all_same : AllSame speed_sheets
unfolding AllSame tolerance_fits rule_fits passes27 applies only_below rule_for passes28 solve opening_of passes5 judge test check on counting begin_of judged turns rows_judged row_judged valid_judged diagonals_judged passes8 passes9 is_low row_diagonal prepared_diagonal prepared_residual diagonals residuals tabulate every meets_of first_of factor_here factor_judged shifted shifted_by passes25 preconditioned diagonal_solve_of first_from product_fit dot_product_of dot_to turn advance_of alpha_of updated_of plus_scaled less_scaled product_of all_finite_of value_at response_at response_of impulse_at add_row_of add_impulse_of row_value_of finish_of gains_of maxima_in maxima_of maxima_by raised_by dimension_of impulses_of flat_impulses larger absolute dot_of add_of scale_of mul_vector_of jacobian_of diagonal_of cross_of passes4 words_fit_of opens_of velocity_opens_of passes6 mass_finite_of centres_finite passes20 finite_columns_of is_finite_of is_valid_of bodies_below_of jacobians_finite_of scalars_finite_of scalars_in_range_of neg of_bits add sub mul div le lt eq cholesky_run pairs_run judged_pairs pair_count pattern_of pairs_of pair_of finite_pairs finite_pair factor_run row_turn factors_run column_turn column_of factored quotient_of reduced_of less_turn less count put pivot_of squares_of fit root_value root_of shares_of row_pairs arm_of cross_at sum_of square_root units_of block_value one_pair block_less less_of block_pivot block_factor cell_of cell_run block_column_turn block_row_turn rows_run block_of begins leading run_length block_at block_judged check_of verdict_of closes largest_reaches reach reach_of radius value_of size_of measured_of radius_of weight_of radius_factor abs_of abs_columns_of size_of_row size_of_mass of_int passes7 table_in_range row_in_range jacobian_in_range vec_in_range mass_in_range mat_in_range in_range
all_same = (refl, (refl, (refl, (refl, (refl, (refl, (refl, (refl, (refl, (refl, (refl, (refl, (refl, (refl, (refl, (refl, (refl, tt)))))))))))))))))
