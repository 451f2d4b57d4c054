-- `mass_operator::product::global_velocity_matrix_vector` meets its contract. Assumes nothing.
use borrow.Author.Rules.{rules}
use Rattle.compact_table.proofs.Linked.{linked_same}
use Rattle.mass_operator.proofs.Answers.{multiplied_is}
use Rattle.mass_operator.proofs.product.global_velocity_matrix_vector.Goals as goal

pub values-requires : goal.values-requires
values-requires c =
    record { product_in_bounds = (search rules, search rules); responses_len = (search rules, search rules, linked_same _ _ _ _ c.requires.bodies_in_bounds.2 c.requires.linked) }

pub returns : goal.returns
returns c =
    multiplied_is _ _ _ c.args.vector.now _ _ _ _ c.requires.linked c.sum_impulses.ensures c.respond.ensures c.values.ensures.product_after c.requires.bodies_in_bounds.2 c.values.ensures.value
