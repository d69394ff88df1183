use Rattle.std.proofs.Common.{◌≡◌, ◌+◌, ◌*◌}
use Rattle.mini_model.specs.Tree.{node_count, node_counts}
use Rattle.mini_node.specs.Children.{rest_children}
use Rattle.mini_laws.specs.Shared.{any_names_arguments, is_of_function}
use Rattle.mini_context.proofs.reach.+arguments.Given as goal

abbrev pub decreases-names_arguments : goal.decreases-names_arguments
decreases-names_arguments l = 3 * node_count l.node.now

abbrev pub decreases-any_names_arguments : goal.decreases-any_names_arguments
decreases-any_names_arguments l = 3 * node_counts l.nodes.now + 2

abbrev pub decreases-child_names_arguments : goal.decreases-child_names_arguments
decreases-child_names_arguments l = 3 * node_count l.child.now + 1

abbrev pub invariant-any_names_arguments-loop-at : goal.invariant-any_names_arguments-loop-at
invariant-any_names_arguments-loop-at l = any_names_arguments (is_of_function l.shape) 0 l.nodes ≡ any_names_arguments (is_of_function l.shape) l.at (rest_children l.at l.nodes)
