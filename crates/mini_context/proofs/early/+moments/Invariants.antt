use Rattle.std.proofs.Common.{◌+◌, ◌*◌}
use Rattle.mini_model.specs.Tree.{children, node_count, shape_of}
use Rattle.mini_node.specs.Children.{number_of}
use Rattle.mini_laws.specs.Mentions.{around_child}
use Rattle.mini_laws.specs.Scopes.{use_of}
use Rattle.mini_context.proofs.Passing.{UntilFrom}
use Rattle.mini_context.proofs.early.+moments.Given as goal

abbrev pub decreases-pass_node : goal.decreases-pass_node
decreases-pass_node l = 4 * node_count l.node.now + 3

abbrev pub decreases-pass_below : goal.decreases-pass_below
decreases-pass_below l = 4 * node_count l.node.now + 2

abbrev pub decreases-pass_child : goal.decreases-pass_child
decreases-pass_child l = 4 * node_count l.node.now

abbrev pub decreases-pass_rest : goal.decreases-pass_rest
decreases-pass_rest l = 4 * node_count l.node.now + 1

abbrev pub invariant-pass_rest-loop-at : goal.invariant-pass_rest-loop-at
invariant-pass_rest-loop-at l = UntilFrom (use_of (shape_of l.node) l.reading.usage) (around_child (shape_of l.node) l.reading.around (number_of l.node)) (children l.node) l.from l.at l.initial.moments l.moments
