use Rattle.std.proofs.Common.{◌+◌, ◌*◌}
use Rattle.mini_model.specs.Tree.{node_count, node_counts}
use Rattle.mini_syntax.proofs.BindingKeys.{Sought}
use Rattle.mini_syntax.proofs.rewrites.substitute_binding_property.+baring.Given as goal

abbrev pub decreases-bare_part : goal.decreases-bare_part
decreases-bare_part l = 2 * node_count l.node.now

abbrev pub decreases-bare_first : goal.decreases-bare_first
decreases-bare_first l = 2 * node_counts l.parts.now + 1

abbrev pub invariant-bare_first-loop-at : goal.invariant-bare_first-loop-at
invariant-bare_first-loop-at l = Sought l.at l.fn.parts l.parts
