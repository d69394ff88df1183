use Rattle.std.proofs.Common.{◌≡◌, drop}
use Rattle.mini_model.specs.Tree.{children, node_count}
use Rattle.mini_node.specs.Children.{trees_of}
use Rattle.mini_writer.specs.Written.{trees_data}
use Rattle.mini_writer.proofs.Lists.{with_values}
use Rattle.mini_writer.proofs.walk.+value.Given as goal

abbrev pub invariant-loop-part : goal.invariant-loop-part
invariant-loop-part l = with_values l.below.items (trees_data (trees_of (drop l.part-index l.parts))) ≡ trees_data (children l.node)

abbrev pub decreases-value : goal.decreases-value
decreases-value a = node_count a.node.now
