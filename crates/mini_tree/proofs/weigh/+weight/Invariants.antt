use Rattle.std.proofs.Common.{◌≡◌, ◌+◌, ◌≤◌, drop}
use Rattle.mini_model.specs.Tree.{node_count, shape_of}
use Rattle.mini_model.specs.Position.{child_position}
use Rattle.mini_model.specs.Weight.{capped, weight}
use Rattle.mini_node.specs.Children.{trees_of}
use Rattle.mini_tree.proofs.Sums.{weights_from}
use Rattle.mini_tree.proofs.weigh.+weight.Given as goal

abbrev pub decreases-weight : goal.decreases-weight
decreases-weight l = node_count l.node.now

abbrev pub invariant-loop-child : goal.invariant-loop-child
invariant-loop-child l = record {
  place : l.at ≡ l.child-index;
  total : capped (l.total + weights_from (child_position (shape_of l.node) l.place l.count) l.at (trees_of (drop l.child-index l.child-items))) ≡ capped (weight l.place l.node);
  within : l.total ≤ 18446744073709551615;
}
