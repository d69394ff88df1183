use Rattle.std.proofs.Common.{◌≡◌, ◌+◌, ◌≤◌, drop}
use Rattle.mini_model.specs.Tree.{node_count}
use Rattle.mini_model.specs.Weight.{capped}
use Rattle.mini_node.specs.Children.{trees_of}
use Rattle.mini_context.specs.Known.{reference_count, reference_counts}
use Rattle.mini_context.proofs.knowing.+reference_count.Given as goal

abbrev pub decreases-reference_count : goal.decreases-reference_count
decreases-reference_count l = node_count l.node.now

abbrev pub invariant-loop-child : goal.invariant-loop-child
invariant-loop-child l = record {
  total : capped (l.total + reference_counts (trees_of (drop l.child-index l.child-items))) ≡ capped (reference_count l.node);
  within : l.total ≤ 18446744073709551615;
}
