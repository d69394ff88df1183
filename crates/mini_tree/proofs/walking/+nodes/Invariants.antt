use Rattle.std.proofs.Common.{◌+◌, ◌*◌}
use Rattle.mini_model.specs.Tree.{node_count}
use Rattle.mini_tree.specs.Context.{KnowsAsBefore, ByKnown}
use Rattle.mini_tree.proofs.Walks.{WalkedTo}
use Rattle.mini_tree.proofs.walking.+nodes.Given as goal

abbrev pub decreases-walk : goal.decreases-walk
decreases-walk g l = 2 * node_count l.node.now + 1

abbrev pub decreases-walk_children : goal.decreases-walk_children
decreases-walk_children g l = 2 * node_count l.node.now

abbrev pub invariant-walk_children-loop-at : goal.invariant-walk_children-loop-at
invariant-walk_children-loop-at g l = record {
  known : KnowsAsBefore g.C.Context.knows l.fn.context l.context;
  walked : ByKnown g.C.Context.knows l.fn.context (λ o q. WalkedTo (g.R.Rule.gives o q) (g.R.Rule.rests o q) l.place l.at l.fn.node l.node l.changed);
}
