use Rattle.std.proofs.Common.{◌≡◌, ℕ, ◌+◌, ◌*◌, ◌≤◌}
use Rattle.mini_model.specs.Tree.{node_count, node_counts}
use Rattle.mini_laws.specs.Scopes.{use_of}
use Rattle.mini_scope.specs.ScopeAt.{scope_at}
use Rattle.mini_scope.proofs.Walk.{Walked}
use Rattle.mini_scope.proofs.numbering.+resolve.Given as goal

abbrev pub decreases-resolve_node : goal.decreases-resolve_node
decreases-resolve_node l = 2 * node_count l.node.now

abbrev pub decreases-resolve_nodes : goal.decreases-resolve_nodes
decreases-resolve_nodes l = 2 * node_counts l.nodes.now + 1

abbrev pub invariant-resolve_nodes-loop-at : goal.invariant-resolve_nodes-loop-at
invariant-resolve_nodes-loop-at l =
    Walked (scope_at l.initial.scopes) (use_of l.shape l.usage) l.initial.next l.initial.environment l.initial.nodes l.at l.next l.environment l.nodes
    × ((k : ℕ) → l.at ≤ k → scope_at l.scopes k ≡ scope_at l.initial.scopes k)
