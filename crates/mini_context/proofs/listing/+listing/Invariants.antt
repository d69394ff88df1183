use Rattle.std.proofs.Common.{◌+◌, ◌*◌}
use Rattle.mini_model.specs.Tree.{node_count}
use Rattle.mini_scope.specs.ScopeAt.{scope_at}
use Rattle.mini_context.proofs.Patterns.{Walked}
use Rattle.mini_context.proofs.listing.+listing.Given as goal

abbrev pub decreases-list_scopes : goal.decreases-list_scopes
decreases-list_scopes l = 2 * node_count l.node.now + 1

abbrev pub decreases-list_below : goal.decreases-list_below
decreases-list_below l = 2 * node_count l.node.now

abbrev pub invariant-list_below-loop-at : goal.invariant-list_below-loop-at
invariant-list_below-loop-at l = Walked l.reading l.node (scope_at l.initial.scopes) l.nodes l.at l.scopes l.initial.tables l.tables l.initial.environment l.environment l.initial.pattern_writes.items l.pattern_writes.items l.may_eval
