use Rattle.std.proofs.Common.{◌≡◌, ℕ, ◌+◌, ◌*◌, ◌≤◌, ◌++◌}
use Rattle.mini_model.specs.Tree.{node_count, node_counts}
use Rattle.mini_node.specs.Children.{rest_children}
use Rattle.mini_laws.specs.Scopes.{use_of}
use Rattle.mini_laws.specs.Symbols.{declared_from}
use Rattle.mini_kept.specs.Carried.{symbol_numbers}
use Rattle.mini_scope.specs.ScopeAt.{scope_at}
use Rattle.mini_peephole.proofs.named.+symbols.Given as goal

abbrev pub decreases-push_symbols : goal.decreases-push_symbols
decreases-push_symbols l = 2 * node_count l.node.now

abbrev pub decreases-push_all_symbols : goal.decreases-push_all_symbols
decreases-push_all_symbols l = 2 * node_counts l.nodes.now + 1

abbrev pub invariant-push_all_symbols-loop-at : goal.invariant-push_all_symbols-loop-at
invariant-push_all_symbols-loop-at l =
    (l.found ++ symbol_numbers (declared_from (scope_at l.initial.scopes) (use_of l.shape l.usage) l.at (rest_children l.at l.nodes)) ≡ l.initial.found ++ symbol_numbers (declared_from (scope_at l.initial.scopes) (use_of l.shape l.usage) 0 l.nodes))
    × ((k : ℕ) → l.at ≤ k → scope_at l.scopes k ≡ scope_at l.initial.scopes k)
