use Rattle.std.proofs.Common.{◌≡◌}
use Rattle.mini_node.specs.Children.{rest_children}
use Rattle.mini_logic.specs.DeMorganForVoidExpr.{turns_before_last}
use Rattle.mini_logic.proofs.rewrites.de_morgan_for_void_expr.turned_at.Given as goal

abbrev pub invariant-loop-at : goal.invariant-loop-at
invariant-loop-at l = turns_before_last (rest_children l.at l.nodes) ≡ turns_before_last l.nodes
