use Rattle.std.proofs.Common.{◌≡◌}
use Rattle.mini_node.specs.Children.{rest_children}
use Rattle.mini_stmt.specs.DropUnreached.{after_jump}
use Rattle.mini_stmt.proofs.rewrites.drop_unreached.ends_at.Given as goal

abbrev pub invariant-loop-at : goal.invariant-loop-at
invariant-loop-at l = after_jump (rest_children l.at l.list) ≡ after_jump l.list
