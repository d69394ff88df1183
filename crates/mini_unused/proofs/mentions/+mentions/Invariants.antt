use Rattle.std.proofs.Common.{◌≡◌}
use Rattle.mini_node.specs.Children.{rest_children}
use Rattle.mini_rows.specs.Unused.{any_names}
use Rattle.mini_unused.proofs.mentions.+mentions.Given as goal

abbrev pub invariant-is_mentioned_from-loop-at : goal.invariant-is_mentioned_from-loop-at
invariant-is_mentioned_from-loop-at l = any_names l.fn.name (rest_children l.fn.from l.fn.nodes) ≡ any_names l.fn.name (rest_children l.at l.fn.nodes)
