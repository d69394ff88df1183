use Rattle.std.proofs.Common.{◌≡◌}
use Rattle.mini_node.specs.Children.{rest_children}
use Rattle.mini_rows.specs.Past.{any_write}
use Rattle.mini_steady.proofs.writing.+writing.Given as goal

abbrev pub invariant-any_write-loop-at : goal.invariant-any_write-loop-at
invariant-any_write-loop-at l = any_write l.fn.name l.fn.nodes ≡ any_write l.fn.name (rest_children l.at l.fn.nodes)
