use Rattle.std.proofs.Common.{length}
use Rattle.mini_steady.proofs.bindings.+is_any_bound.Given as goal

abbrev pub decreases-is_any_bound : goal.decreases-is_any_bound
decreases-is_any_bound l = length l.nodes.now
