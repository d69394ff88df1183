use Rattle.std.proofs.Common.{length}
use Rattle.mini_steady.proofs.around.+is_let_before.Given as goal

abbrev pub decreases-is_let_before : goal.decreases-is_let_before
decreases-is_let_before l = length l.nodes.now
