use Rattle.std.proofs.Common.{length}
use Rattle.mini_steady.proofs.around.+is_let_around.Given as goal

abbrev pub decreases-is_let_around : goal.decreases-is_let_around
decreases-is_let_around l = length l.nodes.now
