use Rattle.std.proofs.Common.{length}
use Rattle.mini_scope.proofs.pointer.+pointers.Given as goal

abbrev pub decreases-under_path : goal.decreases-under_path
decreases-under_path l = length l.path.now
