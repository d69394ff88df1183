use Rattle.std.proofs.Common.{◌≡◌, take}
use Rattle.mini_scope.proofs.declarations.copy_path.Given as goal

abbrev pub invariant-loop-index : goal.invariant-loop-index
invariant-loop-index l = l.copy ≡ take l.index-index l.index-items
