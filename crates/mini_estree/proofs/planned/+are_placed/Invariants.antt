use Rattle.std.proofs.Common.{length}
use Rattle.mini_estree.proofs.planned.+are_placed.Given as goal

abbrev pub decreases-are_placed : goal.decreases-are_placed
decreases-are_placed l = length l.children.now
