use Rattle.std.proofs.Common.{length}
use Rattle.mini_lexical.proofs.held.+are_held.Given as goal

abbrev pub decreases-are_held : goal.decreases-are_held
decreases-are_held g l = length l.nodes.now
