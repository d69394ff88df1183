use Rattle.std.proofs.Common.{length}
use Rattle.mini_logic.proofs.rewrites.minimize_for_statement.+are_unscoped.Given as goal

abbrev pub decreases-are_unscoped : goal.decreases-are_unscoped
decreases-are_unscoped l = length l.nodes.now
