use Rattle.mini_accept.proofs.Depths.{one_tree}
use Rattle.mini_accept.proofs.laws.accepts_one_tree.Goals as goal

pub returns : goal.returns
returns c = one_tree
