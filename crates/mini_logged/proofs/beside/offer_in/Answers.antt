use Rattle.std.proofs.Common.{arith}
use Rattle.mini_logged.proofs.Sites.{past_list}
use Rattle.mini_logged.proofs.beside.offer_in.Goals as goal

pub returns-else-at-len : goal.returns-else-at-len
returns-else-at-len c = past_list c.args.sequences c.args.nodes.now c.args.at (omega (arith, c.if-at-len.false, c.len.ensures))
