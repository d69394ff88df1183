use Rattle.std.proofs.Common.{true, false}
use Rattle.mini_steady.proofs.AroundPlaces.{head_there}
use Rattle.mini_steady.proofs.around.is_let_in_head.Goals as goal

pub returns-then-is_lexical : goal.returns-then-is_lexical
returns-then-is_lexical c = head_there c.args.symbol.0 c.args.nodes.now c.first-item.result c.is_let_in.result true c.in-len1-up.len_at_least c.first-item.is c.if-is_lexical.ensures c.is_let_in.ensures

pub returns-else-is_lexical : goal.returns-else-is_lexical
returns-else-is_lexical c = head_there c.args.symbol.0 c.args.nodes.now c.first-item.result c.is_lexical.result false c.in-len1-up.len_at_least c.first-item.is c.if-is_lexical.ensures c.if-is_lexical.false
