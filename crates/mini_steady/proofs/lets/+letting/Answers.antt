use Rattle.std.proofs.Common.{arith}
use Rattle.mini_steady.proofs.Letting.{listed_rest}
use Rattle.mini_steady.proofs.Rests.{rest_smaller}
use Rattle.mini_steady.proofs.lets.+letting.Goals as goal

pub is_let_among-is_let_among-requires : goal.is_let_among-is_let_among-requires
is_let_among-is_let_among-requires t c = (omega (arith, c.decreases, rest_smaller c.args.nodes.now c.in-len1-up.len_at_least), tt)

pub is_let_among-returns-else-is_let_in : goal.is_let_among-returns-else-is_let_in
is_let_among-returns-else-is_let_in t c = listed_rest c.args.symbol.0 c.args.nodes.now c.first-item.result c.is_let_among.result c.in-len1-up.len_at_least c.first-item.is c.if-is_let_in.ensures c.is_let_among.ensures
