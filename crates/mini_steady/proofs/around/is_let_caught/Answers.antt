use Rattle.mini_steady.proofs.AroundPlaces.{caught_there}
use Rattle.mini_steady.proofs.around.is_let_caught.Goals as goal

pub returns-in-len1-up : goal.returns-in-len1-up
returns-in-len1-up c = caught_there c.args.symbol.0 c.args.nodes.now c.first-item.result c.is_let_in.result c.in-len1-up.len_at_least c.first-item.is c.is_let_in.ensures
