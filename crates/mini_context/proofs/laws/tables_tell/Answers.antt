use Rattle.mini_context.proofs.Shares.{tables_share}
use Rattle.mini_context.proofs.laws.tables_tell.Goals as goal

pub returns : goal.returns
returns c = tables_share
