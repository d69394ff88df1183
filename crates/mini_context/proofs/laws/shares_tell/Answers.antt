use Rattle.mini_context.proofs.Shares.{shared_by_symbol}
use Rattle.mini_context.proofs.laws.shares_tell.Goals as goal

pub returns : goal.returns
returns c = shared_by_symbol
