use Rattle.mini_context.proofs.Foreigns.{steady_told}
use Rattle.mini_context.proofs.laws.steady_tells.Goals as goal

pub returns : goal.returns
returns c = steady_told
