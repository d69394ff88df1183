use Rattle.mini_context.proofs.Uses.{alike}
use Rattle.mini_context.proofs.laws.uses_tell.Goals as goal

pub returns : goal.returns
returns c = alike
