use Rattle.mini_context.proofs.Foreigns.{bodies_told}
use Rattle.mini_context.proofs.laws.bodies_told.Goals as goal

pub returns : goal.returns
returns c = bodies_told
