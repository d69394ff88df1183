use Rattle.mini_accept.proofs.Shaped.{program_shaped}
use Rattle.mini_accept.proofs.laws.accepted_is_well_shaped.Goals as goal

pub returns : goal.returns
returns c = program_shaped
