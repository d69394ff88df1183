use Rattle.mini_laws.proofs.Places.{bare_again}
use Rattle.mini_laws.proofs.name_laws.resolved_of_bare.Goals as goal

pub returns : goal.returns
returns c = bare_again
