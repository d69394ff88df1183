use Rattle.mini_laws.proofs.Places.{renamed_again}
use Rattle.mini_laws.proofs.name_laws.resolved_renamed.Goals as goal

pub returns : goal.returns
returns c = renamed_again
