use Rattle.mini_laws.proofs.Places.{resolved_distinct}
use Rattle.mini_laws.proofs.name_laws.resolved_is_distinct.Goals as goal

pub returns : goal.returns
returns c = resolved_distinct
