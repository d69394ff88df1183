use Rattle.mini_laws.proofs.Whole.{scoped}
use Rattle.mini_laws.proofs.name_laws.resolved_is_scoped.Goals as goal

pub returns : goal.returns
returns c = scoped
