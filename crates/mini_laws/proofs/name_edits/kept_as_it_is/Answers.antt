use Rattle.mini_laws.proofs.Changes.{as_it_is}
use Rattle.mini_laws.proofs.name_edits.kept_as_it_is.Goals as goal

pub returns : goal.returns
returns c = as_it_is
