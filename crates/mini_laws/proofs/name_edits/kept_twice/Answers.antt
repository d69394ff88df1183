use Rattle.mini_laws.proofs.Changes.{twice}
use Rattle.mini_laws.proofs.name_edits.kept_twice.Goals as goal

pub returns : goal.returns
returns c = twice
