use Rattle.mini_laws.proofs.Changes.{by_drop}
use Rattle.mini_laws.proofs.name_edits.kept_by_drop.Goals as goal

pub returns : goal.returns
returns c = by_drop
