use Rattle.mini_laws.proofs.Changes.{below}
use Rattle.mini_laws.proofs.name_edits.kept_below.Goals as goal

pub returns : goal.returns
returns c = below
