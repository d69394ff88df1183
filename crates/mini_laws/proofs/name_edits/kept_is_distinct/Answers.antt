use Rattle.mini_laws.proofs.Changes.{distinct}
use Rattle.mini_laws.proofs.name_edits.kept_is_distinct.Goals as goal

pub returns : goal.returns
returns c = distinct
