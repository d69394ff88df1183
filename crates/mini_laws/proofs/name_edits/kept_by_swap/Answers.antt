use Rattle.mini_laws.proofs.Changes.{by_swap}
use Rattle.mini_laws.proofs.name_edits.kept_by_swap.Goals as goal

pub returns : goal.returns
returns c = by_swap
