use Rattle.mini_context.proofs.Foreigns.{tables_foreign}
use Rattle.mini_context.proofs.laws.foreign_tells.Goals as goal

pub returns : goal.returns
returns c = tables_foreign
