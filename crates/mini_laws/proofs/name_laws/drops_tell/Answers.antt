use Rattle.mini_laws.proofs.Dropping.{left_over}
use Rattle.mini_laws.proofs.name_laws.drops_tell.Goals as goal

pub returns : goal.returns
returns c = left_over
