use Rattle.mini_laws.proofs.Drops.{dropped}
use Rattle.mini_laws.proofs.name_moves.drop_name.Goals as goal

pub returns : goal.returns
returns c = dropped
