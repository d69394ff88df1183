use Rattle.mini_laws.proofs.NamesApart.{moved_out}
use Rattle.mini_laws.proofs.name_moves.move_out.Goals as goal

pub returns : goal.returns
returns c = moved_out
