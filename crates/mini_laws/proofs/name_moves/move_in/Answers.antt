use Rattle.mini_laws.proofs.NamesApart.{moved_into}
use Rattle.mini_laws.proofs.name_moves.move_in.Goals as goal

pub returns : goal.returns
returns c = moved_into
