use Rattle.mini_model.proofs.Units.{units_of-bytes_of}
use Rattle.mini_model.proofs.laws.units_of_bytes.Goals as goal

pub returns : goal.returns
returns c = units_of-bytes_of
