use Rattle.mini_model.proofs.Units.{bytes_of-units_of}
use Rattle.mini_model.proofs.laws.bytes_of_units.Goals as goal

pub returns : goal.returns
returns c = bytes_of-units_of
