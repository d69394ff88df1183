use Rattle.mini_writer.proofs.Units.{shaped_units}
use Rattle.mini_writer.proofs.Programs.{units_accepted}
use Rattle.mini_writer.proofs.laws.written_is_accepted.Goals as goal

pub returns : goal.returns
returns c t shaped = units_accepted t shaped (shaped_units t shaped)
