use Rattle.mini_accept.proofs.Shaped.{program_shaped}
use Rattle.mini_writer.proofs.Units.{shaped_units}
use Rattle.mini_writer.proofs.Programs.{units_accepted}
use Rattle.mini_writer.proofs.laws.read_is_written.Goals as goal

pub returns : goal.returns
returns c d t (k, n, read) = let shaped = program_shaped k d t n read in units_accepted t shaped (shaped_units t shaped)
