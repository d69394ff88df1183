use Rattle.mini_writer.proofs.Shallow.{fitting_read}
use Rattle.mini_writer.proofs.size_laws.fitting_is_read.Goals as goal

pub returns : goal.returns
returns c = fitting_read
