use Rattle.mini_writer.proofs.Counted.{bytes_fit}
use Rattle.mini_writer.proofs.size_laws.read_bytes_fit.Goals as goal

pub returns : goal.returns
returns c = bytes_fit
