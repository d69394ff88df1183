use Rattle.mini_writer.proofs.Few.{fitting_is_countable}
use Rattle.mini_writer.proofs.size_laws.accepted_is_countable.Goals as goal

pub returns : goal.returns
returns c = fitting_is_countable
