use Rattle.mini_less.proofs.SequencesLess as law
use Rattle.mini_less.proofs.sequences_read_less.Goals as goal

pub returns : goal.returns
returns c = law.sequences_read_less
